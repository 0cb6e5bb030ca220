-- The interface, its one law: what the rules make of an event in a sound state is an event's draft. This file alone uses the laws of
-- the rules.
-- Assumes nothing.
use Rattle.std.specs.Prelude.{ℕ, ◌^◌, ◌<◌, true, [], ◌∷◌, ◌++◌, ◌≡◌, length}
use Rattle.std.proofs.Math.Path.{ap}
use Rattle.std.proofs.Common.{sym, ◌∙◌}
use Rattle.kinds.specs.Kinds.{last_number}
use Rattle.kinds.specs.Choice.{every}
use Rattle.events.specs.Event.{parts_of_event}
use Rattle.events.specs.declared.Event.{Event}
use Rattle.records.specs.Record.{record_in_range, v_fits}
use Rattle.records.specs.declared.Record.{Record}
use Rattle.layout.specs.Record.{records_bytes}
use Rattle.soundness.specs.Sound.{sound}
use Rattle.state.specs.Effect.{effects}
use Rattle.state.specs.EffectLaws.{one_more_below}
use Rattle.state.specs.declared.State.{State}
use Rattle.rules.specs.Rules.{verdict_of}
use Rattle.rules.specs.Script.{script, next}
use Rattle.rules.specs.Ruling.{ruling_of}
use Rattle.rule_laws.specs.RuleLaws.{script_form, records_no_status, records-length, script_range, script-fits, next_count, next-sound}
use Rattle.rule_laws.specs.RuleLaws.{ruling_sized, ruling_state, ruling_used, ruling-bytes}
use Rattle.fidelity.specs.Interface.{whole, Ruled}

module _ (s : State) (e : Event) (ok : sound s ≡ true) (below : s.count < last_number) where
  script-whole : script s e ≡ whole s (verdict_of s e).records (verdict_of s e).status
  script-whole =
      script_form s e
      ∙ ap (λ (n : ℕ). (verdict_of s e).records ++ Record.Status (verdict_of s e).status n ∷ []) (one_more_below s.count below)

  next-whole : next s e ≡ effects s (whole s (verdict_of s e).records (verdict_of s e).status)
  unfolding next
  next-whole = ap (effects s) script-whole

  pub ruled : (parts_of_event e).a < 2 ^ 32 → (parts_of_event e).b < 2 ^ 32 → Ruled s (ruling_of s e).draft
  ruled a b =
      record {
        actions = (verdict_of s e).records;
        status = (verdict_of s e).status;
        quiet = records_no_status s e;
        few = records-length s e ok;
        range = sym (ap (every record_in_range) script-whole) ∙ script_range s e ok;
        fit = sym (ap (every v_fits) script-whole) ∙ script-fits s e a b;
        sound = sym (ap sound next-whole) ∙ next-sound s e ok below;
        number = sym (ap (λ (t : State). t.count) next-whole) ∙ next_count s e below;
        state = ruling_state s e ok ∙ next-whole;
        used = ruling_used s e ok ∙ ap length script-whole;
        bytes = ruling-bytes s e ok ∙ ap records_bytes script-whole;
        long = (ruling_sized s e).1;
      }
