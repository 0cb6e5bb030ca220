-- State, the law of the rules: soundness is kept by every event, while there is a number for it.
-- Assumes nothing.
use Rattle.std.specs.Prelude.{◌<◌, true, List, ◌≡◌}
use Rattle.std.proofs.Common.{◌∙◌, arith}
use Rattle.kinds.specs.Kinds.{last_number}
use Rattle.records.specs.declared.Record.{Record}
use Rattle.state.specs.State.{with_count}
use Rattle.soundness.specs.Sound.{sound}
use Rattle.soundness.specs.SoundLaws.{sound_armed, sound_from, shape_count}
use Rattle.state.specs.Effect.{one_more, effects}
use Rattle.state.specs.EffectLaws.{one_more_below}
use Rattle.state.specs.declared.State.{State}
use Rattle.events.specs.declared.Event.{Event}
use Rattle.rules.specs.Rules.{verdict_of}
use Rattle.rules.specs.Script.{next}
use Rattle.rule_laws.specs.OutlineLaws.{effects_shape, effects_numbers}
use Rattle.rule_laws.specs.RefusalLaws.{records_no_status}
use Rattle.rule_laws.specs.KeptLaws.{records_shape}
use Rattle.rule_laws.specs.ScriptLaws.{next_form}

pub next-sound : (s : State) (e : Event) → sound s ≡ true → s.count < last_number → sound (next s e) ≡ true
next-sound s e ok below =
    rw (next_form s e)
    (sound_from (with_count (effects s records) (one_more s.count))
    (shape_count (effects s records) (one_more s.count) ∙ effects_shape records s (records_no_status s e) below ∙ records_shape s e ok)
    (rw (one_more_below s.count below)
    (effects_numbers records s (records_no_status s e) below (omega (arith, sound_armed s ok))).0))
  where
    records : List Record
    records = (verdict_of s e).records
