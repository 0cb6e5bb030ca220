-- State, the law of the rules: an event's records leave the shape of a sound state sound, and leave room for the STATUS. Each event is
-- tried in all outlines, once for all.
-- Assumes nothing.
use Rattle.std.specs.Prelude.{ℕ, ◌<◌, Bool, true, false, ◌||◌, List, ◌∷◌, ◌≡◌, refl, ltb, length}
use Rattle.std.proofs.lemmas.Bool.{false≢true, not-true}
use Rattle.std.proofs.Common.{sym, ◌∙◌, ltb-true}
use Rattle.kinds.specs.Choice.{every, some}
use Rattle.kinds.specs.ChoiceLaws.{and_left, and_right, every_none}
use Rattle.kinds.specs.Kinds.{flags}
use Rattle.kinds.specs.KindsLaws.{flag_every}
use Rattle.kinds.specs.declared.status.Status.{Status}
use Rattle.state.specs.State.{with_lci_awaited, with_lpa_awaited}
use Rattle.soundness.specs.Sound.{sound, shape_sound}
use Rattle.soundness.specs.SoundLaws.{sound_shape}
use Rattle.state.specs.Effect.{effects}
use Rattle.state.specs.declared.State.{State}
use Rattle.events.specs.declared.Event.{Event}
use Rattle.records.specs.Record.{most_records}
use Rattle.records.specs.declared.Record.{Record}
use Rattle.rules.specs.Rules.{rule_of, unheard, verdict_of}
use Rattle.rule_laws.specs.Refusals.{met, unmet}
use Rattle.rule_laws.specs.RefusalLaws.{verdict-records}
use Rattle.rule_laws.specs.Outline.{outline, every_outline, keeps, passes}
use Rattle.rule_laws.specs.OutlineLaws.{outline_shape, outline-every}

abbrev Tried : State → Event → Type 0
Tried s e = every_outline (passes s e) s ≡ true

-- the rule of a report reads whether the start is awaited: that is tried both ways, and so is the report
abbrev both_ways : (State → Bool → State) → (Bool → Event) → State → Bool
both_ways put report s = every (λ awaited. every (λ good. every_outline (passes (put s awaited) (report good)) (put s awaited)) flags) flags

both_ways_lem : (put : State → Bool → State) (report : Bool → Event) (s : State) (awaited good : Bool)
    → both_ways put report s ≡ true → Tried (put s awaited) (report good)
both_ways_lem put report s awaited good all =
    flag_every (λ g. every_outline (passes (put s awaited) (report g)) (put s awaited))
    (flag_every (λ x. every (λ g. every_outline (passes (put s x) (report g)) (put s x)) flags) all awaited)
    good

-- One test an event, so that none is dear, and a wrong rule is named -----------------------------------------------------------

started_tried : (s : State) → Tried s Event.Started
unfolding every_outline passes
started_tried s = refl

main_feed_on_tried : (s : State) → Tried s Event.MainFeedOn
unfolding every_outline passes
main_feed_on_tried s = refl

power_on_tried : (s : State) (mask : ℕ) → Tried s (Event.PowerOn mask)
unfolding every_outline passes
power_on_tried s mask = refl

power_off_tried : (s : State) (mask : ℕ) → Tried s (Event.PowerOff mask)
unfolding every_outline passes
power_off_tried s mask = refl

hold_enter_tried : (s : State) → Tried s Event.HoldEnter
unfolding every_outline passes
hold_enter_tried s = refl

hold_exit_tried : (s : State) → Tried s Event.HoldExit
unfolding every_outline passes
hold_exit_tried s = refl

saa_enter_tried : (s : State) → Tried s Event.SaaEnter
unfolding every_outline passes
saa_enter_tried s = refl

saa_exit_tried : (s : State) → Tried s Event.SaaExit
unfolding every_outline passes
saa_exit_tried s = refl

load_shed_tried : (s : State) → Tried s Event.LoadShed
unfolding every_outline passes
load_shed_tried s = refl

no_op_tried : (s : State) → Tried s Event.NoOp
unfolding every_outline passes
no_op_tried s = refl

cal_start_tried : (s : State) → Tried s Event.CalStart
unfolding every_outline passes
cal_start_tried s = refl

cal_abort_tried : (s : State) → Tried s Event.CalAbort
unfolding every_outline passes
cal_abort_tried s = refl

cal_other_tried : (s : State) → Tried s Event.CalOther
unfolding every_outline passes
cal_other_tried s = refl

lpa_start_tried : (s : State) (run : ℕ) → Tried s (Event.LpaStart run)
unfolding every_outline passes
lpa_start_tried s run = refl

lpa_stop_tried : (s : State) → Tried s Event.LpaStop
unfolding every_outline passes
lpa_stop_tried s = refl

lpa_other_tried : (s : State) → Tried s Event.LpaOther
unfolding every_outline passes
lpa_other_tried s = refl

too_start_tried : (s : State) (run : ℕ) (dwell : ℕ) → Tried s (Event.TooStart run dwell)
unfolding every_outline passes
too_start_tried s run dwell = refl

too_abort_tried : (s : State) → Tried s Event.TooAbort
unfolding every_outline passes
too_abort_tried s = refl

too_expired_tried : (s : State) (armed : ℕ) → Tried s (Event.TooExpired armed)
unfolding every_outline passes
too_expired_tried s armed = refl

cal_status_tried : (s : State) → both_ways with_lci_awaited Event.CalStatus s ≡ true
unfolding every_outline passes
cal_status_tried s = refl

cal_complete_tried : (s : State) → Tried s Event.CalComplete
unfolding every_outline passes
cal_complete_tried s = refl

lpa_status_tried : (s : State) → both_ways with_lpa_awaited Event.LpaStatus s ≡ true
unfolding every_outline passes
lpa_status_tried s = refl

lpa_complete_tried : (s : State) → Tried s Event.LpaComplete
unfolding every_outline passes
lpa_complete_tried s = refl

tried : (s : State) (e : Event) → Tried s e
tried s Event.Started = started_tried s
tried s Event.MainFeedOn = main_feed_on_tried s
tried s (Event.PowerOn mask) = power_on_tried s mask
tried s (Event.PowerOff mask) = power_off_tried s mask
tried s Event.HoldEnter = hold_enter_tried s
tried s Event.HoldExit = hold_exit_tried s
tried s Event.SaaEnter = saa_enter_tried s
tried s Event.SaaExit = saa_exit_tried s
tried s Event.LoadShed = load_shed_tried s
tried s Event.NoOp = no_op_tried s
tried s Event.CalStart = cal_start_tried s
tried s Event.CalAbort = cal_abort_tried s
tried s Event.CalOther = cal_other_tried s
tried s (Event.LpaStart run) = lpa_start_tried s run
tried s Event.LpaStop = lpa_stop_tried s
tried s Event.LpaOther = lpa_other_tried s
tried s (Event.TooStart run dwell) = too_start_tried s run dwell
tried s Event.TooAbort = too_abort_tried s
tried s (Event.TooExpired armed) = too_expired_tried s armed
tried s (Event.CalStatus good) = both_ways_lem with_lci_awaited Event.CalStatus s s.lci_awaited good (cal_status_tried s)
tried s Event.CalComplete = cal_complete_tried s
tried s (Event.LpaStatus good) = both_ways_lem with_lpa_awaited Event.LpaStatus s s.lpa_awaited good (lpa_status_tried s)
tried s Event.LpaComplete = lpa_complete_tried s

-- what passes and is not refused keeps the shape
passed_keeps : (unheard kept : Bool) (refusals : List (Status × Bool)) → unheard || (kept || some met refusals) ≡ true
    → every unmet ((Status.NotRun, unheard) ∷ refusals) ≡ true → kept ≡ true
passed_keeps true kept refusals passed free = absurd (false≢true free)
passed_keeps false true refusals passed free = refl
passed_keeps false false refusals passed free = sym (every_none unmet met (λ x free. not-true x.1 free) refusals free) ∙ passed

records_keep : (s : State) (e : Event) → sound s ≡ true → keeps (outline s) (verdict_of s e).records ≡ true
unfolding passes
records_keep s e ok =
    let shape : shape_sound (outline s) ≡ true = outline_shape s ∙ sound_shape s ok in
    verdict-records (λ (rs : List Record). keeps (outline s) rs ≡ true) s e shape
    (passed_keeps (unheard s e) (keeps (outline s) (rule_of s e).records) (rule_of s e).refusals
    (outline-every (passes s e) s shape (tried s e)))

pub records_shape : (s : State) (e : Event) → sound s ≡ true → shape_sound (effects (outline s) (verdict_of s e).records) ≡ true
records_shape s e ok =
    and_right (ltb (length (verdict_of s e).records) most_records) (shape_sound (effects (outline s) (verdict_of s e).records)) (records_keep s e ok)

-- there is room for the closing record
pub records-length : (s : State) (e : Event) → sound s ≡ true → length (verdict_of s e).records < most_records
records-length s e ok =
    ltb-true (length (verdict_of s e).records) most_records
    (and_left (ltb (length (verdict_of s e).records) most_records) (shape_sound (effects (outline s) (verdict_of s e).records)) (records_keep s e ok))
