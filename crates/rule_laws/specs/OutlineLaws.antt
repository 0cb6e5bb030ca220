-- The outline of a state, laws: a test that passes in every outline passes in that of any state of sound shape; records do to a state
-- and to its outline the same, as far as the outline goes, and a timer that they start names the event that they belong to.
-- Assumes nothing.
use Rattle.std.specs.Prelude.{ℕ, ◌+◌, ◌<◌, ◌≤◌, Bool, true, false, List, [], ◌∷◌, ◌≡◌, refl}
use Rattle.std.proofs.Common.{sym, ap, subst, ◌∙◌, arith, ne_eqb}
use Rattle.std.proofs.lemmas.Bool.{not-true}
use Rattle.kinds.specs.Choice.{when, every}
use Rattle.kinds.specs.ChoiceLaws.{when_true, and_left, and_right}
use Rattle.kinds.specs.Kinds.{last_number, modes, tasks, lpa_modes, too_states, flags, flag_number}
use Rattle.kinds.specs.KindsLaws.{mode_every, task_every, lpa_mode_every, too_state_every, flag_every}
use Rattle.state.specs.State.{rebooted}
use Rattle.soundness.specs.Sound.{timer_on, calibration_sound, physics_sound, too_sound, boot_sound, tasks_sound, shape_sound}
use Rattle.soundness.specs.SoundLaws.{shape_clauses}
use Rattle.state.specs.State.{with_mode, with_lci, with_lpa, with_lpa_mode, with_saa, with_lci_awaited, with_lpa_awaited, with_too, with_count}
use Rattle.state.specs.Effect.{one_more, effect, effects}
use Rattle.state.specs.EffectLaws.{effect_count, one_more_below}
use Rattle.state.specs.declared.State.{State}
use Rattle.records.specs.Record.{not_status, is_status}
use Rattle.records.specs.declared.Record.{Record}
use Rattle.rule_laws.specs.Outline.{with_timer, outline, for_field, unbound, for_lpa_mode, for_saa, for_lpa, for_lci, for_timer, for_too, every_outline}

-- a timer, told whether it is on, is on so
timer_told : (n : ℕ) → timer_on (flag_number (timer_on n)) ≡ timer_on n
timer_told n = told (timer_on n)
  where
    told : (on : Bool) → timer_on (flag_number on) ≡ on
    told true = refl
    told false = refl

settled : (s : State) → outline (outline s) ≡ outline s
settled s = ap (with_timer (with_count s 1)) (timer_told s.armed)

pub outline_shape : (s : State) → shape_sound (outline s) ≡ shape_sound s
unfolding shape_sound calibration_sound physics_sound too_sound boot_sound tasks_sound
outline_shape s = rw (timer_told s.armed)

-- Tests of every outline -----------------------------------------------------------------------------------------------------

for_field-passes : {A : Type 0} (put : State → A → State) (values : List A) (clause test : State → Bool)
    → ((each : A → Bool) → every each values ≡ true → (x : A) → each x ≡ true)
    → (s : State) (x : A) → clause (put s x) ≡ true → for_field put values clause test s ≡ true → test (put s x) ≡ true
for_field-passes put values clause test all s x holds passed =
    when_true (clause (put s x)) (λ _. test (put s x)) (all (λ y. when (clause (put s y)) (λ _. test (put s y))) passed x) holds

pub outline-every : (test : State → Bool) (s : State) → shape_sound (outline s) ≡ true → every_outline test s ≡ true → test (outline s) ≡ true
unfolding every_outline
outline-every test s shape passed =
    let clauses = shape_clauses (outline s) shape in
    for_field-passes with_lpa_mode lpa_modes physics_sound test lpa_mode_every (outline s) s.lpa_mode clauses.1
    (for_field-passes with_saa flags unbound (for_lpa_mode test) flag_every (outline s) s.saa refl
    (for_field-passes with_lpa tasks tasks_sound (for_saa test) task_every (outline s) s.lpa clauses.4
    (for_field-passes with_lci tasks calibration_sound (for_lpa test) task_every (outline s) s.lci clauses.0
    (for_field-passes with_timer flags too_sound (for_lci test) flag_every (with_count s 1) (timer_on s.armed) clauses.2
    (for_field-passes with_too too_states unbound (for_timer test) too_state_every (with_count s 1) s.too refl
    (for_field-passes with_mode modes unbound (for_too test) mode_every (with_count s 1) s.mode refl passed))))))

-- Records in a state and in its outline --------------------------------------------------------------------------------------

-- one record of an event that has a number: the outline after it, and that armed stays at most that number
effect-followed : (s : State) (r : Record) → s.count < last_number
    → (outline (effect s r) ≡ outline (effect (outline s) r)) × (s.armed ≤ s.count + 1 → (effect s r).armed ≤ s.count + 1)
unfolding effect rebooted
effect-followed s (Record.OpMode m) below = (ap (λ t. with_mode t m) (sym (settled s)), λ low. low)
effect-followed s (Record.LciState x) below = (ap (λ t. with_lci t x) (sym (settled s)), λ low. low)
effect-followed s (Record.LpaState x) below = (ap (λ t. with_lpa t x) (sym (settled s)), λ low. low)
effect-followed s (Record.LpaMode m) below = (ap (λ t. with_lpa_mode t m) (sym (settled s)), λ low. low)
effect-followed s (Record.SaaChange on) below = (ap (λ t. with_saa t on) (sym (settled s)), λ low. low)
effect-followed s (Record.TooState x) below = (ap (λ t. with_too t x) (sym (settled s)), λ low. low)
effect-followed s (Record.TooTimerStart dwell) below =
    let more : one_more s.count ≡ s.count + 1 = one_more_below s.count below in
    (rw (more, ne_eqb (s.count + 1) 0 (λ e. omega arith)), λ low. omega arith)
effect-followed s Record.TooTimerStop below = (refl, λ low. omega arith)
effect-followed s Record.CalStart below = (ap (λ t. with_lci_awaited t true) (sym (settled s)), λ low. low)
effect-followed s Record.CalAbort below = (sym (settled s), λ low. low)
effect-followed s Record.CalOther below = (sym (settled s), λ low. low)
effect-followed s (Record.CalStatus good) below = (ap (λ t. with_lci_awaited t false) (sym (settled s)), λ low. low)
effect-followed s Record.CalComp below = (ap (λ t. with_lci_awaited t false) (sym (settled s)), λ low. low)
effect-followed s (Record.LpaStart m run) below = (ap (λ t. with_lpa_awaited (with_lpa_mode t m) true) (sym (settled s)), λ low. low)
effect-followed s Record.LpaStop below = (sym (settled s), λ low. low)
effect-followed s Record.LpaOther below = (sym (settled s), λ low. low)
effect-followed s (Record.LpaStatus good) below = (ap (λ t. with_lpa_awaited t false) (sym (settled s)), λ low. low)
effect-followed s Record.LpaComp below = (ap (λ t. with_lpa_awaited t false) (sym (settled s)), λ low. low)
effect-followed s Record.SaaCfg below = (sym (settled s), λ low. low)
effect-followed s Record.NonSaaCfg below = (sym (settled s), λ low. low)
effect-followed s Record.MainFeed below = (sym (settled s), λ low. low)
effect-followed s (Record.PowerOn mask) below = (sym (settled s), λ low. low)
effect-followed s (Record.PowerOff mask) below = (sym (settled s), λ low. low)
effect-followed s Record.LtcStop below = (sym (settled s), λ low. low)
effect-followed s Record.ShedBegin below = (sym (settled s), λ low. low)
effect-followed s Record.ShedEnd below = (sym (settled s), λ low. low)
effect-followed s Record.SiuReboot below = (refl, λ low. omega arith)
effect-followed s (Record.Wait seconds) below = (sym (settled s), λ low. low)
effect-followed s (Record.Alert number) below = (sym (settled s), λ low. low)
effect-followed s (Record.Status status event) below = (sym (settled s), λ low. low)

-- records without a STATUS leave the count, and keep armed at most the number of their event
pub effects_numbers : (rs : List Record) (s : State) → every not_status rs ≡ true → s.count < last_number → s.armed ≤ s.count + 1
    → ((effects s rs).armed ≤ s.count + 1) × ((effects s rs).count ≡ s.count)
effects_numbers [] s none below low = (low, refl)
effects_numbers (r ∷ rs) s none below low =
    let kept : (effect s r).count ≡ s.count = effect_count s r (not-true (is_status r) (and_left (not_status r) (every not_status rs) none)) in
    let rest =
    effects_numbers rs (effect s r) (and_right (not_status r) (every not_status rs) none) (rw kept below)
    (rw kept ((effect-followed s r below).1 low)) in
    (subst (λ (n : ℕ). (effects (effect s r) rs).armed ≤ n + 1) kept rest.0, rest.1 ∙ kept)

-- two states of one outline have one outline after the same records
effects_alike : (rs : List Record) (s t : State) → every not_status rs ≡ true → s.count < last_number → t.count < last_number
    → outline s ≡ outline t → outline (effects s rs) ≡ outline (effects t rs)
effects_alike [] s t none belows belowt alike = alike
effects_alike (r ∷ rs) s t none belows belowt alike =
    let other = not-true (is_status r) (and_left (not_status r) (every not_status rs) none) in
    effects_alike rs (effect s r) (effect t r) (and_right (not_status r) (every not_status rs) none)
    (rw (effect_count s r other) belows) (rw (effect_count t r other) belowt)
    ((effect-followed s r belows).0 ∙ ap (λ u. outline (effect u r)) alike ∙ sym (effect-followed t r belowt).0)

pub effects_shape : (rs : List Record) (s : State) → every not_status rs ≡ true → s.count < last_number
    → shape_sound (effects s rs) ≡ shape_sound (effects (outline s) rs)
effects_shape rs s none below =
    sym (outline_shape (effects s rs))
    ∙ ap shape_sound (effects_alike rs s (outline s) none below (omega arith) (sym (settled s)))
    ∙ outline_shape (effects (outline s) rs)
