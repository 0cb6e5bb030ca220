-- The outline of a state: what the shape of soundness sees of it. A timer counts as on or off, and the count as any; what the shape
-- does not look at outside BOOT, the awaited starts, stays the state's own, unknown. So there are few outlines of sound shape, and what
-- a rule does to all of them is one computed test.
-- Assumes nothing.
use Rattle.std.specs.Prelude.{Bool, true, ◌&&◌, ◌||◌, List, length, ltb}
use Rattle.kinds.specs.Choice.{when, every, some}
use Rattle.kinds.specs.Kinds.{modes, tasks, lpa_modes, too_states, flags, flag_number}
use Rattle.state.specs.State.{rebooted}
use Rattle.soundness.specs.Sound.{timer_on, calibration_sound, physics_sound, too_sound, boot_sound, tasks_sound, shape_sound}
use Rattle.state.specs.State.{with_mode, with_lci, with_lpa, with_lpa_mode, with_saa, with_too, with_armed, with_count}
use Rattle.state.specs.Effect.{effect, effects}
use Rattle.state.specs.declared.State.{State}
use Rattle.events.specs.Event.{parts_of_event}
use Rattle.events.specs.declared.Event.{Event}
use Rattle.records.specs.Record.{most_records}
use Rattle.records.specs.declared.Record.{Record}
use Rattle.rules.specs.Rules.{rule_of, unheard}
use Rattle.rule_laws.specs.Refusals.{met}

abbrev pub with_timer : State → Bool → State
with_timer s on = with_armed s (flag_number on)

abbrev pub outline : State → State
outline s = with_timer (with_count s 1) (timer_on s.armed)

-- an outline with the numbers of a state; that of the state itself is then the state again
abbrev pub with_numbers : State → State → State
with_numbers t s = with_count (with_armed t s.armed) s.count

-- a test that passes whatever a field is, as far as a clause of soundness lets it
abbrev pub for_field : {A : Type 0} → (State → A → State) → List A → (State → Bool) → (State → Bool) → State → Bool
for_field put values clause test s = every (λ x. when (clause (put s x)) (λ _. test (put s x))) values

-- no clause ends with this field
abbrev pub unbound : State → Bool
unbound s = true

-- a test that passes in every outline: field by field, the last one first, and each clause where the last of its fields is put in. The
-- clause of BOOT is left out, for only STARTED is heard there, and TERMINAL asks no more than the others
module _ (test : State → Bool) where
  abbrev pub for_lpa_mode : State → Bool
  for_lpa_mode s = for_field with_lpa_mode lpa_modes physics_sound test s

  abbrev pub for_saa : State → Bool
  for_saa s = for_field with_saa flags unbound for_lpa_mode s

  abbrev pub for_lpa : State → Bool
  for_lpa s = for_field with_lpa tasks tasks_sound for_saa s

  abbrev pub for_lci : State → Bool
  for_lci s = for_field with_lci tasks calibration_sound for_lpa s

  abbrev pub for_timer : State → Bool
  for_timer s = for_field with_timer flags too_sound for_lci s

  abbrev pub for_too : State → Bool
  for_too s = for_field with_too too_states unbound for_timer s

  abbrev pub for_mode : State → Bool
  for_mode s = for_field with_mode modes unbound for_too s

  unfoldable pub every_outline : State → Bool
  unfolding calibration_sound physics_sound too_sound tasks_sound
  every_outline s = for_mode (with_count s 1)

-- there is room for the records and a STATUS, and the shape after them is sound
abbrev pub keeps : State → List Record → Bool
keeps t rs = ltb (length rs) most_records && shape_sound (effects t rs)

-- an event in a state, with its outline: it is not heard, or what its rule does is sound, or the rule refuses it. The condition of a
-- refusal may compare numbers, which are unknown here; it is looked at last, and only where a mode or a task decides it
abbrev pub passes_by : State → Event → State → Bool
passes_by t e s = unheard s e || (keeps t (rule_of s e).records || some met (rule_of s e).refusals)

unfoldable pub passes : State → Event → State → Bool
unfolding shape_sound calibration_sound physics_sound too_sound boot_sound tasks_sound effect rebooted rule_of unheard parts_of_event
passes s e t = passes_by t e (with_numbers t s)
