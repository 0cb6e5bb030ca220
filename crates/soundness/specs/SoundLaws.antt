-- State, laws: the first state of all is sound; a sound state is sound in its shape, clause by clause, and in its numbers; the shape
-- does not look at the count.
-- Assumes nothing.
use Rattle.std.specs.Prelude.{ℕ, ◌≤◌, Bool, true, ◌&&◌, ◌≡◌, refl}
use Rattle.std.proofs.Common.{leb-true, le-leb}
use Rattle.kinds.specs.ChoiceLaws.{and_left, and_right}
use Rattle.state.specs.State.{rebooted, fresh, with_count}
use Rattle.state.specs.declared.State.{State}
use Rattle.soundness.specs.Sound.{calibration_sound, physics_sound, too_sound, boot_sound, tasks_sound, shape_sound, numbers_sound, sound}

pub fresh-sound : sound fresh ≡ true
unfolding sound shape_sound calibration_sound physics_sound too_sound boot_sound tasks_sound rebooted
fresh-sound = refl

pub sound_shape : (s : State) → sound s ≡ true → shape_sound s ≡ true
unfolding sound
sound_shape s ok = and_left (shape_sound s) (numbers_sound s) ok

pub sound_armed : (s : State) → sound s ≡ true → s.armed ≤ s.count
unfolding sound
sound_armed s ok = leb-true s.armed s.count (and_right (shape_sound s) (numbers_sound s) ok)

pub sound_from : (s : State) → shape_sound s ≡ true → s.armed ≤ s.count → sound s ≡ true
unfolding sound
sound_from s shape low = rw (shape, le-leb s.armed s.count low)

-- of the shape each clause
pub shape_clauses : (s : State) → shape_sound s ≡ true
    → (calibration_sound s ≡ true) × (physics_sound s ≡ true) × (too_sound s ≡ true) × (boot_sound s ≡ true) × (tasks_sound s ≡ true)
unfolding shape_sound
shape_clauses s shape = each (calibration_sound s) (physics_sound s) (too_sound s) (boot_sound s) (tasks_sound s) shape
  where
    each : (a b c d e : Bool) → a && b && c && d && e ≡ true → (a ≡ true) × (b ≡ true) × (c ≡ true) × (d ≡ true) × (e ≡ true)
    each a b c d e held =
        let four = and_left (a && b && c && d) e held in
        let three = and_left (a && b && c) d four in
        let two = and_left (a && b) c three in
        (and_left a b two, and_right a b two, and_right (a && b) c three, and_right (a && b && c) d four, and_right (a && b && c && d) e held)

-- the shape does not look at the count
pub shape_count : (s : State) (n : ℕ) → shape_sound (with_count s n) ≡ shape_sound s
unfolding shape_sound calibration_sound physics_sound too_sound boot_sound tasks_sound
shape_count s n = refl
