-- The turns of a program's loop that are left after one: one less, and none where there is no reason to go on.
-- Assumes nothing.
use Rattle.std.specs.Prelude.{ℕ, ◌-◌, Bool, if◌then◌else◌}

unfoldable pub turns_left : ℕ → Bool → ℕ
turns_left turns more = if more then turns - 1 else 0
