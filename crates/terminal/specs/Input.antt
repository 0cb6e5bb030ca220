-- Input in groups: whether a count of bytes is whole groups, and whether there is a reason to read on.
-- Assumes nothing.
use Rattle.std.specs.Prelude.{ℕ, ◌%◌, Bool, true, false, eqb, if◌then◌else◌}

-- a size of 0 counts as 1
unfoldable pub whole_groups : ℕ → ℕ → Bool
whole_groups count size = if eqb size 0 then true else eqb (count % size) 0

-- the input has not ended, and no write of the output has failed
unfoldable pub reads_on : ℕ → ℕ → Bool → Bool
reads_on count size failed =
    if eqb count 0 then false else
    if failed then false else
    whole_groups count size
