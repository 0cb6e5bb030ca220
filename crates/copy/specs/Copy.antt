-- Bytes copied into a lent string: where both have so many, they stand from a place on and nothing else has changed; else nothing has.
-- Assumes nothing.
use Rattle.std.specs.Prelude.{ℕ, ◌+◌, Bool, true, false, ◌&&◌, List, length, leb}
use Rattle.std.proofs.Math.Seq.{paste}

unfoldable pub has_room : List ℕ → ℕ → List ℕ → ℕ → Bool
has_room from long to at = leb long (length from) && leb (at + long) (length to)

abbrev pub pasted_where : Bool → List ℕ → ℕ → List ℕ → ℕ → List ℕ
pasted_where true from long to at = paste to at from long
pasted_where false from long to at = to

unfoldable pub copied : List ℕ → ℕ → List ℕ → ℕ → List ℕ
copied from long to at = pasted_where (has_room from long to at) from long to at
