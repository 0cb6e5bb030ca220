-- Tables of names, laws: what a computed test of a table says of each of its rows. Nothing here is of the paper.
-- Assumes nothing.
use Rattle.std.specs.Prelude.{ℕ, zero, suc, Bool, true, false, ◌&&◌, List, [], ◌∷◌, ◌≡◌, refl, eqb, get_or}
use Rattle.std.proofs.lemmas.Bool.{false≢true}
use Rattle.std.proofs.Common.{eqb-true}
use Rattle.kinds.specs.Choice.{every}
use Rattle.kinds.specs.ChoiceLaws.{and_left, and_right}

unfoldable pub same_bytes : List ℕ → List ℕ → Bool
same_bytes [] [] = true
same_bytes [] (y ∷ ys) = false
same_bytes (x ∷ xs) [] = false
same_bytes (x ∷ xs) (y ∷ ys) = eqb x y && same_bytes xs ys

pub same_bytes_lem : (xs ys : List ℕ) → same_bytes xs ys ≡ true → xs ≡ ys
unfolding same_bytes
same_bytes_lem [] [] e = refl
same_bytes_lem [] (y ∷ ys) e = absurd (false≢true e)
same_bytes_lem (x ∷ xs) [] e = absurd (false≢true e)
same_bytes_lem (x ∷ xs) (y ∷ ys) e =
    rw (eqb-true x y (and_left (eqb x y) (same_bytes xs ys) e), same_bytes_lem xs ys (and_right (eqb x y) (same_bytes xs ys) e))

module _ {A : Type 0} where
  -- what all rows pass, and what stands for a row that is not there, passes at every place
  pub every_at : (test : A → Bool) (xs : List A) (n : ℕ) (other : A) → every test xs ≡ true → test other ≡ true
      → test (get_or xs n other) ≡ true
  every_at test [] n other all rest = rest
  every_at test (x ∷ xs) zero other all rest = and_left (test x) (every test xs) all
  every_at test (x ∷ xs) (suc n) other all rest = every_at test xs n other (and_right (test x) (every test xs) all) rest
