-- Laws of a copy: where there is room it is a paste, and else nothing; and what its loop has after a turn more.
-- Assumes nothing.
use Rattle.std.specs.Prelude.{ℕ, ◌+◌, ◌<◌, ◌≤◌, Bool, true, false, List, ◌≡◌, refl, length, set, get_or}
use Rattle.std.proofs.Common.{add-one}
use Rattle.std.proofs.Math.Seq.{paste, paste-suc}
use borrow.Author.Tests.{le-leb, lt-leb}
use Rattle.copy.specs.Copy.{has_room, copied}

module _ (from : List ℕ) (long : ℕ) (to : List ℕ) (at : ℕ) where
  -- what the function answers and leaves
  abbrev pub Copies : Bool → List ℕ → Type 0
  Copies answer after = (answer ≡ has_room from long to at) × (after ≡ copied from long to at)

  pub copied_room : long ≤ length from → at + long ≤ length to → Copies true (paste to at from long)
  unfolding has_room copied
  copied_room enough room = rw (le-leb long (length from) enough, le-leb (at + long) (length to) room) (refl, refl)

  pub copied_short : length from < long → Copies false to
  unfolding has_room copied
  copied_short few = rw (lt-leb long (length from) few) (refl, refl)

  pub copied_narrow : long ≤ length from → length to < at + long → Copies false to
  unfolding has_room copied
  copied_narrow enough past = rw (le-leb long (length from) enough, lt-leb (at + long) (length to) past) (refl, refl)

-- a byte more
pub copied_turn : (to from b : List ℕ) (at i : ℕ) → at + i < length to → i < length from → b ≡ paste to at from i
    → set b (at + i) (get_or from i 0) ≡ paste to at from (i + 1)
copied_turn to from b at i room more e = rw (e, add-one) (paste-suc to at from i 0 room more)

-- the same, whatever numbers name the two places
pub copied_turn_at : (to from b : List ℕ) (at i p q : ℕ) → p ≡ at + i → q ≡ i → at + i < length to → i < length from
    → b ≡ paste to at from i → set b p (get_or from q 0) ≡ paste to at from (i + 1)
copied_turn_at to from b at i p q there here room more e = rw (there, here) (copied_turn to from b at i room more e)
