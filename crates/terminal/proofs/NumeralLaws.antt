-- What a turn of the loop over a word leaves, and what its end says. Assumes nothing.
use Rattle.std.proofs.Common.{ℕ, ◌+◌, ◌<◌, ◌≤◌, ◌≡◌, refl, ◌∙◌, sym, ap, Bool, List, [], ◌∷◌, Some, None, Result, Ok, Err}
use Rattle.std.proofs.Common.{length, get_or, drop, add-one, drop-cons}
use Rattle.std.proofs.Math.ListN.{drop_of_length-le}
use borrow.Author.Tests.{eq-eqb, ne_eqb}
use Rattle.terminal.specs.Numeral.{digit_of, with_digit, read_on}
use Rattle.terminal.specs.declared.numeral.NoNumeral.{NoNumeral}

module _ (w : List ℕ) (hex : Bool) (value i : ℕ) (r : Result ℕ NoNumeral) (same : read_on hex value (drop i w) ≡ r) where
  -- what is left begins with a byte
  module _ (more : i < length w) where
    left-cons : read_on hex value (get_or w i 0 ∷ drop (i + 1) w) ≡ r
    left-cons = ap (read_on hex value) (sym (drop-cons w i 0 more ∙ rw (add-one) refl)) ∙ same

    -- a turn of the loop: what is read and what is left say together what they said before
    pub turn : (d v : ℕ) → Some d ≡ digit_of (get_or w i 0) hex → v ≡ with_digit value hex d → read_on hex v (drop (i + 1) w) ≡ r
    unfolding read_on
    turn d v is ev = rw ev (rw (sym is, read_on) at left-cons)

    pub stopped : None ≡ digit_of (get_or w i 0) hex → Err NoNumeral.NoNumber ≡ r
    unfolding read_on
    stopped is = rw (sym is, read_on) at left-cons

  -- nothing is left
  module _ (past : length w ≤ i) where
    none_left : read_on hex value [] ≡ r
    none_left = ap (read_on hex value) (sym (drop_of_length-le w {i = i} past)) ∙ same

    pub ends_large : value ≡ 4_294_967_296 → Err NoNumeral.TooLarge ≡ r
    unfolding read_on
    ends_large is = rw (eq-eqb value 4_294_967_296 is) at none_left

    pub ends_small : (value ≡ 4_294_967_296 → ⊥) → Ok value ≡ r
    unfolding read_on
    ends_small ne = rw (ne_eqb value 4_294_967_296 ne) at none_left
