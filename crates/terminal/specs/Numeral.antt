-- Numbers in words: decimal, or 0x and hexadecimal digits in either case. Every number above 4,294,967,295 is too large.
-- Assumes nothing.
use Rattle.std.specs.Prelude.{ℕ, ◌+◌, ◌*◌, ◌-◌, Bool, true, false, List, [], ◌∷◌, Option, Some, None, Result, Ok, Err}
use Rattle.std.specs.Prelude.{eqb, ltb, length, get_or, drop, if◌then◌else◌}
use Rattle.terminal.specs.declared.numeral.NoNumeral.{NoNumeral}

-- the six digits above 9
unfoldable pub hex_letter : ℕ → Option ℕ
hex_letter b =
    if ltb b 65 then None else
    if ltb b 71 then Some (b - 65 + 10) else
    if ltb b 97 then None else
    if ltb b 103 then Some (b - 97 + 10) else None

unfoldable pub digit_of : ℕ → Bool → Option ℕ
digit_of b hex =
    if ltb b 48 then None else
    if ltb b 58 then Some (b - 48) else
    if hex then hex_letter b else None

-- no further than one above the largest number
unfoldable pub capped : ℕ → ℕ
capped n = if ltb n 4_294_967_296 then n else 4_294_967_296

-- a digit more
unfoldable pub with_digit : ℕ → Bool → ℕ → ℕ
with_digit value hex d = if hex then capped (value * 16 + d) else capped (value * 10 + d)

-- what a value and the digits after it say
unfoldable pub read_on : Bool → ℕ → List ℕ → Result ℕ NoNumeral
read_on hex value [] = if eqb value 4_294_967_296 then Err NoNumeral.TooLarge else Ok value
read_on hex value (b ∷ bs) = elim (digit_of b hex) [ None ↦ Err NoNumeral.NoNumber | Some d ↦ read_on hex (with_digit value hex d) bs ]

-- at least one digit
unfoldable pub digits_of : List ℕ → Bool → Result ℕ NoNumeral
digits_of w hex = if eqb (length w) 0 then Err NoNumeral.NoNumber else read_on hex 0 w

unfoldable pub parsed : List ℕ → Result ℕ NoNumeral
parsed w =
    if ltb (length w) 3 then digits_of w false else
    if eqb (get_or w 0 0) 48 then (if eqb (get_or w 1 0) 120 then digits_of (drop 2 w) true else digits_of w false) else
    digits_of w false
