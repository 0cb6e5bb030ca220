-- A line of text as an event: its name, in any case, and as many numbers as go with it; or raw and the digits of the event's bytes.
-- Whatever else the line has, it is refused with what was expected.
-- Assumes nothing.
use Rattle.std.specs.Prelude.{ℕ, ◌+◌, ◌*◌, true, List, [], ◌∷◌, Option, Some, None, Result, Ok, Err}
use Rattle.std.specs.Prelude.{map, eqb, length, get_or, if◌then◌else◌}
use Rattle.std.specs.Option.{option_map}
use Rattle.std.specs.List.{range_with_len}
use Rattle.events.specs.Event.{event_of, event_parts, CALSTATUS, LPASTATUS}
use Rattle.events.specs.declared.Event.{Event}
use Rattle.events.specs.declared.NoEvent.{NoEvent}
use Rattle.layout.specs.Event.{EVENT, event_bytes}
use Rattle.terminal.specs.Numeral.{parsed, digit_of}
use Rattle.terminal.specs.declared.numeral.NoNumeral.{NoNumeral}
use Rattle.names.specs.Text.{bytes, first_word, after_separators, after_word, same_word}
use Rattle.names.specs.EventNames.{event_code, event_numbers}
use Rattle.names.specs.declared.line.Expected.{Expected}

-- what is expected after an event's name
unfoldable pub expected_after : ℕ → Expected
expected_after code =
    if eqb code CALSTATUS then Expected.Report else
    if eqb code LPASTATUS then Expected.Report else
    if eqb (event_numbers code) 0 then Expected.None else
    if eqb (event_numbers code) 1 then Expected.One else Expected.Two

-- how many words a text has that begins with one: three where there are more
unfoldable pub words_in : List ℕ → ℕ
words_in t =
    if eqb (length t) 0 then 0 else
    if eqb (length (after_word t)) 0 then 1 else
    if eqb (length (after_word (after_word t))) 0 then 2 else 3

-- a number that is not given is 0
unfoldable pub number_of : List ℕ → Result ℕ NoNumeral
number_of w = if eqb (length w) 0 then Ok 0 else parsed w

-- the event of a code and two numbers
abbrev pub found_bytes : Result Event NoEvent → Option (List ℕ)
found_bytes (Ok e) = Some (event_bytes e)
found_bytes (Err none) = None

abbrev pub second_number : ℕ → ℕ → Result ℕ NoNumeral → Option (List ℕ)
second_number code a (Ok b) = found_bytes (event_of (event_parts code a b))
second_number code a (Err e) = None

abbrev pub first_number : ℕ → Result ℕ NoNumeral → Result ℕ NoNumeral → Option (List ℕ)
first_number code (Ok a) second = second_number code a second
first_number code (Err e) second = None

-- the event of a code and of the numbers after its name
unfoldable pub given : ℕ → List ℕ → Option (List ℕ)
given code t =
    if eqb (words_in t) (event_numbers code) then first_number code (number_of (first_word t)) (number_of (first_word (after_word t))) else None

-- the byte of two hex digits
abbrev pub with_low : ℕ → Option ℕ → Option ℕ
with_low high low = option_map (λ digit. high * 16 + digit) low

abbrev pub with_high : Option ℕ → Option ℕ → Option ℕ
with_high None low = None
with_high (Some high) low = with_low high low

unfoldable pub raw_byte : ℕ → ℕ → Option ℕ
raw_byte high low = with_high (digit_of high true) (digit_of low true)

-- byte k of the event: its two hex digits stand at 2k and 2k + 1
abbrev pub byte_at : List ℕ → ℕ → Option ℕ
byte_at digits k = raw_byte (get_or digits (2 * k) 0) (get_or digits (2 * k + 1) 0)

-- all of them, where none is missing
abbrev pub all_some : List (Option ℕ) → Option (List ℕ)
all_some [] = Some []
all_some (None ∷ rest) = None
all_some (Some b ∷ rest) = option_map (λ bs. b ∷ bs) (all_some rest)

-- the digits after raw: one word, and an event's bytes
unfoldable pub raw_line : List ℕ → Option (List ℕ)
raw_line t =
    if eqb (length (after_word t)) 0 then
    if eqb (length (first_word t)) (2 * EVENT) then all_some (map (byte_at (first_word t)) (range_with_len 0 EVENT)) else None else
    None

-- the bytes, if there are any, or what was expected
abbrev pub event_line : Option (List ℕ) → Expected → Result (Option (List ℕ)) Expected
event_line (Some bs) expected = Ok (Some bs)
event_line None expected = Err expected

-- a line that begins with a word, or has none
unfoldable pub named_line : List ℕ → Result (Option (List ℕ)) Expected
named_line t =
    if eqb (length (first_word t)) 0 then Ok None else
    if same_word (first_word t) (bytes "RAW") then event_line (raw_line (after_word t)) Expected.Raw else
    if eqb (event_code (first_word t)) 0 then Err Expected.Name else
    event_line (given (event_code (first_word t)) (after_word t)) (expected_after (event_code (first_word t)))

unfoldable pub line_of : List ℕ → Result (Option (List ℕ)) Expected
line_of t = named_line (after_separators t)
