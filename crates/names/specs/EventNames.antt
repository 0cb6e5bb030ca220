-- Events: their names, by their codes, and how many numbers go with each.
-- Assumes nothing.
use Rattle.std.specs.Prelude.{ℕ, zero, suc, ◌+◌, List, [], ◌∷◌, get_or, Option, Some, None, if◌then◌else◌}
use Rattle.kinds.specs.Choice.{select}
use Rattle.events.specs.Event.{POWERON, POWEROFF, LPASTART, TOOSTART, TOOEXPIRED, CALSTATUS, LPASTATUS}
use Rattle.names.specs.Text.{bytes, same_word}

-- the names, one after the other by code; 0 is no event's
abbrev pub event_names : List (List ℕ)
event_names =
    []
    ∷ bytes "STARTED"
    ∷ bytes "MAINFEEDON"
    ∷ bytes "POWERON"
    ∷ bytes "POWEROFF"
    ∷ bytes "HOLDENTER"
    ∷ bytes "HOLDEXIT"
    ∷ bytes "SAAENTER"
    ∷ bytes "SAAEXIT"
    ∷ bytes "LOADSHED"
    ∷ bytes "NOOP"
    ∷ bytes "CALSTART"
    ∷ bytes "CALABORT"
    ∷ bytes "CALOTHER"
    ∷ bytes "LPASTART"
    ∷ bytes "LPASTOP"
    ∷ bytes "LPAOTHER"
    ∷ bytes "TOOSTART"
    ∷ bytes "TOOABORT"
    ∷ bytes "TOOEXPIRED"
    ∷ bytes "CALSTATUS"
    ∷ bytes "CALCOMPLETE"
    ∷ bytes "LPASTATUS"
    ∷ bytes "LPACOMPLETE"
    ∷ []

-- the name of a code, or nothing
unfoldable pub event_name : ℕ → List ℕ
event_name n = get_or event_names n []

-- the place from n on of the first name that a word is, in any case, or 0
unfoldable pub code_from : List ℕ → ℕ → List (List ℕ) → ℕ
code_from w n [] = 0
code_from w n (name ∷ names) = if same_word w name then n else code_from w (n + 1) names

-- the code of a name, or 0
unfoldable pub event_code : List ℕ → ℕ
event_code w = code_from w 0 event_names

-- the codes with which numbers go, and how many
abbrev pub numbers_rows : List (ℕ × ℕ)
numbers_rows =
    (TOOSTART, 2) ∷ (POWERON, 1) ∷ (POWEROFF, 1) ∷ (LPASTART, 1) ∷ (TOOEXPIRED, 1) ∷ (CALSTATUS, 1) ∷ (LPASTATUS, 1) ∷ []

-- how many numbers go with a code
unfoldable pub event_numbers : ℕ → ℕ
event_numbers n = select n numbers_rows 0

-- a name, or none where it has no letter
abbrev pub some_name : List ℕ → Option (List ℕ)
some_name [] = None
some_name (b ∷ bs) = Some (b ∷ bs)

-- a code, or none where it is 0
abbrev pub some_code : ℕ → Option ℕ
some_code zero = None
some_code (suc n) = Some (suc n)
