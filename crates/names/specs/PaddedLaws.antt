-- Names filled up with spaces to a room of twelve letters, as a table of one width has them, laws: a name is read back from its row,
-- and each kind's name stands at its number. Nothing here is of the paper.
-- Assumes nothing.
use Rattle.std.specs.Prelude.{ℕ, zero, suc, ◌<◌, ◌≤◌, Bool, List, [], ◌∷◌, ◌++◌, map, ◌≡◌, refl, get_or, length, take, replicate}
use Rattle.std.proofs.Common.{◌∙◌, sym, ap, not-suc-le-zero, le_of_suc-le-suc}
use Rattle.std.proofs.Math.ListN.{get_or-eq_default}
use Rattle.kinds.specs.Kinds.{mode_number, modes, task_number, tasks, lpa_mode_number, lpa_modes}
use Rattle.kinds.specs.Kinds.{too_state_number, too_states, status_number, statuses}
use Rattle.kinds.specs.declared.mode.Mode.{Mode}
use Rattle.kinds.specs.declared.task.Task.{Task}
use Rattle.kinds.specs.declared.lpa_mode.LpaMode.{LpaMode}
use Rattle.kinds.specs.declared.too_state.TooState.{TooState}
use Rattle.kinds.specs.declared.status.Status.{Status}
use Prim.Native.Char.{code}
use Rattle.names.specs.Text.{first_word}
use Rattle.names.specs.EventNames.{event_names, event_name}
use Rattle.names.specs.Names.{mode_name, task_name, lpa_mode_name, too_state_name, status_name}
use Rattle.names.specs.NamesLaws.{Placed, mode_placed, task_placed, lpa_mode_placed, too_state_placed, status_placed}
use Rattle.names.specs.TableLaws.{same_bytes, same_bytes_lem, every_at}

-- the room of a name
abbrev pub WORD : ℕ
WORD = 12

-- a name's letters, filled up with spaces
abbrev pub padded : List ℕ → List ℕ
padded name = take WORD (name ++ replicate WORD (code " "))

module _ {A B : Type 0} where
  -- a row of a table in another form is that row in the other form
  pub row_at : (form : A → B) (xs : List A) (n : ℕ) (other : A) (another : B) → n < length xs
      → get_or (map form xs) n another ≡ form (get_or xs n other)
  row_at form [] n other another within = absurd (not-suc-le-zero within)
  row_at form (x ∷ xs) zero other another within = refl
  row_at form (x ∷ xs) (suc n) other another within = row_at form xs n other another (le_of_suc-le-suc within)

  pub length_mapped : (form : A → B) (xs : List A) → length (map form xs) ≡ length xs
  length_mapped form [] = refl
  length_mapped form (x ∷ xs) = ap suc (length_mapped form xs)

-- a name's row in a table of names that are filled up
pub padded_row : (names : List (List ℕ)) (n : ℕ) → n < length names → get_or (map padded names) n [] ≡ padded (get_or names n [])
padded_row names n within = row_at padded names n [] [] within

pub padded_none : (names : List (List ℕ)) (n : ℕ) → length names ≤ n → padded [] ≡ padded (get_or names n [])
padded_none names n past = ap padded (sym (get_or-eq_default names [] past))

-- an event's name is one word, and fits its room
one_word_padded : List ℕ → Bool
one_word_padded name = same_bytes (first_word (padded name)) name

pub event_word_padded : (n : ℕ) → first_word (padded (event_name n)) ≡ event_name n
unfolding event_name one_word_padded same_bytes first_word
event_word_padded n =
    same_bytes_lem (first_word (padded (get_or event_names n []))) (get_or event_names n [])
    (every_at one_word_padded event_names n [] refl refl)

module _ {A : Type 0} (number : A → ℕ) (name : A → List ℕ) (xs : List A) where
  -- the number of a thing is a place of the table, and its name, filled up, stands there
  abbrev pub PlacedPadded : A → Type 0
  PlacedPadded x = (n : ℕ) → n ≡ number x → (n < length xs) × (get_or (map (λ y. padded (name y)) xs) n [] ≡ padded (name x))

  padded_after : (ys : List A) → map padded (map name ys) ≡ map (λ y. padded (name y)) ys
  padded_after [] = refl
  padded_after (y ∷ ys) = ap (λ rest. padded (name y) ∷ rest) (padded_after ys)

  pub placed_padded : (x : A) → Placed number name xs x → PlacedPadded x
  placed_padded x placed n is =
      let found : (n < length xs) × (get_or (map name xs) n [] ≡ name x) = placed n is in
      let within : n < length (map name xs) = rw (length_mapped name xs) found.0 in (
        found.0,
        ap (λ rows. get_or rows n []) (sym (padded_after xs)) ∙ padded_row (map name xs) n within ∙ ap padded found.1,
      )

pub mode_padded : (m : Mode) → PlacedPadded mode_number mode_name modes m
mode_padded m = placed_padded mode_number mode_name modes m (mode_placed m)

pub task_padded : (t : Task) → PlacedPadded task_number task_name tasks t
task_padded t = placed_padded task_number task_name tasks t (task_placed t)

pub lpa_mode_padded : (m : LpaMode) → PlacedPadded lpa_mode_number lpa_mode_name lpa_modes m
lpa_mode_padded m = placed_padded lpa_mode_number lpa_mode_name lpa_modes m (lpa_mode_placed m)

pub too_state_padded : (t : TooState) → PlacedPadded too_state_number too_state_name too_states t
too_state_padded t = placed_padded too_state_number too_state_name too_states t (too_state_placed t)

pub status_padded : (s : Status) → PlacedPadded status_number status_name statuses s
status_padded s = placed_padded status_number status_name statuses s (status_placed s)
