-- The names of the kinds, laws: a table of names that goes by a kind's numbers has each name in its place. One computed test a kind.
-- Assumes nothing.
use Rattle.std.specs.Prelude.{ℕ, ◌<◌, Bool, true, ◌&&◌, List, [], map, Ok, Err, ◌≡◌, refl, ltb, get_or, length}
use borrow.Author.Tests.{ltb-true}
use Rattle.kinds.specs.ChoiceLaws.{Kind, kind_every, and_left, and_right}
use Rattle.kinds.specs.Kinds.{unknown_number, mode_number, modes, task_number, tasks, lpa_mode_number, lpa_modes}
use Rattle.kinds.specs.Kinds.{too_state_number, too_states, status_number, statuses}
use Rattle.kinds.specs.KindsLaws.{mode_every, task_every, lpa_mode_every, too_state_every, status_back}
use Rattle.kinds.specs.declared.mode.Mode.{Mode}
use Rattle.kinds.specs.declared.task.Task.{Task}
use Rattle.kinds.specs.declared.lpa_mode.LpaMode.{LpaMode}
use Rattle.kinds.specs.declared.too_state.TooState.{TooState}
use Rattle.kinds.specs.declared.status.Status.{Status}
use Rattle.names.specs.TableLaws.{same_bytes, same_bytes_lem}
use Rattle.names.specs.Names.{mode_name, task_name, lpa_mode_name, too_state_name, status_name}

module _ {A : Type 0} (number : A → ℕ) (name : A → List ℕ) (xs : List A) where
  -- the names of the listed, one after the other
  abbrev rows : List (List ℕ)
  rows = map name xs

  placed : A → Bool
  placed x = ltb (number x) (length xs) && same_bytes (get_or rows (number x) []) (name x)

  -- the number of a thing is a place of the table, and its name stands there
  abbrev pub Placed : A → Type 0
  Placed x = (n : ℕ) → n ≡ number x → (n < length xs) × (get_or rows n [] ≡ name x)

  is_placed : (x : A) → placed x ≡ true → Placed x
  unfolding placed
  is_placed x passed n is =
      rw is (
        ltb-true (number x) (length xs) (and_left (ltb (number x) (length xs)) (same_bytes (get_or rows (number x) []) (name x)) passed),
        same_bytes_lem (get_or rows (number x) []) (name x)
            (and_right (ltb (number x) (length xs)) (same_bytes (get_or rows (number x) []) (name x)) passed),
      )

pub mode_placed : (m : Mode) → Placed mode_number mode_name modes m
unfolding placed same_bytes
mode_placed m = is_placed mode_number mode_name modes m (mode_every (placed mode_number mode_name modes) refl m)

pub task_placed : (t : Task) → Placed task_number task_name tasks t
unfolding placed same_bytes
task_placed t = is_placed task_number task_name tasks t (task_every (placed task_number task_name tasks) refl t)

pub lpa_mode_placed : (m : LpaMode) → Placed lpa_mode_number lpa_mode_name lpa_modes m
unfolding placed same_bytes
lpa_mode_placed m = is_placed lpa_mode_number lpa_mode_name lpa_modes m (lpa_mode_every (placed lpa_mode_number lpa_mode_name lpa_modes) refl m)

pub too_state_placed : (t : TooState) → Placed too_state_number too_state_name too_states t
unfolding placed same_bytes
too_state_placed t = is_placed too_state_number too_state_name too_states t (too_state_every (placed too_state_number too_state_name too_states) refl t)

status_kind : Kind status_number Ok (Err unknown_number) statuses
status_kind = record { same = λ x y e. cc; apart = λ x e. cc; back = status_back }

pub status_placed : (s : Status) → Placed status_number status_name statuses s
unfolding placed same_bytes
status_placed s = is_placed status_number status_name statuses s (kind_every status_kind (placed status_number status_name statuses) refl s)
