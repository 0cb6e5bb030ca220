-- State: its fields' values when fresh, and what it is with one field changed.
-- That a field is in its range is the types' part: a mode that is no mode cannot be written down here. `armed` and `count` are
-- 32-bit in the code; the definitions put no bound on them.
-- Assumes nothing.
use Rattle.std.specs.Prelude.{ℕ, Bool, false}
use Rattle.kinds.specs.declared.mode.Mode.{Mode}
use Rattle.kinds.specs.declared.task.Task.{Task}
use Rattle.kinds.specs.declared.lpa_mode.LpaMode.{LpaMode}
use Rattle.kinds.specs.declared.too_state.TooState.{TooState}
use Rattle.state.specs.declared.State.{State}

-- a state by its fields, in their order
abbrev pub state_of : Mode → Task → Task → LpaMode → Bool → Bool → Bool → TooState → ℕ → ℕ → State
state_of mode lci lpa lpa_mode saa lci_awaited lpa_awaited too armed count =
    record {
      mode = mode;
      lci = lci;
      lpa = lpa;
      lpa_mode = lpa_mode;
      saa = saa;
      lci_awaited = lci_awaited;
      lpa_awaited = lpa_awaited;
      too = too;
      armed = armed;
      count = count;
    }

-- what a reboot leaves, with the number of events closed
unfoldable pub rebooted : ℕ → State
rebooted n = state_of Mode.Boot Task.Idle Task.Idle LpaMode.Normal false false false TooState.None 0 n

abbrev pub fresh : State
fresh = rebooted 0

-- the state with one field changed, in the fields' order
abbrev pub with_mode : State → Mode → State
with_mode s x = state_of x s.lci s.lpa s.lpa_mode s.saa s.lci_awaited s.lpa_awaited s.too s.armed s.count

abbrev pub with_lci : State → Task → State
with_lci s x = state_of s.mode x s.lpa s.lpa_mode s.saa s.lci_awaited s.lpa_awaited s.too s.armed s.count

abbrev pub with_lpa : State → Task → State
with_lpa s x = state_of s.mode s.lci x s.lpa_mode s.saa s.lci_awaited s.lpa_awaited s.too s.armed s.count

abbrev pub with_lpa_mode : State → LpaMode → State
with_lpa_mode s x = state_of s.mode s.lci s.lpa x s.saa s.lci_awaited s.lpa_awaited s.too s.armed s.count

abbrev pub with_saa : State → Bool → State
with_saa s x = state_of s.mode s.lci s.lpa s.lpa_mode x s.lci_awaited s.lpa_awaited s.too s.armed s.count

abbrev pub with_lci_awaited : State → Bool → State
with_lci_awaited s x = state_of s.mode s.lci s.lpa s.lpa_mode s.saa x s.lpa_awaited s.too s.armed s.count

abbrev pub with_lpa_awaited : State → Bool → State
with_lpa_awaited s x = state_of s.mode s.lci s.lpa s.lpa_mode s.saa s.lci_awaited x s.too s.armed s.count

abbrev pub with_too : State → TooState → State
with_too s x = state_of s.mode s.lci s.lpa s.lpa_mode s.saa s.lci_awaited s.lpa_awaited x s.armed s.count

abbrev pub with_armed : State → ℕ → State
with_armed s x = state_of s.mode s.lci s.lpa s.lpa_mode s.saa s.lci_awaited s.lpa_awaited s.too x s.count

abbrev pub with_count : State → ℕ → State
with_count s x = state_of s.mode s.lci s.lpa s.lpa_mode s.saa s.lci_awaited s.lpa_awaited s.too s.armed x
