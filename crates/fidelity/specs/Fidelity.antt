-- THE STATEMENT. The display is never wrong about the instrument (demand 3).
--
-- A fresh manager with some log number takes any list of operations: events of any bytes and any length, and flushes, each with a
-- lent block of any length; those that it refuses are among them, and so is FULL. It leaves a run: the states it went through, one
-- for each event that it logged, with the fresh state as number 0, and the blocks that it wrote. A fresh reader with the same log
-- number, which sees no commands, is then given any list of strings: blocks of that run, lost, repeated or out of order, and between
-- them strays: strings of another length, with a wrong check, or with another log number.
--
-- Then (a) the reader shows an event's number and a state, and the manager was in that state when that event was closed: shown;
--      (b) it says that it is behind exactly if some block of the run was delivered and at no delivery answered APPLIED: behind;
--      (c) once the run's blocks have come in their order, whatever came between, the state shown is that of their last event, and the
--          fresh state if there are none: complete.
-- The operations and the delivery are any, so each of the three holds at every moment.
--
-- `run_of` and `ground_of` are folds of `manager_step`, `manager_flush` and `read_of`, the definitions that the contracts of `Manager::step`,
-- `Manager::flush` and `Reader::read` cite: what is said here is said of the code. Their words stand in Pass. It is proved in Proof;
-- RunLaws proves besides that state n of a run is one in which n events are counted (run_numbered).
--
-- Three things are assumed, and each is needed. The events' strings are bytes, as their type in the code says: a mask of 2 ^ 32 would
-- be written as 0, and read back as nonsense. The log number is below 2 ^ 32, as its type says: otherwise the blocks carry another.
-- And each string that is delivered is a block of the run or a stray: who can work out a right check can forge a block with this log's
-- number that no manager wrote, and the reader will take it. Nothing is assumed of how many events or blocks there are.
use Rattle.std.specs.Prelude.{ℕ, ◌^◌, ◌<◌, true, ◌↔◌, ◌≡◌}
use mathlib.Core.List.{List, Sublistᴰ}
use Rattle.reader.specs.Reader.{is_behind}
use Rattle.fidelity.specs.Pass.{Operation, EventBytes, Run, run_of, At, last_event, Delivery, Ground, ground_of, Missed}

module _ (run : Run) (delivered : List (List ℕ)) (station : Ground) where
  -- what is shown: the state, under the number of the event after which the manager had it
  abbrev ShownAt : ℕ → Type 0
  ShownAt event = At run.states event station.reader.state

  pub record Faithful : Type 0 where
    pub shown : ShownAt station.reader.state.count
    pub behind : (is_behind station.reader ≡ true) ↔ Missed run.blocks delivered station.applied
    pub complete : Sublistᴰ run.blocks delivered → ShownAt (last_event run.blocks)

abbrev pub Fidelity : Type 0
Fidelity =
    (number : ℕ) → number < 2 ^ 32
    → (operations : List Operation) → EventBytes operations
    → (delivered : List (List ℕ)) → Delivery number (run_of number operations).blocks delivered
    → Faithful (run_of number operations) delivered (ground_of number delivered)
