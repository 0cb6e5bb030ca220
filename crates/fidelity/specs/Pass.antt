-- A pass, in the words of demand 3: what is asked of the manager, what it did and wrote, what was delivered to the ground, and what
-- the ground made of it. These are the words of the statement in Fidelity; all they depend on is what the contracts of `manager` and
-- `reader` cite.
-- Assumes nothing.
use Rattle.std.specs.Prelude.{ℕ, zero, suc, ◌+◌, ◌-◌, ◌*◌, Bool, ◌⊎◌, ◌≡◌, Result, Ok, Err, length, take, eqb, if◌then◌else◌}
use mathlib.Core.List.{List, [], ◌∷◌, ◌++◌, Memᴰ}
use Rattle.frame_check.specs.Check.{check_of}
use Rattle.state.specs.State.{fresh}
use Rattle.records.specs.Record.{parts_of_record}
use Rattle.state.specs.declared.State.{State}
use Rattle.records.specs.declared.Record.{Record}
use Rattle.records.specs.declared.Wrong.{Wrong}
use Rattle.layout.specs.Bytes.{AreBytes, u16_at}
use Rattle.blocks.specs.Block.{records_at, check_at, BLOCK, head_of}
use Rattle.layout.specs.Record.{RECORD, read_record}
use Rattle.manager.specs.Manager.{Outcome, fresh_manager, is_logged, manager_step, manager_flush, answered_of}
use Rattle.manager.specs.declared.Manager.{Manager}
use Rattle.reader.specs.Reader.{fresh_reader, read_of, reply_number}
use Rattle.reader.specs.declared.reader.Reader.{Reader}
use Rattle.reader.specs.declared.reply.Read.{Read}

-- On board ---------------------------------------------------------------------------------------------------------------------

-- an event, of any bytes and any length, or a flush; each with the block that is lent to it, of any length
pub data Operation : Type 0 where
  stepping : (event lent : List ℕ) → Operation
  flushing : (lent : List ℕ) → Operation

-- the events' strings are strings of bytes, as their type in the code says; of the lent ones nothing is asked
abbrev pub EventBytes : List Operation → Type 0
EventBytes [] = Unit {0}
EventBytes (stepping event lent ∷ os) = AreBytes event × EventBytes os
EventBytes (flushing lent ∷ os) = EventBytes os

-- the manager after some operations; the states it went through, the fresh one first and then the one right after each event that
-- was logged; and the blocks that it wrote, in order
pub record Run : Type 0 where
  pub manager : Manager
  pub states : List State
  pub blocks : List (List ℕ)

abbrev pub fresh_run : ℕ → Run
fresh_run number = record { manager = fresh_manager number; states = fresh ∷ []; blocks = [] }

abbrev pub with_when : {A : Type 0} → Bool → List A → A → List A
with_when happened xs x = if happened then xs ++ x ∷ [] else xs

abbrev pub after_step : Run → Outcome → Run
after_step r o =
    record {
      manager = (answered_of o).manager;
      states = with_when (is_logged o.answer) r.states o.state;
      blocks = with_when o.written r.blocks o.lent;
    }

-- a flush is no event: it adds no state
abbrev pub after_flush : Run → Outcome → Run
after_flush r o =
    record { manager = (answered_of o).manager; states = r.states; blocks = with_when o.written r.blocks o.lent }

abbrev pub after_one : Run → Operation → Run
after_one r (stepping event lent) = after_step r (manager_step r.manager event lent)
after_one r (flushing lent) = after_flush r (manager_flush r.manager lent)

abbrev pub after_all : Run → List Operation → Run
after_all r [] = r
after_all r (o ∷ os) = after_all (after_one r o) os

-- what a fresh manager with this log number comes to
unfoldable pub run_of : ℕ → List Operation → Run
run_of number os = after_all (fresh_run number) os

-- "the n-th of these, counted from 0, is there, and is x"
abbrev pub At : {A : Type 0} → List A → ℕ → A → Type 0
At [] n x = ⊥
At (y ∷ ys) zero x = y ≡ x
At (y ∷ ys) (suc n) x = At ys n x

-- the number of the last event in a block: v of its last record, which in a block of a run is the STATUS that closes that event
-- (`last` in Chain)
abbrev pub event_number : Result Record Wrong → ℕ
event_number (Ok r) = (parts_of_record r).v
event_number (Err wrong) = 0

unfoldable pub last_in : List ℕ → ℕ
last_in b = event_number (read_record b (records_at + RECORD * ((head_of b).used - 1)))

-- the number of the last event in some blocks, after event n; 0 stands for the fresh state
abbrev pub last_after : ℕ → List (List ℕ) → ℕ
last_after n [] = n
last_after n (b ∷ bs) = last_after (last_in b) bs

abbrev pub last_event : List (List ℕ) → ℕ
last_event bs = last_after 0 bs

-- On the way down --------------------------------------------------------------------------------------------------------------

-- a string that is not for the reader of this log, or that no one can read
pub data Stray (number : ℕ) (b : List ℕ) : Type 0 where
  another_length : (length b ≡ BLOCK → ⊥) → Stray number b
  wrong_check : (check_of (take check_at b) ≡ u16_at b check_at → ⊥) → Stray number b
  another_log : ((head_of b).number ≡ number → ⊥) → Stray number b

-- each string that is delivered is one of these blocks or a stray; blocks may be lost, repeated and out of order
abbrev pub Delivery : ℕ → List (List ℕ) → List (List ℕ) → Type 0
Delivery number blocks [] = Unit {0}
Delivery number blocks (b ∷ bs) = (Memᴰ b blocks ⊎ Stray number b) × Delivery number blocks bs

-- On the ground ----------------------------------------------------------------------------------------------------------------

-- the reader after some strings, and those of them that it answered with APPLIED
pub record Ground : Type 0 where
  pub reader : Reader
  pub applied : List (List ℕ)

abbrev pub fresh_ground : ℕ → Ground
fresh_ground number = record { reader = fresh_reader number; applied = [] }

abbrev pub APPLIED : ℕ
APPLIED = 0

abbrev pub after_read : Ground → List ℕ → Read → Ground
after_read w b r =
    record { reader = r.reader; applied = with_when (eqb (reply_number r.answer) APPLIED) w.applied b }

abbrev pub hears : Ground → List (List ℕ) → Ground
hears w [] = w
hears w (b ∷ bs) = hears (after_read w b (read_of w.reader b)) bs

-- what a fresh reader of this log comes to
unfoldable pub ground_of : ℕ → List (List ℕ) → Ground
ground_of number bs = hears (fresh_ground number) bs

-- some block of these was delivered and at none of its deliveries applied
abbrev pub Missed : List (List ℕ) → List (List ℕ) → List (List ℕ) → Type 0
Missed blocks delivered applied =
    (b : List ℕ) × Memᴰ b blocks × Memᴰ b delivered × (Memᴰ b applied → ⊥)
