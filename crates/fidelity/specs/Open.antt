-- The open block: its records, as many as its head says, stand in its bytes, can be read back, and lead from the state at its
-- count-before to the present state. Whole events only: the last record, if there is one, closes the last event.
-- Assumes nothing.
use Rattle.std.specs.Prelude.{ℕ, ◌*◌, true, List, [], ◌∷◌, ◌++◌, ◌⊎◌, ◌≡◌, length, take, Ok}
use Rattle.kinds.specs.Choice.{every}
use Rattle.records.specs.Record.{record_in_range, v_fits}
use Rattle.layout.specs.Record.{records_bytes}
use Rattle.state.specs.declared.State.{State}
use Rattle.kinds.specs.declared.status.Status.{Status}
use Rattle.records.specs.declared.Record.{Record}
use Rattle.blocks.specs.Block.{RECORDS}
use Rattle.layout.specs.Record.{RECORD}
use Rattle.blocks.specs.declared.block.Head.{Head}
use Rattle.fidelity.specs.Replay.{replay}

-- no records, or the last is the STATUS of event n
abbrev pub Ends : ℕ → List Record → Type 0
Ends n rs = (rs ≡ []) ⊎ ((front : List Record) × (x : Status) × (rs ≡ front ++ Record.Status x n ∷ []))

pub record Open (s : State) (h : Head) (records : List ℕ) (t : State) : Type 0 where
  pub logged : List Record
  pub full : length records ≡ RECORDS
  pub stand : take (RECORD * length logged) records ≡ records_bytes logged
  pub used : h.used ≡ length logged
  pub range : every record_in_range logged ≡ true
  pub fit : every v_fits logged ≡ true
  pub before : h.before ≡ s.count
  pub leads : replay 0 s logged ≡ Ok t
  pub ends : Ends t.count logged
