-- A list of records read one by one, as the reader reads those of a block: `reads` without the bytes. What is wrong, if something is,
-- does not matter here.
-- Assumes nothing.
use Rattle.std.specs.Prelude.{ℕ, ◌+◌, List, [], ◌∷◌, ◌≡◌, eqb, if◌then◌else◌, Ok, Result}
use Rattle.state.specs.declared.State.{State}
use Rattle.records.specs.declared.Record.{Record}
use Rattle.layout.specs.Record.{read_record}
use Rattle.reader.specs.Content.{went_by, followed, record_at, wrong_at}
use Rattle.reader.specs.declared.content.Mistake.{Mistake}
use Rattle.reader.specs.declared.content.Fault.{Fault}

abbrev pub replay : ℕ → State → List Record → Result State Mistake
replay k s [] = if eqb k 0 then Ok s else wrong_at 0 Fault.Open
replay k s (r ∷ rs) = followed 0 k (λ k' s'. replay k' s' rs) (went_by k s (Ok r))

-- these records stand in a block, from a position on
abbrev pub StandIn : List ℕ → ℕ → List Record → Type 0
StandIn b at [] = Unit {0}
StandIn b at (r ∷ rs) = (read_record b (record_at at) ≡ Ok r) × StandIn b (at + 1) rs
