-- What passes from the manager's side to the ground's: its blocks are links of a chain. Each leads a reader of this log, in its turn,
-- from the state before it to the state after it, and that is a state of the manager's, under its number.
-- Assumes nothing.
use Rattle.std.specs.Prelude.{ℕ, ◌+◌, true, List, [], ◌∷◌, ◌≡◌, Ok}
use Rattle.kinds.specs.Kinds.{last_number}
use Rattle.state.specs.declared.State.{State}
use Rattle.blocks.specs.Block.{intact, head_of}
use Rattle.reader.specs.Content.{content_of}
use Rattle.fidelity.specs.Pass.{At, last_in}

-- block n of this log, between two states
pub record Link (number n : ℕ) (s : State) (b : List ℕ) (t : State) : Type 0 where
  pub whole : intact b ≡ true
  pub log : (head_of b).number ≡ number
  pub turn : (head_of b).block ≡ n
  pub earlier : (head_of b).block ≡ last_number → ⊥
  pub content : content_of s b ≡ Ok t
  pub last : last_in b ≡ t.count

-- blocks from number n on, from one state to another
abbrev pub Chain : ℕ → List State → ℕ → State → List (List ℕ) → State → Type 0
Chain number states n s [] t = s ≡ t
Chain number states n s (b ∷ bs) t =
    (u : State) × Link number n s b u × At states u.count u × Chain number states (n + 1) u bs t
