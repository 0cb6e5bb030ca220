-- State: the numbers of a state that the programs print, in the order of their columns.
-- Assumes nothing.
use Rattle.std.specs.Prelude.{ℕ, List, [], ◌∷◌}
use Rattle.kinds.specs.Kinds.{mode_number, task_number, lpa_mode_number, flag_number, too_state_number}
use Rattle.state.specs.declared.State.{State}

-- mode lci lpa lpm saa lciw lpaw too arm ev
abbrev pub desk_columns : State → List ℕ
desk_columns s =
    mode_number s.mode
    ∷ task_number s.lci
    ∷ task_number s.lpa
    ∷ lpa_mode_number s.lpa_mode
    ∷ flag_number s.saa
    ∷ flag_number s.lci_awaited
    ∷ flag_number s.lpa_awaited
    ∷ too_state_number s.too
    ∷ s.armed
    ∷ s.count
    ∷ []

-- mode lci lpa saa too arm
abbrev pub listing_columns : State → List ℕ
listing_columns s =
    mode_number s.mode
    ∷ task_number s.lci
    ∷ task_number s.lpa
    ∷ flag_number s.saa
    ∷ too_state_number s.too
    ∷ s.armed
    ∷ []
