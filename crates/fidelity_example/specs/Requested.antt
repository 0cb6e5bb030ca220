-- What the requests have added, worked out as the sixteen cases are: a table for each request, and one computed statement about it.
-- Assumes nothing.
use Rattle.std.specs.Prelude.{true, false, ◌&&◌, List, [], ◌∷◌, ◌++◌, ◌≡◌, refl, eqb, length}
use Rattle.kinds.specs.Choice.{every}
use Rattle.events.specs.declared.Event.{Event}
use Rattle.fidelity_example.specs.Table.{Case, case, comes_out, ready, worked}

-- For Q-1: a calibration that a hold stopped and that has not ended, in QUIESCENT; and then a target that waits for it
abbrev pub stopping : List Event
stopping = ready ++ Event.CalStart ∷ Event.HoldEnter ∷ Event.HoldExit ∷ []

abbrev pub waiting : List Event
waiting = stopping ++ Event.TooStart 8 600 ∷ []

-- Q-1: physics asked for before the calibration has ended, and after
abbrev pub q1 : List Case
q1 =
    -- a start is OTHSTOP, but SAA goes before it
    case stopping (Event.LpaStart 7) (6 ∷ 9 ∷ 2 ∷ 2 ∷ 0 ∷ 0 ∷ 0 ∷ 0 ∷ 1 ∷ []) 16 false
    ∷ case (stopping ++ Event.SaaEnter ∷ []) (Event.LpaStart 7) (7 ∷ 7 ∷ 2 ∷ 2 ∷ 0 ∷ 1 ∷ 0 ∷ 0 ∷ 1 ∷ []) 19 false
    -- a target waits, and a start for it is OTHSTOP too
    ∷ case stopping (Event.TooStart 8 600) (6 ∷ 0 ∷ 6 ∷ 2 ∷ 0 ∷ 0 ∷ 1 ∷ 6 ∷ 4 ∷ []) 19 false
    ∷ case waiting (Event.LpaStart 8) (7 ∷ 9 ∷ 6 ∷ 2 ∷ 0 ∷ 0 ∷ 1 ∷ 6 ∷ 1 ∷ []) 20 false
    -- once the calibration has ended nothing starts by itself, and a start is taken, in TOO and in QUIESCENT
    ∷ case waiting Event.CalComplete (7 ∷ 0 ∷ 6 ∷ 0 ∷ 0 ∷ 0 ∷ 1 ∷ 6 ∷ 3 ∷ []) 22 false
    ∷ case (waiting ++ Event.CalComplete ∷ []) (Event.LpaStart 8) (8 ∷ 1 ∷ 6 ∷ 0 ∷ 1 ∷ 0 ∷ 2 ∷ 6 ∷ 4 ∷ []) 26 false
    ∷ case (stopping ++ Event.CalComplete ∷ []) (Event.LpaStart 7) (7 ∷ 1 ∷ 5 ∷ 0 ∷ 1 ∷ 0 ∷ 0 ∷ 0 ∷ 4 ∷ []) 22 false
    ∷ []

-- there are seven, and all come out
pub q1-comes_out : (eqb (length q1) 7 && every comes_out q1) ≡ true
unfolding worked
q1-comes_out = refl
