-- State, and Answers of the manager: the kinds and their numbers, each of which stands here once; everything else goes by the names.
-- The codes of events and of records stand on their own floors. A number is read back as the kind that has it, and as an unknown
-- number where none has.
-- Assumes nothing.
use Rattle.std.specs.Prelude.{ℕ, Bool, true, false, List, [], ◌∷◌, Result, Ok, Err, eqb}
use Rattle.kinds.specs.Choice.{numbered, some, place}
use Rattle.kinds.specs.declared.UnknownNumber.{UnknownNumber}
use Rattle.kinds.specs.declared.mode.Mode.{Mode}
use Rattle.kinds.specs.declared.task.Task.{Task}
use Rattle.kinds.specs.declared.lpa_mode.LpaMode.{LpaMode}
use Rattle.kinds.specs.declared.too_state.TooState.{TooState}
use Rattle.kinds.specs.declared.status.Status.{Status}
use Rattle.kinds.specs.declared.answer.Answer.{Answer}

-- the last of the 32-bit numbers, where what is counted ends
abbrev pub last_number : ℕ
last_number = 4_294_967_295

abbrev pub unknown_number : UnknownNumber
unknown_number = record {}

abbrev pub mode_number : Mode → ℕ
mode_number Mode.Boot = 0
mode_number Mode.Terminal = 1
mode_number Mode.Quiescent = 2
mode_number Mode.Hold = 3
mode_number Mode.Calibration = 4
mode_number Mode.Physics = 5
mode_number Mode.Too = 6

abbrev pub modes : List Mode
modes = Mode.Boot ∷ Mode.Terminal ∷ Mode.Quiescent ∷ Mode.Hold ∷ Mode.Calibration ∷ Mode.Physics ∷ Mode.Too ∷ []

abbrev pub mode_of : ℕ → Result Mode UnknownNumber
mode_of n = numbered mode_number Ok (Err unknown_number) modes n

abbrev pub mode_is : Mode → Mode → Bool
mode_is a b = eqb (mode_number a) (mode_number b)

abbrev pub task_number : Task → ℕ
task_number Task.Idle = 0
task_number Task.Running = 1
task_number Task.Stopping = 2

abbrev pub tasks : List Task
tasks = Task.Idle ∷ Task.Running ∷ Task.Stopping ∷ []

abbrev pub task_of : ℕ → Result Task UnknownNumber
task_of n = numbered task_number Ok (Err unknown_number) tasks n

abbrev pub task_is : Task → Task → Bool
task_is a b = eqb (task_number a) (task_number b)

abbrev pub lpa_mode_number : LpaMode → ℕ
lpa_mode_number LpaMode.Normal = 0
lpa_mode_number LpaMode.Too = 1

abbrev pub lpa_modes : List LpaMode
lpa_modes = LpaMode.Normal ∷ LpaMode.Too ∷ []

abbrev pub lpa_mode_of : ℕ → Result LpaMode UnknownNumber
lpa_mode_of n = numbered lpa_mode_number Ok (Err unknown_number) lpa_modes n

abbrev pub lpa_mode_is : LpaMode → LpaMode → Bool
lpa_mode_is a b = eqb (lpa_mode_number a) (lpa_mode_number b)

abbrev pub too_state_number : TooState → ℕ
too_state_number TooState.None = 0
too_state_number TooState.Waiting = 1
too_state_number TooState.Started = 2

abbrev pub too_states : List TooState
too_states = TooState.None ∷ TooState.Waiting ∷ TooState.Started ∷ []

abbrev pub too_state_of : ℕ → Result TooState UnknownNumber
too_state_of n = numbered too_state_number Ok (Err unknown_number) too_states n

abbrev pub too_state_is : TooState → TooState → Bool
too_state_is a b = eqb (too_state_number a) (too_state_number b)

-- SAA, the awaited starts, and whether a task's report was good
abbrev pub flag_number : Bool → ℕ
flag_number false = 0
flag_number true = 1

abbrev pub flags : List Bool
flags = false ∷ true ∷ []

abbrev pub flag_of : ℕ → Result Bool UnknownNumber
flag_of n = numbered flag_number Ok (Err unknown_number) flags n

abbrev pub status_number : Status → ℕ
status_number Status.Success = 0
status_number Status.PktSent = 1
status_number Status.Fwd = 2
status_number Status.NotRun = 3
status_number Status.BadMode = 4
status_number Status.TooAct = 5
status_number Status.BadParam = 6
status_number Status.Saa = 7
status_number Status.OthRun = 8
status_number Status.OthStop = 9
status_number Status.OthIdle = 10
status_number Status.Stale = 11

abbrev pub statuses : List Status
statuses =
    Status.Success ∷ Status.PktSent ∷ Status.Fwd ∷ Status.NotRun ∷ Status.BadMode ∷ Status.TooAct
    ∷ Status.BadParam ∷ Status.Saa ∷ Status.OthRun ∷ Status.OthStop ∷ Status.OthIdle ∷ Status.Stale ∷ []

abbrev pub status_of : ℕ → Result Status UnknownNumber
status_of n = numbered status_number Ok (Err unknown_number) statuses n

abbrev pub status_is : Status → Status → Bool
status_is a b = eqb (status_number a) (status_number b)

-- the refusals, in the order in which they are looked for: the first that applies is the answer. Today it is that of their numbers
-- (`refusals_numbered`)
abbrev pub refusal_order : List Status
refusal_order =
    Status.NotRun ∷ Status.BadMode ∷ Status.TooAct ∷ Status.BadParam ∷ Status.Saa
    ∷ Status.OthRun ∷ Status.OthStop ∷ Status.OthIdle ∷ Status.Stale ∷ []

-- how many refusals are looked for before this one
abbrev pub refusal_place : Status → ℕ
refusal_place x = place (status_is x) refusal_order

abbrev pub is_refusal : Status → Bool
is_refusal x = some (status_is x) refusal_order

-- the manager's answers: the status of what was taken, and the refusals that are not logged
abbrev pub answer_number : Answer → ℕ
answer_number (Answer.Taken s) = status_number s
answer_number Answer.Full = 12
answer_number Answer.BadState = 13
answer_number Answer.BadEvent = 14
answer_number Answer.BadBuf = 15
answer_number Answer.Empty = 16
