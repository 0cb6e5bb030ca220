-- State, and Answers of the manager, laws: a number is that of one kind and is read back as it; the numbers fit 16 bits; what all of
-- a kind's listed members pass, every member passes (`..-every`), so that a law about a kind may be one computed test.
-- Assumes nothing.
use Rattle.std.specs.Prelude.{ℕ, ◌<◌, ◌^◌, Bool, true, false, [], ◌∷◌, map, Result, Ok, Err, ◌≡◌, refl}
use Rattle.std.specs.Int.{from_bool}
use Rattle.std.proofs.Common.{ap}
use Rattle.std.proofs.lemmas.Bool.{eq-eqb}
use Rattle.kinds.specs.Choice.{numbered, every}
use Rattle.kinds.specs.ChoiceLaws.{Kind, kind_every, kind_below, kind_alike}
use Rattle.kinds.specs.Kinds.{unknown_number, mode_number, modes, mode_of, mode_is}
use Rattle.kinds.specs.Kinds.{task_number, tasks, task_of, task_is}
use Rattle.kinds.specs.Kinds.{lpa_mode_number, lpa_modes, lpa_mode_of, lpa_mode_is}
use Rattle.kinds.specs.Kinds.{too_state_number, too_states, too_state_of, too_state_is}
use Rattle.kinds.specs.Kinds.{flag_number, flags, flag_of, status_number, statuses, status_of, status_is, refusal_order, answer_number}
use Rattle.kinds.specs.declared.UnknownNumber.{UnknownNumber}
use Rattle.kinds.specs.declared.mode.Mode.{Mode}
use Rattle.kinds.specs.declared.task.Task.{Task}
use Rattle.kinds.specs.declared.lpa_mode.LpaMode.{LpaMode}
use Rattle.kinds.specs.declared.too_state.TooState.{TooState}
use Rattle.kinds.specs.declared.status.Status.{Status}
use Rattle.kinds.specs.declared.answer.Answer.{Answer}

pub mode_back : (m : Mode) → mode_of (mode_number m) ≡ Ok m
mode_back Mode.Boot = refl
mode_back Mode.Terminal = refl
mode_back Mode.Quiescent = refl
mode_back Mode.Hold = refl
mode_back Mode.Calibration = refl
mode_back Mode.Physics = refl
mode_back Mode.Too = refl

mode_kind : Kind mode_number Ok (Err unknown_number) modes
mode_kind = record { same = λ x y e. cc; apart = λ x e. cc; back = mode_back }

pub mode_every : (test : Mode → Bool) → every test modes ≡ true → (m : Mode) → test m ≡ true
mode_every test all m = kind_every mode_kind test all m

pub mode_fits : (m : Mode) → mode_number m < 2 ^ 16
mode_fits m = kind_below mode_kind (2 ^ 16) refl m

-- what the comparison of numbers says is what `==` says
pub mode_alike : (a b : Mode) → mode_is a b ≡ true → a ≡ b
mode_alike a b e = kind_alike mode_kind a b e

pub mode_itself : (a : Mode) → mode_is a a ≡ true
mode_itself a = eq-eqb (mode_number a) (mode_number a) refl

pub task_back : (t : Task) → task_of (task_number t) ≡ Ok t
task_back Task.Idle = refl
task_back Task.Running = refl
task_back Task.Stopping = refl

task_kind : Kind task_number Ok (Err unknown_number) tasks
task_kind = record { same = λ x y e. cc; apart = λ x e. cc; back = task_back }

pub task_every : (test : Task → Bool) → every test tasks ≡ true → (t : Task) → test t ≡ true
task_every test all t = kind_every task_kind test all t

pub task_fits : (t : Task) → task_number t < 2 ^ 16
task_fits t = kind_below task_kind (2 ^ 16) refl t

-- what the comparison of numbers says is what `==` says
pub task_alike : (a b : Task) → task_is a b ≡ true → a ≡ b
task_alike a b e = kind_alike task_kind a b e

pub task_itself : (a : Task) → task_is a a ≡ true
task_itself a = eq-eqb (task_number a) (task_number a) refl

pub lpa_mode_back : (m : LpaMode) → lpa_mode_of (lpa_mode_number m) ≡ Ok m
lpa_mode_back LpaMode.Normal = refl
lpa_mode_back LpaMode.Too = refl

lpa_mode_kind : Kind lpa_mode_number Ok (Err unknown_number) lpa_modes
lpa_mode_kind = record { same = λ x y e. cc; apart = λ x e. cc; back = lpa_mode_back }

pub lpa_mode_every : (test : LpaMode → Bool) → every test lpa_modes ≡ true → (m : LpaMode) → test m ≡ true
lpa_mode_every test all m = kind_every lpa_mode_kind test all m

pub lpa_mode_fits : (m : LpaMode) → lpa_mode_number m < 2 ^ 16
lpa_mode_fits m = kind_below lpa_mode_kind (2 ^ 16) refl m

-- what the comparison of numbers says is what `==` says
pub lpa_mode_alike : (a b : LpaMode) → lpa_mode_is a b ≡ true → a ≡ b
lpa_mode_alike a b e = kind_alike lpa_mode_kind a b e

pub lpa_mode_itself : (a : LpaMode) → lpa_mode_is a a ≡ true
lpa_mode_itself a = eq-eqb (lpa_mode_number a) (lpa_mode_number a) refl

pub too_state_back : (t : TooState) → too_state_of (too_state_number t) ≡ Ok t
too_state_back TooState.None = refl
too_state_back TooState.Waiting = refl
too_state_back TooState.Started = refl

too_state_kind : Kind too_state_number Ok (Err unknown_number) too_states
too_state_kind = record { same = λ x y e. cc; apart = λ x e. cc; back = too_state_back }

pub too_state_every : (test : TooState → Bool) → every test too_states ≡ true → (t : TooState) → test t ≡ true
too_state_every test all t = kind_every too_state_kind test all t

pub too_state_fits : (t : TooState) → too_state_number t < 2 ^ 16
too_state_fits t = kind_below too_state_kind (2 ^ 16) refl t

-- what the comparison of numbers says is what `==` says
pub too_state_alike : (a b : TooState) → too_state_is a b ≡ true → a ≡ b
too_state_alike a b e = kind_alike too_state_kind a b e

pub too_state_itself : (a : TooState) → too_state_is a a ≡ true
too_state_itself a = eq-eqb (too_state_number a) (too_state_number a) refl

pub flag_back : (b : Bool) → flag_of (flag_number b) ≡ Ok b
flag_back false = refl
flag_back true = refl

flag_kind : Kind flag_number Ok (Err unknown_number) flags
flag_kind = record { same = λ x y e. cc; apart = λ x e. cc; back = flag_back }

pub flag_every : (test : Bool → Bool) → every test flags ≡ true → (b : Bool) → test b ≡ true
flag_every test all b = kind_every flag_kind test all b

pub flag_fits : (b : Bool) → flag_number b < 2 ^ 16
flag_fits b = kind_below flag_kind (2 ^ 16) refl b

-- std's number of a yes or no is ours
pub flag_std : (b : Bool) → from_bool b ≡ flag_number b
flag_std false = refl
flag_std true = refl

pub status_back : (s : Status) → status_of (status_number s) ≡ Ok s
status_back Status.Success = refl
status_back Status.PktSent = refl
status_back Status.Fwd = refl
status_back Status.NotRun = refl
status_back Status.BadMode = refl
status_back Status.TooAct = refl
status_back Status.BadParam = refl
status_back Status.Saa = refl
status_back Status.OthRun = refl
status_back Status.OthStop = refl
status_back Status.OthIdle = refl
status_back Status.Stale = refl

status_kind : Kind status_number Ok (Err unknown_number) statuses
status_kind = record { same = λ x y e. cc; apart = λ x e. cc; back = status_back }

pub status_fits : (s : Status) → status_number s < 2 ^ 16
status_fits s = kind_below status_kind (2 ^ 16) refl s

-- what the comparison of numbers says is what `==` says
pub status_alike : (a b : Status) → status_is a b ≡ true → a ≡ b
status_alike a b e = kind_alike status_kind a b e

pub status_itself : (a : Status) → status_is a a ≡ true
status_itself a = eq-eqb (status_number a) (status_number a) refl

-- today refusals are looked for by number, upward
pub refusals_numbered : map status_number refusal_order ≡ 3 ∷ 4 ∷ 5 ∷ 6 ∷ 7 ∷ 8 ∷ 9 ∷ 10 ∷ 11 ∷ []
refusals_numbered = refl

-- the answer of a number, only to tell the answers' numbers apart
refusal : ℕ → Answer
refusal n = numbered answer_number (λ a. a) Answer.Empty (Answer.Full ∷ Answer.BadState ∷ Answer.BadEvent ∷ Answer.BadBuf ∷ []) n

answered : Result Status UnknownNumber → ℕ → Answer
answered (Ok s) n = Answer.Taken s
answered (Err e) n = refusal n

answer_back : (a : Answer) → answered (status_of (answer_number a)) (answer_number a) ≡ a
unfolding answered refusal
answer_back (Answer.Taken s) = rw status_back
answer_back Answer.Full = refl
answer_back Answer.BadState = refl
answer_back Answer.BadEvent = refl
answer_back Answer.BadBuf = refl
answer_back Answer.Empty = refl

-- an answer's number says which answer it is
pub answer_injective : (a b : Answer) → answer_number a ≡ answer_number b → a ≡ b
answer_injective a b e = cc (answer_back a, answer_back b, ap (λ n. answered (status_of n) n) e)
