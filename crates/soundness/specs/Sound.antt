-- State: when it is sound.
-- Assumes nothing.
use Rattle.std.specs.Prelude.{ℕ, Bool, not, ◌&&◌, ◌||◌, eqb, leb, if◌then◌else◌}
use Rattle.kinds.specs.Choice.{◌⇒◌}
use Rattle.kinds.specs.Kinds.{mode_is, task_is, lpa_mode_is, too_state_is}
use Rattle.kinds.specs.declared.mode.Mode.{Mode}
use Rattle.kinds.specs.declared.task.Task.{Task}
use Rattle.kinds.specs.declared.lpa_mode.LpaMode.{LpaMode}
use Rattle.kinds.specs.declared.too_state.TooState.{TooState}
use Rattle.state.specs.declared.State.{State}

-- a timer is on where it names an event
abbrev pub timer_on : ℕ → Bool
timer_on n = not (eqb n 0)

-- (a) calibration runs only in CALIBRATION, which never has it idle
unfoldable pub calibration_sound : State → Bool
calibration_sound s =
    (task_is s.lci Task.Running ⇒ mode_is s.mode Mode.Calibration)
    && (mode_is s.mode Mode.Calibration ⇒ not (task_is s.lci Task.Idle))

-- (b) physics runs only in PHYSICS or TOO, outside the SAA, and in the LPA mode of that mode; PHYSICS never has it idle
unfoldable pub physics_sound : State → Bool
physics_sound s =
    (task_is s.lpa Task.Running
    ⇒ ((mode_is s.mode Mode.Physics && lpa_mode_is s.lpa_mode LpaMode.Normal)
    || (mode_is s.mode Mode.Too && lpa_mode_is s.lpa_mode LpaMode.Too))
    && not s.saa)
    && (mode_is s.mode Mode.Physics ⇒ not (task_is s.lpa Task.Idle))

-- (c) the target of opportunity and its timer are there in mode TOO and nowhere else
unfoldable pub too_sound : State → Bool
too_sound s =
    if mode_is s.mode Mode.Too
    then not (too_state_is s.too TooState.None) && timer_on s.armed
    else too_state_is s.too TooState.None && not (timer_on s.armed)

-- (d) in BOOT all but the count is zero
unfoldable pub boot_sound : State → Bool
boot_sound s =
    mode_is s.mode Mode.Boot
    ⇒ (task_is s.lci Task.Idle
    && task_is s.lpa Task.Idle
    && lpa_mode_is s.lpa_mode LpaMode.Normal
    && not s.saa
    && not s.lci_awaited
    && not s.lpa_awaited
    && too_state_is s.too TooState.None
    && not (timer_on s.armed))

-- (e) calibration or physics is idle: only one of them may use the front ends
unfoldable pub tasks_sound : State → Bool
tasks_sound s = task_is s.lci Task.Idle || task_is s.lpa Task.Idle

-- (c), last part: the timer names an event that was
abbrev pub numbers_sound : State → Bool
numbers_sound s = leb s.armed s.count

-- Soundness is in two parts, so that what the rules keep of it can be computed. The clauses of the shape look at a timer only through
-- `timer_on`: there are few shapes, and all of them are tried. What compares two numbers stands apart, and is proved.
unfoldable pub shape_sound : State → Bool
shape_sound s = calibration_sound s && physics_sound s && too_sound s && boot_sound s && tasks_sound s

unfoldable pub sound : State → Bool
sound s = shape_sound s && numbers_sound s
