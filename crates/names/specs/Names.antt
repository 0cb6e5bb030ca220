-- State, Answers of the manager: the names of the kinds, as they are printed. Those of the events are in EventNames, those of the records in `record_words`.
-- Assumes nothing.
use Rattle.std.specs.Prelude.{ℕ, List}
use Rattle.kinds.specs.declared.mode.Mode.{Mode}
use Rattle.kinds.specs.declared.task.Task.{Task}
use Rattle.kinds.specs.declared.lpa_mode.LpaMode.{LpaMode}
use Rattle.kinds.specs.declared.too_state.TooState.{TooState}
use Rattle.kinds.specs.declared.status.Status.{Status}
use Rattle.names.specs.Text.{bytes}

abbrev pub mode_name : Mode → List ℕ
mode_name Mode.Boot = bytes "BOOT"
mode_name Mode.Terminal = bytes "TERMINAL"
mode_name Mode.Quiescent = bytes "QUIESCENT"
mode_name Mode.Hold = bytes "HOLD"
mode_name Mode.Calibration = bytes "CALIBRATION"
mode_name Mode.Physics = bytes "PHYSICS"
mode_name Mode.Too = bytes "TOO"

abbrev pub task_name : Task → List ℕ
task_name Task.Idle = bytes "IDLE"
task_name Task.Running = bytes "RUNNING"
task_name Task.Stopping = bytes "STOPPING"

abbrev pub lpa_mode_name : LpaMode → List ℕ
lpa_mode_name LpaMode.Normal = bytes "NORMAL"
lpa_mode_name LpaMode.Too = bytes "TOO"

abbrev pub too_state_name : TooState → List ℕ
too_state_name TooState.None = bytes "NONE"
too_state_name TooState.Waiting = bytes "WAITING"
too_state_name TooState.Started = bytes "STARTED"

abbrev pub status_name : Status → List ℕ
status_name Status.Success = bytes "SUCCESS"
status_name Status.PktSent = bytes "PKTSENT"
status_name Status.Fwd = bytes "FWD"
status_name Status.NotRun = bytes "NOTRUN"
status_name Status.BadMode = bytes "BADMODE"
status_name Status.TooAct = bytes "TOOACT"
status_name Status.BadParam = bytes "BADPARAM"
status_name Status.Saa = bytes "SAA"
status_name Status.OthRun = bytes "OTHRUN"
status_name Status.OthStop = bytes "OTHSTOP"
status_name Status.OthIdle = bytes "OTHIDLE"
status_name Status.Stale = bytes "STALE"
