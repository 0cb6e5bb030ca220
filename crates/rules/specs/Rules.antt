-- Mode rules, one definition an event, in the paper's order. "Else" of the paper is the refusal BadMode.
-- Assumes nothing.
use Rattle.std.specs.Prelude.{ℕ, Bool, true, false, not, ◌&&◌, ◌||◌, List, [], ◌∷◌, ◌++◌, eqb, if◌then◌else◌}
use Rattle.events.specs.Event.{is_started}
use Rattle.ranges.specs.Ranges.{wait_short, wait_long, alert_shed, dwell_in_range, mask_in_range}
use Rattle.kinds.specs.declared.mode.Mode.{Mode}
use Rattle.kinds.specs.declared.task.Task.{Task}
use Rattle.kinds.specs.declared.lpa_mode.LpaMode.{LpaMode}
use Rattle.kinds.specs.declared.too_state.TooState.{TooState}
use Rattle.kinds.specs.declared.status.Status.{Status}
use Rattle.state.specs.declared.State.{State}
use Rattle.events.specs.declared.Event.{Event}
use Rattle.records.specs.declared.Record.{Record}
use Rattle.rules.specs.Rule.{Rule, Verdict, unless, decide, in_mode, lci_is, lpa_is, too_is, stop_calibration, stop_physics, end_too}

abbrev pub rule : List (Status × Bool) → Status → List Record → Rule
rule refusals status records = record { refusals = refusals; status = status; records = records }

-- taken only where this holds: the paper's "else"
abbrev pub only : Bool → Status × Bool
only c = (Status.BadMode, not c)

abbrev pub started : State → Rule
started s = rule (only (in_mode s Mode.Boot) ∷ []) Status.Success (Record.OpMode Mode.Terminal ∷ [])

abbrev pub main_feed_on : State → Rule
main_feed_on s =
    rule (only (in_mode s Mode.Terminal) ∷ []) Status.Success (Record.MainFeed ∷ Record.OpMode Mode.Quiescent ∷ [])

-- the configuration that the SAA asks for
abbrev pub configured : State → Record
configured s = if s.saa then Record.SaaCfg else Record.NonSaaCfg

abbrev pub power_on : State → ℕ → Rule
power_on s mask =
    rule
    (only (in_mode s Mode.Quiescent) ∷ (Status.BadParam, not (mask_in_range mask)) ∷ [])
    Status.Success
    (Record.PowerOn mask ∷ configured s ∷ [])

abbrev pub power_off : State → ℕ → Rule
power_off s mask =
    rule
    (only (in_mode s Mode.Quiescent) ∷ (Status.BadParam, not (mask_in_range mask)) ∷ [])
    Status.Success
    (Record.PowerOff mask ∷ [])

abbrev pub hold_enter : State → Rule
hold_enter s =
    rule
    (only (in_mode s Mode.Quiescent || in_mode s Mode.Calibration || in_mode s Mode.Physics || in_mode s Mode.Too) ∷ [])
    Status.Success
    (stop_calibration s ++ stop_physics s ++ end_too s ++ Record.OpMode Mode.Hold ∷ [])

abbrev pub hold_exit : State → Rule
hold_exit s = rule (only (in_mode s Mode.Hold) ∷ []) Status.Success (Record.OpMode Mode.Quiescent ∷ [])

abbrev pub saa_enter : State → Rule
saa_enter s =
    rule [] Status.Success
    (Record.SaaChange true
    ∷ (stop_physics s
    ++ (if lpa_is s Task.Running then Record.Wait wait_long ∷ [] else [])
    ++ (if not (in_mode s Mode.Terminal) then Record.SaaCfg ∷ [] else [])))

abbrev pub saa_exit : State → Rule
saa_exit s =
    rule [] Status.Success
    (Record.SaaChange false ∷ (if not (in_mode s Mode.Terminal) then Record.NonSaaCfg ∷ [] else []))

-- the shedding itself, once a task that runs was sent its stop
abbrev pub shedding : List Record
shedding =
    Record.LtcStop ∷ Record.Wait wait_long ∷ Record.ShedBegin ∷ Record.ShedEnd ∷ Record.SiuReboot ∷ Record.Wait wait_short ∷ []

abbrev pub load_shed : State → Rule
load_shed s =
    rule [] Status.Success
    (Record.Alert alert_shed ∷ (stop_calibration s ++ stop_physics s ++ shedding))

abbrev pub no_op : State → Rule
no_op s = rule (only (not (in_mode s Mode.Hold)) ∷ []) Status.Success []

abbrev pub cal_start : State → Rule
cal_start s =
    rule
    (only (in_mode s Mode.Quiescent) ∷ (Status.OthStop, lci_is s Task.Stopping || lpa_is s Task.Stopping) ∷ [])
    Status.PktSent
    (Record.CalStart ∷ Record.LciState Task.Running ∷ Record.OpMode Mode.Calibration ∷ [])

abbrev pub cal_abort : State → Rule
cal_abort s =
    rule
    (only (not (in_mode s Mode.Terminal || in_mode s Mode.Hold)) ∷ [])
    Status.Fwd
    (Record.CalAbort ∷ Record.LciState (if lci_is s Task.Idle then Task.Idle else Task.Stopping) ∷ [])

abbrev pub cal_other : State → Rule
cal_other s =
    rule
    (only (in_mode s Mode.Calibration) ∷ (Status.OthStop, lci_is s Task.Stopping) ∷ [])
    Status.Fwd
    (Record.CalOther ∷ [])

abbrev pub cal_status : State → Bool → Rule
cal_status s good =
    rule [] Status.Success
    (Record.CalStatus good
    ∷ (if in_mode s Mode.Calibration && s.lci_awaited && not good
    then Record.LciState Task.Idle ∷ Record.OpMode Mode.Quiescent ∷ []
    else []))

abbrev pub cal_complete : State → Rule
cal_complete s =
    rule [] Status.Success
    (Record.CalComp ∷ Record.LciState Task.Idle
    ∷ (if in_mode s Mode.Calibration then Record.OpMode Mode.Quiescent ∷ [] else []))

-- a start in QUIESCENT is an ordinary run, in TOO the target's
abbrev pub lpa_start : State → ℕ → Rule
lpa_start s run =
    rule
    (only (in_mode s Mode.Quiescent || in_mode s Mode.Too)
    ∷ (Status.Saa, s.saa)
    ∷ (Status.OthRun, lpa_is s Task.Running)
    ∷ (Status.OthStop, lpa_is s Task.Stopping || not (lci_is s Task.Idle))
    ∷ [])
    Status.PktSent
    (Record.LpaStart (if in_mode s Mode.Quiescent then LpaMode.Normal else LpaMode.Too) run ∷ Record.LpaState Task.Running
    ∷ ((if in_mode s Mode.Quiescent then Record.OpMode Mode.Physics ∷ [] else [])
    ++ (if in_mode s Mode.Too && too_is s TooState.Waiting then Record.TooState TooState.Started ∷ [] else [])))

abbrev pub lpa_stop : State → Rule
lpa_stop s =
    rule
    (only (in_mode s Mode.Physics || in_mode s Mode.Too) ∷ (Status.OthIdle, lpa_is s Task.Idle) ∷ [])
    Status.PktSent
    (Record.LpaStop ∷ Record.LpaState Task.Stopping ∷ [])

abbrev pub lpa_other : State → Rule
lpa_other s =
    rule
    (only (in_mode s Mode.Physics || in_mode s Mode.Too)
    ∷ (Status.OthStop, lpa_is s Task.Stopping)
    ∷ (Status.OthIdle, lpa_is s Task.Idle)
    ∷ [])
    Status.Fwd
    (Record.LpaOther ∷ [])

abbrev pub lpa_status : State → Bool → Rule
lpa_status s good =
    rule [] Status.Success
    (Record.LpaStatus good
    ∷ (if (in_mode s Mode.Physics || in_mode s Mode.Too) && s.lpa_awaited && not good
    then Record.LpaState Task.Idle ∷ (if in_mode s Mode.Physics then Record.OpMode Mode.Quiescent ∷ [] else [])
    else []))

abbrev pub lpa_complete : State → Rule
lpa_complete s =
    rule [] Status.Success
    (Record.LpaComp ∷ Record.LpaState Task.Idle
    ∷ (if in_mode s Mode.Physics then Record.OpMode Mode.Quiescent ∷ [] else []))

-- a target of opportunity starts physics where both tasks are idle outside the SAA
abbrev pub starts_physics : State → Bool
starts_physics s = lpa_is s Task.Idle && lci_is s Task.Idle && not s.saa

-- it takes over a run, starts one, or waits
abbrev pub too_starting : State → ℕ → List Record
too_starting s run =
    if lpa_is s Task.Running
    then Record.LpaMode LpaMode.Too ∷ Record.TooState TooState.Started ∷ []
    else if starts_physics s
    then Record.LpaStart LpaMode.Too run ∷ Record.LpaState Task.Running ∷ Record.TooState TooState.Started ∷ []
    else Record.TooState TooState.Waiting ∷ []

abbrev pub too_start : State → ℕ → ℕ → Rule
too_start s run dwell =
    rule
    (only (in_mode s Mode.Too || in_mode s Mode.Quiescent || in_mode s Mode.Physics)
    ∷ (Status.TooAct, in_mode s Mode.Too)
    ∷ (Status.BadParam, not (dwell_in_range dwell))
    ∷ [])
    (if starts_physics s then Status.PktSent else Status.Success)
    (Record.TooTimerStart dwell ∷ (too_starting s run ++ Record.OpMode Mode.Too ∷ []))

-- the way out of mode TOO: a physics run goes on as an ordinary one
abbrev pub leave_too : State → List Record
leave_too s =
    Record.TooTimerStop ∷ Record.TooState TooState.None
    ∷ (if lpa_is s Task.Running
    then Record.LpaMode LpaMode.Normal ∷ Record.OpMode Mode.Physics ∷ []
    else Record.OpMode Mode.Quiescent ∷ [])

abbrev pub too_expired : State → ℕ → Rule
too_expired s armed =
    rule ((Status.Stale, not (in_mode s Mode.Too && eqb armed s.armed)) ∷ []) Status.Success (leave_too s)

abbrev pub too_abort : State → Rule
too_abort s = rule (only (in_mode s Mode.Too) ∷ []) Status.Success (leave_too s)

-- the rule of an event
unfoldable pub rule_of : State → Event → Rule
rule_of s Event.Started = started s
rule_of s Event.MainFeedOn = main_feed_on s
rule_of s (Event.PowerOn mask) = power_on s mask
rule_of s (Event.PowerOff mask) = power_off s mask
rule_of s Event.HoldEnter = hold_enter s
rule_of s Event.HoldExit = hold_exit s
rule_of s Event.SaaEnter = saa_enter s
rule_of s Event.SaaExit = saa_exit s
rule_of s Event.LoadShed = load_shed s
rule_of s Event.NoOp = no_op s
rule_of s Event.CalStart = cal_start s
rule_of s Event.CalAbort = cal_abort s
rule_of s Event.CalOther = cal_other s
rule_of s (Event.LpaStart run) = lpa_start s run
rule_of s Event.LpaStop = lpa_stop s
rule_of s Event.LpaOther = lpa_other s
rule_of s (Event.TooStart run dwell) = too_start s run dwell
rule_of s Event.TooAbort = too_abort s
rule_of s (Event.TooExpired armed) = too_expired s armed
rule_of s (Event.CalStatus good) = cal_status s good
rule_of s Event.CalComplete = cal_complete s
rule_of s (Event.LpaStatus good) = lpa_status s good
rule_of s Event.LpaComplete = lpa_complete s

-- in BOOT only STARTED is heard
unfoldable pub unheard : State → Event → Bool
unheard s e = in_mode s Mode.Boot && not (is_started e)

-- what the rules say of an event in a state
unfoldable pub verdict_of : State → Event → Verdict
verdict_of s e = unless ((Status.NotRun, unheard s e) ∷ []) (decide (rule_of s e))
