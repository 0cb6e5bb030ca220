-- Mode rules: the form of a rule, and the conditions and sections that several rules share. A rule says when an event is refused,
-- and what is done where it is not. All conditions look at the state before the event.
-- Assumes nothing.
use Rattle.std.specs.Prelude.{Bool, List, [], ◌∷◌, if◌then◌else◌}
use Rattle.kinds.specs.Kinds.{mode_is, task_is, too_state_is}
use Rattle.kinds.specs.declared.mode.Mode.{Mode}
use Rattle.kinds.specs.declared.task.Task.{Task}
use Rattle.kinds.specs.declared.too_state.TooState.{TooState}
use Rattle.kinds.specs.declared.status.Status.{Status}
use Rattle.state.specs.declared.State.{State}
use Rattle.records.specs.declared.Record.{Record}

-- the refusals with their conditions, in the order in which they are looked for (`refusal_order`); else the status and the records, but for the closing STATUS
pub record Rule : Type 0 where
  pub refusals : List (Status × Bool)
  pub status : Status
  pub records : List Record

-- what a rule comes to
pub record Verdict : Type 0 where
  pub status : Status
  pub records : List Record

abbrev pub verdict : Status → List Record → Verdict
verdict status records = record { status = status; records = records }

abbrev pub unless : List (Status × Bool) → Verdict → Verdict
unless [] done = done
unless (refusal ∷ refusals) done = if refusal.1 then verdict refusal.0 [] else unless refusals done

abbrev pub decide : Rule → Verdict
decide r = unless r.refusals (verdict r.status r.records)

-- conditions

abbrev pub in_mode : State → Mode → Bool
in_mode s m = mode_is s.mode m

abbrev pub lci_is : State → Task → Bool
lci_is s t = task_is s.lci t

abbrev pub lpa_is : State → Task → Bool
lpa_is s t = task_is s.lpa t

abbrev pub too_is : State → TooState → Bool
too_is s t = too_state_is s.too t

-- sections

abbrev pub stop_calibration : State → List Record
stop_calibration s = if lci_is s Task.Running then Record.CalAbort ∷ Record.LciState Task.Stopping ∷ [] else []

abbrev pub stop_physics : State → List Record
stop_physics s = if lpa_is s Task.Running then Record.LpaStop ∷ Record.LpaState Task.Stopping ∷ [] else []

abbrev pub end_too : State → List Record
end_too s = if in_mode s Mode.Too then Record.TooTimerStop ∷ Record.TooState TooState.None ∷ [] else []
