-- THE INTERFACE. All that the proof of fidelity uses of the mode rules, as one law of an event in a state: `ruled`, in InterfaceLaws. It is
-- put together from the laws of the rules; the other files of this crate name no rule, and open neither a verdict, nor `sound`, nor `effect`. A new
-- event, rule, mode or record is paid for in `rules` and `rule_laws` and does not touch this crate.
--
-- Of the rules: script_form, records_no_status, records-length, script_range, script-fits, next_count, next-sound, ruling_sized,
-- ruling_state, ruling_used, ruling-bytes.
-- Of the state: one_more_below; effect_count (no record but STATUS changes the count). Opened: `rebooted`, that fresh has count 0, and `parts_of_record`
-- at STATUS, that v is the event's number.
-- Of the layouts and blocks: event-fits (an event that is read from bytes has 32-bit numbers); record_read, record_bytes-length, records-bytes-append; head-length,
-- checked_length, block_intact, block_head; intact-length, intact_check, intact_other_length, intact_wrong_check. Opened: `block_bytes`,
-- `checked_bytes`, `zeros_between`.
-- Of the reader: its table row by row (read_damaged, read_other_log, read_already, read_gap, read_in_turn), fresh-sound, read_sound,
-- content_read. Opened: `went_by`, `went_closed`, `reads`.
-- Of the manager: which case a step and a flush come to (step_cases, flush_cases), and what its own test of soundness tells (state_sound,
-- log_clauses, used_before). Opened: nothing.
-- Assumes nothing.
use Rattle.std.specs.Prelude.{◌+◌, ◌*◌, ◌<◌, true, List, [], ◌∷◌, ◌++◌, ◌≡◌, length, take}
use Rattle.kinds.specs.Choice.{every}
use Rattle.kinds.specs.declared.status.Status.{Status}
use Rattle.records.specs.Record.{most_records, not_status, record_in_range, v_fits}
use Rattle.records.specs.declared.Record.{Record}
use Rattle.layout.specs.Record.{RECORD, records_bytes}
use Rattle.soundness.specs.Sound.{sound}
use Rattle.state.specs.Effect.{effects}
use Rattle.state.specs.declared.State.{State}
use Rattle.draft.specs.Draft.{ROOM}
use Rattle.draft.specs.declared.Draft.{Draft}

-- the records of an event: its actions, and the STATUS that closes it with the next number
abbrev pub whole : State → List Record → Status → List Record
whole s actions status = actions ++ Record.Status status (s.count + 1) ∷ []

-- a draft that is an event's, in this state
pub record Ruled (s : State) (d : Draft) : Type 0 where
  pub actions : List Record
  pub status : Status
  pub quiet : every not_status actions ≡ true
  pub few : length actions < most_records
  pub range : every record_in_range (whole s actions status) ≡ true
  pub fit : every v_fits (whole s actions status) ≡ true
  pub sound : sound (effects s (whole s actions status)) ≡ true
  pub number : (effects s (whole s actions status)).count ≡ s.count + 1
  pub state : d.state ≡ effects s (whole s actions status)
  pub used : d.used ≡ length (whole s actions status)
  pub bytes : take (RECORD * d.used) d.bytes ≡ records_bytes (whole s actions status)
  pub long : length d.bytes ≡ ROOM
