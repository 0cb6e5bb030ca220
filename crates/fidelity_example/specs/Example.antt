-- An example, computed from the bytes of the events to the answers of the reader: the statement speaks of something. Log 7 takes three
-- events, and a flush after each, so it writes three blocks. Then these strings come down: block 0; block 2, for block 1 is lost; a
-- block of log 8; block 1 with a byte changed; block 0 again; and then block 1 and block 2.
-- Assumes nothing.
use Rattle.std.specs.Prelude.{ℕ, ◌^◌, Bool, true, false, List, [], ◌∷◌, ◌≡◌, refl, replicate, get_or, set, take}
use Rattle.frame_check.specs.Check.{check_of, taps, feed_bit, feed_bits, feed}
use Rattle.state.specs.Effect.{effect}
use Rattle.events.specs.Event.{event_of, parts_of_event}
use Rattle.records.specs.Record.{parts_of_record, record_of}
use Rattle.state.specs.State.{rebooted}
use Rattle.soundness.specs.Sound.{sound, shape_sound, calibration_sound, physics_sound, too_sound, boot_sound, tasks_sound}
use Rattle.kinds.specs.Kinds.{mode_number}
use Rattle.layout.specs.Bytes.{u16_at, u32_at, two, four}
use Rattle.blocks.specs.Block.{BLOCK, head_of, intact, head_bytes, checked_bytes, block_bytes}
use Rattle.layout.specs.Event.{event_parts_at, read_event}
use Rattle.layout.specs.Record.{record_parts_at, read_record, record_parts_bytes, record_bytes}
use Rattle.blocks.specs.Zeros.{all_zero, zeros_between}
use Rattle.draft.specs.Draft.{blank, emitted, emits}
use Rattle.rules.specs.Rules.{rule_of, unheard, verdict_of}
use Rattle.rules.specs.Ruling.{ruling_of}
use Rattle.manager.specs.Log.{log_sound}
use Rattle.manager.specs.Manager.{both_sound, step_of, flush_of}
use Rattle.reader.specs.Content.{went_closed, went_by, reads, content_of}
use Rattle.reader.specs.Reader.{reader_sound, read_of, reply_number, fresh_reader, is_behind}
use Rattle.reader.specs.declared.reader.Reader.{Reader}
use Rattle.reader.specs.declared.reply.Read.{Read}
use Rattle.fidelity.specs.Pass.{Operation, stepping, flushing, run_of}

-- an event's bytes, with a in the last byte of its four, and a lent block
abbrev event : ℕ → ℕ → List ℕ
event code a = 0 ∷ code ∷ 0 ∷ 0 ∷ 0 ∷ 0 ∷ 0 ∷ a ∷ 0 ∷ 0 ∷ 0 ∷ 0 ∷ []

abbrev lent : List ℕ
lent = replicate BLOCK 0

-- STARTED, MAINFEEDON and POWERON of bay 1
abbrev asked : List Operation
asked =
    stepping (event 1 0) lent ∷ flushing lent ∷ stepping (event 2 0) lent ∷ flushing lent ∷ stepping (event 3 1) lent ∷ flushing lent ∷ []

-- the strings that come down, of the blocks of log 7 and of log 8
abbrev down : List (List ℕ) → List (List ℕ) → List (List ℕ)
down own other =
    get_or own 0 []
    ∷ get_or own 2 []
    ∷ get_or other 0 []
    ∷ set (get_or own 1 []) 20 255
    ∷ get_or own 0 []
    ∷ get_or own 1 []
    ∷ get_or own 2 []
    ∷ []

-- after each string: the answer's number, whether the reader is behind, and the number of the event whose state it shows
abbrev display : Reader → List (List ℕ) → List (ℕ × Bool × ℕ)
display g [] = []
display g (b ∷ bs) = shown (read_of g b) (λ g'. display g' bs)
  where
    shown : Read → (Reader → List (ℕ × Bool × ℕ)) → List (ℕ × Bool × ℕ)
    shown r rest = (reply_number r.answer, is_behind r.reader, r.reader.state.count) ∷ rest r.reader

-- what is to be computed through: all of the manager, the layouts, the rules that these events meet, and the reader
computed : ℕ
unfolding check_of taps feed_bit feed_bits feed rebooted sound shape_sound calibration_sound physics_sound too_sound boot_sound tasks_sound effect event_of parts_of_event parts_of_record record_of u16_at u32_at two four head_of intact head_bytes checked_bytes block_bytes event_parts_at read_event record_parts_at read_record record_parts_bytes record_bytes all_zero zeros_between blank emitted emits rule_of unheard verdict_of ruling_of log_sound both_sound step_of flush_of went_closed went_by reads content_of reader_sound read_of run_of
computed = 0

displayed : display (fresh_reader 7) (down (run_of 7 asked).blocks (run_of 8 (take 2 asked)).blocks)
    ≡ (0, false, 1)
    ∷ (2, true, 1)
    ∷ (4, true, 1)
    ∷ (3, true, 1)
    ∷ (1, true, 1)
    ∷ (0, true, 2)
    ∷ (0, false, 3)
    ∷ []
unfolding computed
displayed = refl

-- The assumptions of the statement are needed ------------------------------------------------------------------------------------

-- after one string: the answer's number, the number of the event, and the mode that is shown
abbrev told : Read → ℕ × ℕ × ℕ
told r = (reply_number r.answer, r.reader.state.count, mode_number r.reader.state.mode)

-- a block of log 7 with a right check that the manager never wrote: event 1, and no action
abbrev forged : List ℕ
forged = block_bytes (record { number = 7; block = 0; used = 1; before = 0 }) (0 ∷ 29 ∷ 0 ∷ 0 ∷ 0 ∷ 0 ∷ 0 ∷ 1 ∷ replicate 488 0)

-- it is APPLIED, and BOOT is shown for event 1, while the manager was in TERMINAL after it
forged_shown : told (read_of (fresh_reader 7) forged) ≡ (0, 1, 0)
unfolding computed
forged_shown = refl

true_mode : mode_number (get_or (run_of 7 (take 1 asked)).states 1 (rebooted 0)).mode ≡ 1
unfolding computed
true_mode = refl

-- a mask of 2 ^ 32, from a string that is not of bytes: the manager writes a block that its reader finds to be NONSENSE
abbrev wide : List Operation
wide =
    stepping (event 1 0) lent
    ∷ stepping (event 2 0) lent
    ∷ stepping (0 ∷ 3 ∷ 0 ∷ 0 ∷ 256 ∷ 0 ∷ 0 ∷ 0 ∷ 0 ∷ 0 ∷ 0 ∷ 0 ∷ []) lent
    ∷ flushing lent
    ∷ []

wide_refused : told (read_of (fresh_reader 7) (get_or (run_of 7 wide).blocks 0 [])) ≡ (5, 0, 0)
unfolding computed
wide_refused = refl

-- a log number of 2 ^ 32: the block says 0, and its reader takes it for another log's
number_refused : told (read_of (fresh_reader (2 ^ 32)) (get_or (run_of (2 ^ 32) (take 2 asked)).blocks 0 [])) ≡ (4, 0, 0)
unfolding computed
number_refused = refl
