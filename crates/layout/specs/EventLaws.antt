-- Laws of events as bytes: their length, and what a string of bytes says of an event fits 32 bits. That an event is read back from
-- its 12 bytes stands in proofs/WrittenLaws. Assumes nothing.
use Rattle.std.specs.Prelude.{ℕ, ◌^◌, ◌<◌, List, Result, Ok, Err, ◌≡◌, length, eqb}
use Rattle.std.proofs.Common.{arith, length-append}
use Rattle.kinds.specs.ChoiceLaws.{chosen}
use Rattle.events.specs.Event.{no_event, event_of, parts_of_event}
use Rattle.events.specs.EventLaws.{event_parts_lem}
use Rattle.events.specs.declared.Event.{Event}
use Rattle.events.specs.declared.EventParts.{EventParts}
use Rattle.events.specs.declared.NoEvent.{NoEvent}
use Rattle.layout.specs.Bytes.{AreBytes}
use Rattle.layout.specs.BytesLaws.{two-length, four-length, u32_fits}
use Rattle.layout.specs.Event.{EVENT, event_parts_at, read_event, event_parts_bytes}

pub event_parts-length : (p : EventParts) → length (event_parts_bytes p) ≡ EVENT
unfolding event_parts_bytes
event_parts-length p = simp (length-append, two-length, four-length)

-- a string that is read as an event has the event's numbers at their places
event_read_parts : (s : List ℕ) (e : Event) → read_event s ≡ Ok e → parts_of_event e ≡ event_parts_at s
unfolding read_event
event_read_parts s e =
    chosen (λ (f : Result Event NoEvent). f ≡ Ok e → parts_of_event e ≡ event_parts_at s)
    (eqb (length s) EVENT) (event_of (event_parts_at s)) (Err no_event)
    (λ _. event_parts_lem (event_parts_at s) e)
    (λ none. let z : ◌≡◌ {A = ℕ} 0 1 = cc in absurd (omega arith))

pub event-fits : (s : List ℕ) (e : Event) → AreBytes s → read_event s ≡ Ok e
    → ((parts_of_event e).a < 2 ^ 32) × ((parts_of_event e).b < 2 ^ 32)
unfolding event_parts_at
event-fits s e bytes found = rw (event_read_parts s e found) (u32_fits s 4 bytes, u32_fits s 8 bytes)
