-- Events: 12 bytes, the code, a field that is zero, and the parameters a and b. A string of another length is no event.
-- Assumes nothing.
use Rattle.std.specs.Prelude.{ℕ, List, ◌++◌, Result, Err, length, eqb, if◌then◌else◌}
use Rattle.events.specs.Event.{no_event, event_of, parts_of_event}
use Rattle.events.specs.declared.Event.{Event}
use Rattle.events.specs.declared.EventParts.{EventParts}
use Rattle.events.specs.declared.NoEvent.{NoEvent}
use Rattle.layout.specs.Bytes.{u16_at, u32_at, two, four}

-- an event's length
abbrev pub EVENT : ℕ
EVENT = 12

unfoldable pub event_parts_at : List ℕ → EventParts
event_parts_at s = record { code = u16_at s 0; zero = u16_at s 2; a = u32_at s 4; b = u32_at s 8 }

unfoldable pub read_event : List ℕ → Result Event NoEvent
read_event s = if eqb (length s) EVENT then event_of (event_parts_at s) else Err no_event

unfoldable pub event_parts_bytes : EventParts → List ℕ
event_parts_bytes p = two p.code ++ two p.zero ++ four p.a ++ four p.b

unfoldable pub event_bytes : Event → List ℕ
event_bytes e = event_parts_bytes (parts_of_event e)
