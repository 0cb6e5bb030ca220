-- Events: the codes, what an event's four numbers are, and which four numbers are an event. A field that the paper does not name
-- is 0, and numbers that are no event are refused, whatever is wrong with them.
-- Assumes nothing.
use Rattle.std.specs.Prelude.{ℕ, Bool, true, false, List, [], ◌∷◌, Result, Ok, Err, eqb, if◌then◌else◌}
use Rattle.kinds.specs.Choice.{select}
use Rattle.kinds.specs.Kinds.{flag_number, flag_of}
use Rattle.kinds.specs.declared.UnknownNumber.{UnknownNumber}
use Rattle.events.specs.declared.Event.{Event}
use Rattle.events.specs.declared.EventParts.{EventParts}
use Rattle.events.specs.declared.NoEvent.{NoEvent}

abbrev pub no_event : NoEvent
no_event = record {}

abbrev pub STARTED : ℕ
STARTED = 1

abbrev pub MAINFEEDON : ℕ
MAINFEEDON = 2

abbrev pub POWERON : ℕ
POWERON = 3

abbrev pub POWEROFF : ℕ
POWEROFF = 4

abbrev pub HOLDENTER : ℕ
HOLDENTER = 5

abbrev pub HOLDEXIT : ℕ
HOLDEXIT = 6

abbrev pub SAAENTER : ℕ
SAAENTER = 7

abbrev pub SAAEXIT : ℕ
SAAEXIT = 8

abbrev pub LOADSHED : ℕ
LOADSHED = 9

abbrev pub NOOP : ℕ
NOOP = 10

abbrev pub CALSTART : ℕ
CALSTART = 11

abbrev pub CALABORT : ℕ
CALABORT = 12

abbrev pub CALOTHER : ℕ
CALOTHER = 13

abbrev pub LPASTART : ℕ
LPASTART = 14

abbrev pub LPASTOP : ℕ
LPASTOP = 15

abbrev pub LPAOTHER : ℕ
LPAOTHER = 16

abbrev pub TOOSTART : ℕ
TOOSTART = 17

abbrev pub TOOABORT : ℕ
TOOABORT = 18

abbrev pub TOOEXPIRED : ℕ
TOOEXPIRED = 19

abbrev pub CALSTATUS : ℕ
CALSTATUS = 20

abbrev pub CALCOMPLETE : ℕ
CALCOMPLETE = 21

abbrev pub LPASTATUS : ℕ
LPASTATUS = 22

abbrev pub LPACOMPLETE : ℕ
LPACOMPLETE = 23

abbrev pub event_parts : ℕ → ℕ → ℕ → EventParts
event_parts code a b = record { code = code; zero = 0; a = a; b = b }

-- the numbers of an event
unfoldable pub parts_of_event : Event → EventParts
parts_of_event Event.Started = event_parts STARTED 0 0
parts_of_event Event.MainFeedOn = event_parts MAINFEEDON 0 0
parts_of_event (Event.PowerOn mask) = event_parts POWERON mask 0
parts_of_event (Event.PowerOff mask) = event_parts POWEROFF mask 0
parts_of_event Event.HoldEnter = event_parts HOLDENTER 0 0
parts_of_event Event.HoldExit = event_parts HOLDEXIT 0 0
parts_of_event Event.SaaEnter = event_parts SAAENTER 0 0
parts_of_event Event.SaaExit = event_parts SAAEXIT 0 0
parts_of_event Event.LoadShed = event_parts LOADSHED 0 0
parts_of_event Event.NoOp = event_parts NOOP 0 0
parts_of_event Event.CalStart = event_parts CALSTART 0 0
parts_of_event Event.CalAbort = event_parts CALABORT 0 0
parts_of_event Event.CalOther = event_parts CALOTHER 0 0
parts_of_event (Event.LpaStart run) = event_parts LPASTART run 0
parts_of_event Event.LpaStop = event_parts LPASTOP 0 0
parts_of_event Event.LpaOther = event_parts LPAOTHER 0 0
parts_of_event (Event.TooStart run dwell) = event_parts TOOSTART run dwell
parts_of_event Event.TooAbort = event_parts TOOABORT 0 0
parts_of_event (Event.TooExpired armed) = event_parts TOOEXPIRED armed 0
parts_of_event (Event.CalStatus good) = event_parts CALSTATUS (flag_number good) 0
parts_of_event Event.CalComplete = event_parts CALCOMPLETE 0 0
parts_of_event (Event.LpaStatus good) = event_parts LPASTATUS (flag_number good) 0
parts_of_event Event.LpaComplete = event_parts LPACOMPLETE 0 0

abbrev pub is_started : Event → Bool
is_started e = eqb (parts_of_event e).code STARTED

-- an event that names neither a nor b
abbrev pub bare_event : Event → ℕ → ℕ → Result Event NoEvent
bare_event e a b = if eqb a 0 then if eqb b 0 then Ok e else Err no_event else Err no_event

-- an event that names a alone, and takes any
abbrev pub single_event : Event → ℕ → Result Event NoEvent
single_event e b = if eqb b 0 then Ok e else Err no_event

-- an event whose a says whether the report is good
abbrev pub report_event : Event → Event → Result Bool UnknownNumber → ℕ → Result Event NoEvent
report_event failed good (Ok is_good) b = single_event (if is_good then good else failed) b
report_event failed good (Err e) b = Err no_event

abbrev pub event_rows : ℕ → ℕ → List (ℕ × Result Event NoEvent)
event_rows a b =
    (STARTED, bare_event Event.Started a b)
    ∷ (MAINFEEDON, bare_event Event.MainFeedOn a b)
    ∷ (POWERON, single_event (Event.PowerOn a) b)
    ∷ (POWEROFF, single_event (Event.PowerOff a) b)
    ∷ (HOLDENTER, bare_event Event.HoldEnter a b)
    ∷ (HOLDEXIT, bare_event Event.HoldExit a b)
    ∷ (SAAENTER, bare_event Event.SaaEnter a b)
    ∷ (SAAEXIT, bare_event Event.SaaExit a b)
    ∷ (LOADSHED, bare_event Event.LoadShed a b)
    ∷ (NOOP, bare_event Event.NoOp a b)
    ∷ (CALSTART, bare_event Event.CalStart a b)
    ∷ (CALABORT, bare_event Event.CalAbort a b)
    ∷ (CALOTHER, bare_event Event.CalOther a b)
    ∷ (LPASTART, single_event (Event.LpaStart a) b)
    ∷ (LPASTOP, bare_event Event.LpaStop a b)
    ∷ (LPAOTHER, bare_event Event.LpaOther a b)
    ∷ (TOOSTART, Ok (Event.TooStart a b))
    ∷ (TOOABORT, bare_event Event.TooAbort a b)
    ∷ (TOOEXPIRED, single_event (Event.TooExpired a) b)
    ∷ (CALSTATUS, report_event (Event.CalStatus false) (Event.CalStatus true) (flag_of a) b)
    ∷ (CALCOMPLETE, bare_event Event.CalComplete a b)
    ∷ (LPASTATUS, report_event (Event.LpaStatus false) (Event.LpaStatus true) (flag_of a) b)
    ∷ (LPACOMPLETE, bare_event Event.LpaComplete a b)
    ∷ []

-- the event of four numbers
unfoldable pub event_of : EventParts → Result Event NoEvent
event_of p =
    if eqb p.zero 0 then select p.code (event_rows p.a p.b) (Err no_event) else Err no_event
