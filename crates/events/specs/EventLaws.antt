-- Events, laws: an event's four numbers are read back as that event, and four numbers that are read as an event are its numbers.
-- The code fits 16 bits, and the zero field is zero.
-- Assumes nothing.
use Rattle.std.specs.Prelude.{ℕ, ◌^◌, ◌<◌, Bool, true, false, Result, Ok, Err, ◌≡◌, eqb, ltb, if◌then◌else◌}
use Rattle.std.proofs.Math.Path.{refl}
use Rattle.std.proofs.Common.{arith, eqb-true, ltb-true}
use Rattle.kinds.specs.Choice.{select}
use Rattle.kinds.specs.ChoiceLaws.{chosen, ◌and◌, EachRow, select_holds, select_listed, numbered_holds}
use Rattle.kinds.specs.Kinds.{unknown_number, flag_number, flags, flag_of}
use Rattle.events.specs.Event.{no_event, event_parts, parts_of_event, bare_event, single_event, report_event, event_rows, event_of}
use Rattle.kinds.specs.declared.UnknownNumber.{UnknownNumber}
use Rattle.events.specs.declared.Event.{Event}
use Rattle.events.specs.declared.EventParts.{EventParts}
use Rattle.events.specs.declared.NoEvent.{NoEvent}

pub event_back : (e : Event) → event_of (parts_of_event e) ≡ Ok e
unfolding event_of parts_of_event
event_back Event.Started = refl
event_back Event.MainFeedOn = refl
event_back (Event.PowerOn mask) = refl
event_back (Event.PowerOff mask) = refl
event_back Event.HoldEnter = refl
event_back Event.HoldExit = refl
event_back Event.SaaEnter = refl
event_back Event.SaaExit = refl
event_back Event.LoadShed = refl
event_back Event.NoOp = refl
event_back Event.CalStart = refl
event_back Event.CalAbort = refl
event_back Event.CalOther = refl
event_back (Event.LpaStart run) = refl
event_back Event.LpaStop = refl
event_back Event.LpaOther = refl
event_back (Event.TooStart run dwell) = refl
event_back Event.TooAbort = refl
event_back (Event.TooExpired armed) = refl
event_back (Event.CalStatus true) = refl
event_back (Event.CalStatus false) = refl
event_back Event.CalComplete = refl
event_back (Event.LpaStatus true) = refl
event_back (Event.LpaStatus false) = refl
event_back Event.LpaComplete = refl

-- what is found, if anything is, has these numbers
abbrev HasParts : EventParts → Result Event NoEvent → Type 0
HasParts p (Ok e) = parts_of_event e ≡ p
HasParts p (Err e) = Unit {0}

-- the shapes of the table's rows, and its rows
module _ (a b : ℕ) where
  abbrev Row : ℕ → Result Event NoEvent → Type 0
  Row code found = HasParts (event_parts code a b) found

  single : {code : ℕ} (e : Event) → parts_of_event e ≡ event_parts code a 0 → Row code (single_event e b)
  single {code} e parts = chosen (Row code) (eqb b 0) (Ok e) (Err no_event) (λ t. rw (eqb-true b 0 t) parts) tt

  bare : {code : ℕ} (e : Event) → parts_of_event e ≡ event_parts code 0 0 → Row code (bare_event e a b)
  bare {code} e parts =
      chosen (Row code) (eqb a 0) (single_event e b) (Err no_event) (λ t. single e (rw (eqb-true a 0 t) parts)) tt

  report : {code : ℕ} (made : Bool → Event) → ((good : Bool) → parts_of_event (made good) ≡ event_parts code (flag_number good) 0)
      → Row code (report_event (made false) (made true) (flag_of a) b)
  report {code} made parts =
      numbered_holds (λ (f : Result Bool UnknownNumber). Row code (report_event (made false) (made true) f b))
      flag_number Ok (Err unknown_number) flags a told tt
    where
      told : (good : Bool) → flag_number good ≡ a → Row code (single_event (if good then made true else made false) b)
      told true e = single (made true) (rw (← e) (parts true))
      told false e = single (made false) (rw (← e) (parts false))

  rows_parts : EachRow Row (event_rows a b)
  unfolding parts_of_event
  rows_parts =
      bare Event.Started refl
      and bare Event.MainFeedOn refl
      and single (Event.PowerOn a) refl
      and single (Event.PowerOff a) refl
      and bare Event.HoldEnter refl
      and bare Event.HoldExit refl
      and bare Event.SaaEnter refl
      and bare Event.SaaExit refl
      and bare Event.LoadShed refl
      and bare Event.NoOp refl
      and bare Event.CalStart refl
      and bare Event.CalAbort refl
      and bare Event.CalOther refl
      and single (Event.LpaStart a) refl
      and bare Event.LpaStop refl
      and bare Event.LpaOther refl
      and refl
      and bare Event.TooAbort refl
      and single (Event.TooExpired a) refl
      and report Event.CalStatus (λ _. refl)
      and bare Event.CalComplete refl
      and report Event.LpaStatus (λ _. refl)
      and bare Event.LpaComplete refl
      and tt

  selected_parts : (code : ℕ) → Row code (select code (event_rows a b) (Err no_event))
  selected_parts code = select_holds Row code (event_rows a b) (Err no_event) rows_parts tt

parts_whole : (p : EventParts) → p.zero ≡ 0 → p ≡ event_parts p.code p.a p.b
parts_whole p none = λ i. record { code = p.code; zero = none i; a = p.a; b = p.b }

found_parts : (p : EventParts) → HasParts p (event_of p)
unfolding event_of
found_parts p =
    chosen (HasParts p) (eqb p.zero 0) (select p.code (event_rows p.a p.b) (Err no_event)) (Err no_event)
    (λ t. rw (parts_whole p (eqb-true p.zero 0 t)) (selected_parts p.a p.b p.code)) tt

pub event_parts_lem : (p : EventParts) (e : Event) → event_of p ≡ Ok e → parts_of_event e ≡ p
event_parts_lem p e found = rw found at (found_parts p)

-- what the code and the zero field of an event can be
unknown_found : (e : Event) → (Err no_event) ≡ Ok e → ⊥
unknown_found e p = let z : ◌≡◌ {A = ℕ} 0 1 = cc in omega arith

found_fits : (p : EventParts) (e : Event) → event_of p ≡ Ok e → (p.code < 2 ^ 16) × (p.zero ≡ 0)
unfolding event_of
found_fits p e =
    chosen (λ (f : Result Event NoEvent). f ≡ Ok e → (p.code < 2 ^ 16) × (p.zero ≡ 0)) (eqb p.zero 0)
    (select p.code (event_rows p.a p.b) (Err no_event)) (Err no_event)
    (λ t found. (
      ltb-true p.code (2 ^ 16)
          (select_listed (λ n. ltb n (2 ^ 16)) p.code (event_rows p.a p.b) (Err no_event) (Ok e) refl (unknown_found e) found),
      eqb-true p.zero 0 t,
    ))
    (λ none. absurd (unknown_found e none))

pub event_code-fits : (e : Event) → (parts_of_event e).code < 2 ^ 16
event_code-fits e = (found_fits (parts_of_event e) e (event_back e)).0

pub event-zero : (e : Event) → (parts_of_event e).zero ≡ 0
event-zero e = (found_fits (parts_of_event e) e (event_back e)).1
