-- Events, the laws of their names: each name is one word, and is read back as its code; a word that is no name has no code.
-- Assumes nothing.
use Rattle.std.specs.Prelude.{ℕ, zero, suc, Some, None, ◌+◌, ◌<◌, ◌≤◌, Bool, true, false, ◌&&◌, List, [], ◌∷◌, ◌≡◌, refl, ltb, length, drop, if◌then◌else◌}
use Rattle.std.proofs.Common.{◌∙◌, sym, ap, add-one, drop_of_length-le, drop-cons, arith}
use Rattle.std.proofs.Math.Dec.{leb, eqb-suc-zero}
use Rattle.std.proofs.lemmas.Bool.{leb-true}
use Rattle.kinds.specs.ChoiceLaws.{and_left, and_right}
use Rattle.events.specs.Event.{parts_of_event}
use Rattle.events.specs.declared.Event.{Event}
use Rattle.names.specs.Text.{first_word, same_word}
use Rattle.names.specs.EventNames.{event_names, event_name, code_from, event_code, event_numbers, some_code}
use Rattle.names.specs.TableLaws.{same_bytes, same_bytes_lem, every_at}

one_word : List ℕ → Bool
one_word name = same_bytes (first_word name) name && leb (length name) 12

-- a name is one word, of at most twelve letters
pub event_word : (n : ℕ) → (first_word (event_name n) ≡ event_name n) × (length (event_name n) ≤ 12)
unfolding event_name one_word same_bytes first_word
event_word n =
    let passed : one_word (event_name n) ≡ true = every_at one_word event_names n [] refl refl in
    let name : List ℕ = event_name n in (
      same_bytes_lem (first_word name) name (and_left (same_bytes (first_word name) name) (leb (length name) 12) passed),
      leb-true (length name) 12 (and_right (same_bytes (first_word name) name) (leb (length name) 12) passed),
    )

-- The search for a name's code -----------------------------------------------------------------------------------------------

here : (w name : List ℕ) (n : ℕ) (names : List (List ℕ)) → same_word w name ≡ true → code_from w n (name ∷ names) ≡ n
unfolding code_from
here w name n names same = rw same refl

further : (w name : List ℕ) (n : ℕ) (names : List (List ℕ)) → same_word w name ≡ false
    → code_from w n (name ∷ names) ≡ code_from w (n + 1) names
unfolding code_from
further w name n names other = rw other refl

nowhere : (w : List ℕ) (n : ℕ) → code_from w n [] ≡ 0
unfolding code_from
nowhere w n = refl

names_from : (n : ℕ) → n < length event_names → drop n event_names ≡ event_name n ∷ drop (n + 1) event_names
unfolding event_name
names_from n more = drop-cons event_names n [] more ∙ rw (add-one) refl

module _ (w : List ℕ) (n r : ℕ) where
  pub code_found : n < length event_names → (d : Bool) → d ≡ same_word w (event_name n) → d ≡ true
      → code_from w n (drop n event_names) ≡ r → n ≡ r
  code_found more d is same e =
      sym (ap (code_from w n) (names_from n more) ∙ here w (event_name n) n (drop (n + 1) event_names) (sym is ∙ same)) ∙ e

  pub code_further : n < length event_names → (d : Bool) → d ≡ same_word w (event_name n) → d ≡ false
      → code_from w n (drop n event_names) ≡ r → code_from w (n + 1) (drop (n + 1) event_names) ≡ r
  code_further more d is other e =
      sym (ap (code_from w n) (names_from n more) ∙ further w (event_name n) n (drop (n + 1) event_names) (sym is ∙ other)) ∙ e

  pub code_none : length event_names ≤ n → code_from w n (drop n event_names) ≡ r → 0 ≡ r
  code_none past e = sym (ap (code_from w n) (drop_of_length-le event_names {i = n} past) ∙ nowhere w n) ∙ e

pub code_start : (w : List ℕ) → code_from w 0 (drop 0 event_names) ≡ event_code w
unfolding event_code
code_start w = refl

more_letters : (x : ℕ) (xs : List ℕ) → same_word (x ∷ xs) [] ≡ false
unfolding same_word
more_letters x xs = rw (eqb-suc-zero (length xs)) refl

-- the search may begin at 1: at 0, where no name stands, no word is found
pub code_first : (w : List ℕ) → code_from w 1 (drop 1 event_names) ≡ event_code w
unfolding event_code code_from same_word
code_first [] = refl
code_first (x ∷ xs) = sym (further (x ∷ xs) [] 0 (drop 1 event_names) (more_letters x xs))

pub some_found : (n r : ℕ) → 1 ≤ n → n ≡ r → Some n ≡ some_code r
some_found zero r above e = absurd (omega (arith, above))
some_found (suc n) r above e = rw (← e) refl

pub some_none : (r : ℕ) → 0 ≡ r → None ≡ some_code r
some_none r e = rw (← e) refl

-- What is written is read back -----------------------------------------------------------------------------------------------

-- the name of each event is read as the event's code: no event is left out of the table, and no two share a name
pub event_name_back : (e : Event) → event_code (event_name (parts_of_event e).code) ≡ (parts_of_event e).code
unfolding event_name event_code code_from same_word parts_of_event
event_name_back Event.Started = refl
event_name_back Event.MainFeedOn = refl
event_name_back (Event.PowerOn mask) = refl
event_name_back (Event.PowerOff mask) = refl
event_name_back Event.HoldEnter = refl
event_name_back Event.HoldExit = refl
event_name_back Event.SaaEnter = refl
event_name_back Event.SaaExit = refl
event_name_back Event.LoadShed = refl
event_name_back Event.NoOp = refl
event_name_back Event.CalStart = refl
event_name_back Event.CalAbort = refl
event_name_back Event.CalOther = refl
event_name_back (Event.LpaStart run) = refl
event_name_back Event.LpaStop = refl
event_name_back Event.LpaOther = refl
event_name_back (Event.TooStart run dwell) = refl
event_name_back Event.TooAbort = refl
event_name_back (Event.TooExpired armed) = refl
event_name_back (Event.CalStatus good) = refl
event_name_back Event.CalComplete = refl
event_name_back (Event.LpaStatus good) = refl
event_name_back Event.LpaComplete = refl

-- an event's two numbers, as far as its name takes them; one that it does not take is 0
abbrev given : ℕ → ℕ → ℕ → ℕ
given n place number = if ltb place n then number else 0

-- what a name does not take is 0, so that the name and the numbers that it takes are the whole event
pub event_numbers-whole : (e : Event)
    → (given (event_numbers (parts_of_event e).code) 0 (parts_of_event e).a ≡ (parts_of_event e).a)
    × (given (event_numbers (parts_of_event e).code) 1 (parts_of_event e).b ≡ (parts_of_event e).b)
unfolding parts_of_event event_numbers
event_numbers-whole Event.Started = (refl, refl)
event_numbers-whole Event.MainFeedOn = (refl, refl)
event_numbers-whole (Event.PowerOn mask) = (refl, refl)
event_numbers-whole (Event.PowerOff mask) = (refl, refl)
event_numbers-whole Event.HoldEnter = (refl, refl)
event_numbers-whole Event.HoldExit = (refl, refl)
event_numbers-whole Event.SaaEnter = (refl, refl)
event_numbers-whole Event.SaaExit = (refl, refl)
event_numbers-whole Event.LoadShed = (refl, refl)
event_numbers-whole Event.NoOp = (refl, refl)
event_numbers-whole Event.CalStart = (refl, refl)
event_numbers-whole Event.CalAbort = (refl, refl)
event_numbers-whole Event.CalOther = (refl, refl)
event_numbers-whole (Event.LpaStart run) = (refl, refl)
event_numbers-whole Event.LpaStop = (refl, refl)
event_numbers-whole Event.LpaOther = (refl, refl)
event_numbers-whole (Event.TooStart run dwell) = (refl, refl)
event_numbers-whole Event.TooAbort = (refl, refl)
event_numbers-whole (Event.TooExpired armed) = (refl, refl)
event_numbers-whole (Event.CalStatus good) = (refl, refl)
event_numbers-whole Event.CalComplete = (refl, refl)
event_numbers-whole (Event.LpaStatus good) = (refl, refl)
event_numbers-whole Event.LpaComplete = (refl, refl)
