-- Answers of the manager, laws: an event is refused exactly where the condition of a refusal holds, with the first in their order
-- whose condition does; a refusal has no records but its STATUS. What a rule says in any state, sound or not, stands here too.
-- Assumes nothing.
use Rattle.std.specs.Prelude.{ℕ, ◌+◌, ◌≤◌, Bool, true, false, ◌&&◌, List, [], ◌∷◌, ◌≡◌, refl, leb}
use Rattle.std.proofs.Math.Bool.{and-false, or-true}
use Rattle.std.proofs.Common.{true≢false, sym, ◌∙◌, arith, leb-true, le-leb, eq-eqb}
use Rattle.std.proofs.lemmas.Bool.{not-true}
use Rattle.kinds.specs.Choice.{◌⇒◌, every, some}
use Rattle.kinds.specs.ChoiceLaws.{and_left, and_right, chosen, chosen_either, every_none, every_pushed}
use Rattle.kinds.specs.Kinds.{status_number, status_is, refusal_place, is_refusal}
use Rattle.kinds.specs.declared.status.Status.{Status}
use Rattle.state.specs.declared.State.{State}
use Rattle.events.specs.declared.Event.{Event}
use Rattle.records.specs.Record.{parts_of_record, not_status}
use Rattle.records.specs.declared.Record.{Record}
use Rattle.rules.specs.Rule.{Verdict, verdict, unless}
use Rattle.rules.specs.Rules.{rule_of, verdict_of, starts_physics}
use Rattle.rule_laws.specs.Refusals.{refusals_of, in_order, unmet, met_as, met_from}

-- A list of refusals in order ------------------------------------------------------------------------------------------------

-- what the order of a list says of its first refusal and of the others
module _ (from : ℕ) (x : Status × Bool) (xs : List (Status × Bool)) (order : in_order from (x ∷ xs) ≡ true) where
  order_rest : leb from (refusal_place x.0) && in_order (refusal_place x.0 + 1) xs ≡ true
  order_rest = and_right (is_refusal x.0) (leb from (refusal_place x.0) && in_order (refusal_place x.0 + 1) xs) order

  order_here : from ≤ refusal_place x.0
  order_here = leb-true from (refusal_place x.0) (and_left (leb from (refusal_place x.0)) (in_order (refusal_place x.0 + 1) xs) order_rest)

  order_after : in_order (refusal_place x.0 + 1) xs ≡ true
  order_after = and_right (leb from (refusal_place x.0)) (in_order (refusal_place x.0 + 1) xs) order_rest

  order_refusal : is_refusal x.0 ≡ true
  order_refusal = and_left (is_refusal x.0) (leb from (refusal_place x.0) && in_order (refusal_place x.0 + 1) xs) order

any_implies : (c : Bool) → (c ⇒ true) ≡ true
any_implies true = refl
any_implies false = refl

-- what is in order from a place on has none before it
order_from : (xs : List (Status × Bool)) (from : ℕ) (status : Status) → refusal_place status ≤ from → in_order from xs ≡ true
    → every (met_from status) xs ≡ true
order_from [] from status low order = refl
order_from (x ∷ xs) from status low order =
    let here = order_here from x xs order in
    rw (
      le-leb (refusal_place status) (refusal_place x.0) (omega arith),
      order_from xs (refusal_place x.0 + 1) status (omega arith) (order_after from x xs order),
      any_implies x.1,
    )

module _ (done : Verdict) where
  -- a refusal's own condition holds, and it has no records
  abbrev Refused : List (Status × Bool) → Verdict → Type 0
  Refused xs v = is_refusal v.status ≡ true → (some (met_as v.status) xs ≡ true) × (v.records ≡ [])

  unless_refused : (xs : List (Status × Bool)) → is_refusal done.status ≡ false → Refused xs (unless xs done)
  unless_refused [] taken = λ refused. absurd (true≢false (sym refused ∙ taken))
  unless_refused (x ∷ xs) taken =
      chosen_either (Refused (x ∷ xs)) x.1 (verdict x.0 []) (unless xs done)
      (λ holds _. (rw (holds, eq-eqb (status_number x.0) (status_number x.0) refl), refl))
      (λ _ refused. let rest = unless_refused xs taken refused in (rw rest.0 (or-true (met_as (unless xs done).status x)), rest.1))

  unless_first : (xs : List (Status × Bool)) (from : ℕ) → in_order from xs ≡ true → every (met_from (unless xs done).status) xs ≡ true
  unless_first [] from order = refl
  unless_first (x ∷ xs) from order =
      chosen_either (λ (v : Verdict). every (met_from v.status) (x ∷ xs) ≡ true) x.1 (verdict x.0 []) (unless xs done)
      (λ _.
      rw (
        le-leb (refusal_place x.0) (refusal_place x.0) (omega arith),
        order_from xs (refusal_place x.0 + 1) x.0 (omega arith) (order_after from x xs order),
        any_implies x.1,
      ))
      (λ free. rw free (unless_first xs (refusal_place x.0 + 1) (order_after from x xs order)))

  unless-taken : (xs : List (Status × Bool)) (from : ℕ) → in_order from xs ≡ true → is_refusal (unless xs done).status ≡ false
      → every unmet xs ≡ true
  unless-taken [] from order = λ _. refl
  unless-taken (x ∷ xs) from order =
      chosen_either (λ (v : Verdict). is_refusal v.status ≡ false → every unmet (x ∷ xs) ≡ true)
      x.1 (verdict x.0 []) (unless xs done)
      (λ _ taken. absurd (true≢false (sym (order_refusal from x xs order) ∙ taken)))
      (λ free taken. rw free (unless-taken xs (refusal_place x.0 + 1) (order_after from x xs order) taken))

  unless_free : (xs : List (Status × Bool)) → every unmet xs ≡ true → unless xs done ≡ done
  unless_free [] free = refl
  unless_free (x ∷ xs) free =
      rw (not-true x.1 (and_left (unmet x) (every unmet xs) free)) (unless_free xs (and_right (unmet x) (every unmet xs) free))

  -- what holds of no record, and of the rule's where no condition holds, holds of the verdict's
  unless-records : (P : List Record → Type 0) (xs : List (Status × Bool)) → P [] → (every unmet xs ≡ true → P done.records)
      → P (unless xs done).records
  unless-records P [] none some = some refl
  unless-records P (x ∷ xs) none some =
      chosen_either (λ (v : Verdict). P v.records) x.1 (verdict x.0 []) (unless xs done) (λ _. none)
      (λ free. unless-records P xs none (λ rest. some (rw free rest)))

-- where no condition holds, that of a given refusal does not
pub unmet_as : (xs : List (Status × Bool)) (status : Status) → every unmet xs ≡ true → some (met_as status) xs ≡ false
unmet_as xs status free =
    every_none unmet (met_as status) (λ x free. rw (not-true x.1 free) (and-false (status_is x.0 status))) xs free

-- Each rule in any state -----------------------------------------------------------------------------------------------------

-- its refusals are in order, its answer where it takes the event is none, and no STATUS is among its records
abbrev Formed : State → Event → Type 0
Formed s e =
    (in_order 0 (refusals_of s e) ≡ true)
    × (is_refusal (rule_of s e).status ≡ false)
    × (every not_status (rule_of s e).records ≡ true)

rule_formed : (s : State) (e : Event) → Formed s e
unfolding rule_of parts_of_record
rule_formed s Event.Started = (refl, refl, refl)
rule_formed s Event.MainFeedOn = (refl, refl, refl)
rule_formed s (Event.PowerOn mask) =
    (refl, refl, chosen (λ (r : Record). every not_status (Record.PowerOn mask ∷ r ∷ []) ≡ true) s.saa _ _ (λ _. refl) refl)
rule_formed s (Event.PowerOff mask) = (refl, refl, refl)
rule_formed s Event.HoldEnter = (refl, refl, simp every_pushed)
rule_formed s Event.HoldExit = (refl, refl, refl)
rule_formed s Event.SaaEnter = (refl, refl, simp every_pushed)
rule_formed s Event.SaaExit = (refl, refl, simp every_pushed)
rule_formed s Event.LoadShed = (refl, refl, simp every_pushed)
rule_formed s Event.NoOp = (refl, refl, refl)
rule_formed s Event.CalStart = (refl, refl, refl)
rule_formed s Event.CalAbort = (refl, refl, refl)
rule_formed s Event.CalOther = (refl, refl, refl)
rule_formed s (Event.LpaStart run) = (refl, refl, simp every_pushed)
rule_formed s Event.LpaStop = (refl, refl, refl)
rule_formed s Event.LpaOther = (refl, refl, refl)
rule_formed s (Event.TooStart run dwell) = (
  refl,
  chosen (λ (x : Status). is_refusal x ≡ false) (starts_physics s) Status.PktSent Status.Success (λ _. refl) refl,
  simp every_pushed,
)
rule_formed s Event.TooAbort = (refl, refl, simp every_pushed)
rule_formed s (Event.TooExpired armed) = (refl, refl, simp every_pushed)
rule_formed s (Event.CalStatus good) = (refl, refl, simp every_pushed)
rule_formed s Event.CalComplete = (refl, refl, simp every_pushed)
rule_formed s (Event.LpaStatus good) = (refl, refl, simp every_pushed)
rule_formed s Event.LpaComplete = (refl, refl, simp every_pushed)

-- what the rule does where it takes the event
abbrev pub taken : State → Event → Verdict
taken s e = verdict (rule_of s e).status (rule_of s e).records

-- what holds of no record, and of the rule's where it takes the event, holds of the verdict's
pub verdict-records : (P : List Record → Type 0) (s : State) (e : Event)
    → P [] → (every unmet (refusals_of s e) ≡ true → P (rule_of s e).records) → P (verdict_of s e).records
unfolding verdict_of
verdict-records P s e none some = unless-records (taken s e) P (refusals_of s e) none some

-- The laws of the rules -------------------------------------------------------------------------------------------------------

pub refusals_ordered : (s : State) (e : Event) → in_order 0 (refusals_of s e) ≡ true
refusals_ordered s e = (rule_formed s e).0

-- what a rule answers where it takes the event is no refusal
pub rule_status : (s : State) (e : Event) → is_refusal (rule_of s e).status ≡ false
rule_status s e = (rule_formed s e).1

-- none of the records before the closing one is a STATUS
pub records_no_status : (s : State) (e : Event) → every not_status (verdict_of s e).records ≡ true
records_no_status s e = verdict-records (λ (rs : List Record). every not_status rs ≡ true) s e refl (λ _. (rule_formed s e).2)

refused : (s : State) (e : Event) → Refused (taken s e) (refusals_of s e) (verdict_of s e)
unfolding verdict_of
refused s e = unless_refused (taken s e) (refusals_of s e) (rule_status s e)

-- a refusal's own condition holds
pub refused_met : (s : State) (e : Event) → is_refusal (verdict_of s e).status ≡ true
    → some (met_as (verdict_of s e).status) (refusals_of s e) ≡ true
refused_met s e against = (refused s e against).0

-- and no condition of a refusal that is looked for before it does
pub refused_first : (s : State) (e : Event) → every (met_from (verdict_of s e).status) (refusals_of s e) ≡ true
unfolding verdict_of
refused_first s e = unless_first (taken s e) (refusals_of s e) 0 (refusals_ordered s e)

pub refused_alone : (s : State) (e : Event) → is_refusal (verdict_of s e).status ≡ true → (verdict_of s e).records ≡ []
refused_alone s e against = (refused s e against).1

-- what is taken meets no condition
pub taken-unmet : (s : State) (e : Event) → is_refusal (verdict_of s e).status ≡ false → every unmet (refusals_of s e) ≡ true
unfolding verdict_of
taken-unmet s e free = unless-taken (taken s e) (refusals_of s e) 0 (refusals_ordered s e) free

-- what meets none is taken
pub unmet-taken : (s : State) (e : Event) → every unmet (refusals_of s e) ≡ true → verdict_of s e ≡ taken s e
unfolding verdict_of
unmet-taken s e free = unless_free (taken s e) (refusals_of s e) free
