-- Replaying records, laws: records that stand in a block are read as they are replayed; what is replayed after what was replayed to
-- its end; and the records of an event are replayed to the state that they lead to.
-- Assumes nothing.
use Rattle.std.specs.Prelude.{ℕ, ◌+◌, ◌^◌, ◌<◌, true, false, List, [], ◌∷◌, ◌++◌, ◌≡◌, length, eqb, Err, Ok, Result}
use Rattle.std.proofs.Common.{append_assoc, ap, subst, sym, ◌∙◌, arith, eqb-true, eq-eqb, ltb-true, length-append}
use Rattle.std.proofs.lemmas.Bool.{lt-leb, not-true}
use Rattle.kinds.specs.Choice.{every}
use Rattle.kinds.specs.ChoiceLaws.{and_left, and_right, chosen_either}
use Rattle.soundness.specs.Sound.{sound}
use Rattle.state.specs.Effect.{effect, effects}
use Rattle.state.specs.EffectLaws.{effect_count}
use Rattle.records.specs.Record.{most_records, parts_of_record, record_in_range, is_status, not_status, v_fits}
use Rattle.state.specs.declared.State.{State}
use Rattle.kinds.specs.declared.status.Status.{Status}
use Rattle.records.specs.declared.Record.{Record}
use Rattle.layout.specs.Record.{record_bytes, records_bytes}
use Rattle.layout.specs.RecordLaws.{record_bytes-length}
use Rattle.layout.proofs.WrittenLaws.{record_read}
use Rattle.reader.specs.Content.{went_closed, went_by, followed, record_at, reads, wrong_at}
use Rattle.reader.specs.declared.content.Mistake.{Mistake}
use Rattle.reader.specs.declared.content.Fault.{Fault}
use Rattle.reader.specs.declared.content.Went.{Went}
use Rattle.fidelity.specs.Replay.{replay, StandIn}

wrong_right : (at : ℕ) (fault : Fault) (s : State) → wrong_at at fault ≡ Ok s → ⊥
wrong_right at fault s e = let z : ◌≡◌ {A = ℕ} 0 1 = cc in omega arith

-- nothing is left: no event is open, and the state is the one reached
replay_end : (k : ℕ) (s t : State) → replay k s [] ≡ Ok t → (k ≡ 0) × (s ≡ t)
replay_end k s t =
    chosen_either (λ (c : Result State Mistake). c ≡ Ok t → (k ≡ 0) × (s ≡ t)) (eqb k 0) (Ok s) (wrong_at 0 Fault.Open)
    (λ none right. (eqb-true k 0 none, cc))
    (λ _ wrong. absurd (wrong_right 0 Fault.Open t wrong))

-- a record that is not wrong, and two ways to go on
followed_on : (at k : ℕ) (f g : ℕ → State → Result State Mistake) (t : State) (c : Result State Mistake)
    → ((k' : ℕ) (s' : State) → f k' s' ≡ Ok t → g k' s' ≡ c)
    → (w : Result Went Fault) → followed 0 k f w ≡ Ok t → followed at k g w ≡ c
followed_on at k f g t c on (Ok (Went.On s)) e = on (k + 1) s e
followed_on at k f g t c on (Ok (Went.Closed s)) e = on 0 s e
followed_on at k f g t c on (Err fault) e = absurd (wrong_right 0 fault t e)

pub reads-replay : (b : List ℕ) (rs : List Record) (at k : ℕ) (s t : State) → StandIn b at rs → replay k s rs ≡ Ok t
    → reads b (length rs) at k s ≡ Ok t
unfolding reads
reads-replay b [] at k s t stand right =
    let ended : (k ≡ 0) × (s ≡ t) = replay_end k s t right in
    rw (eq-eqb k 0 ended.0) (ap Ok ended.1)
reads-replay b (r ∷ rs) at k s t stand right =
    rw stand.0
    (followed_on at k (λ k' s'. replay k' s' rs) (λ k' s'. reads b (length rs) (at + 1) k' s') t (Ok t)
    (λ k' s'. reads-replay b rs (at + 1) k' s' t stand.1) (went_by k s (Ok r)) right)

pub replay-append : (xs ys : List Record) (k : ℕ) (s t : State) → replay k s xs ≡ Ok t
    → replay k s (xs ++ ys) ≡ replay 0 t ys
replay-append [] ys k s t right =
    let ended : (k ≡ 0) × (s ≡ t) = replay_end k s t right in
    λ i. replay (ended.0 i) (ended.1 i) ys
replay-append (x ∷ xs) ys k s t right =
    followed_on 0 k (λ k' s'. replay k' s' xs) (λ k' s'. replay k' s' (xs ++ ys)) t (replay 0 t ys)
    (λ k' s'. replay-append xs ys k' s' t) (went_by k s (Ok x)) right

-- The records of an event ------------------------------------------------------------------------------------------------------

went_on : (k : ℕ) (s : State) (r : Record) → k < most_records → is_status r ≡ false
    → went_by k s (Ok r) ≡ Ok (Went.On (effect s r))
unfolding went_by
went_on k s r few other = rw (lt-leb most_records k few, other)

went_status : (k : ℕ) (s : State) (x : Status) (n : ℕ) → k < most_records → n ≡ s.count + 1 → sound (effect s (Record.Status x n)) ≡ true
    → went_by k s (Ok (Record.Status x n)) ≡ Ok (Went.Closed (effect s (Record.Status x n)))
unfolding went_by went_closed parts_of_record
went_status k s x n few next ok = rw (lt-leb most_records k few, eq-eqb n (s.count + 1) next, ok)

pub replay-event : (rs : List Record) (k : ℕ) (s : State) (x : Status) (n : ℕ) → every not_status rs ≡ true → k + length rs < most_records
    → n ≡ s.count + 1 → sound (effects s (rs ++ Record.Status x n ∷ [])) ≡ true
    → replay k s (rs ++ Record.Status x n ∷ []) ≡ Ok (effects s (rs ++ Record.Status x n ∷ []))
replay-event [] k s x n quiet few next ok =
    ap (followed 0 k (λ k' s'. replay k' s' [])) (went_status k s x n (omega arith) next ok)
replay-event (r ∷ rs) k s x n quiet few next ok =
    let other : is_status r ≡ false = not-true (is_status r) (and_left (not_status r) (every not_status rs) quiet) in
    ap (followed 0 k (λ k' s'. replay k' s' (rs ++ Record.Status x n ∷ []))) (went_on k s r (omega arith) other)
    ∙ replay-event rs (k + 1) (effect s r) x n (and_right (not_status r) (every not_status rs) quiet) (omega arith)
    (next ∙ sym (ap (λ (c : ℕ). c + 1) (effect_count s r other))) ok

-- Records in a block -----------------------------------------------------------------------------------------------------------

stand_at : (pre post : List ℕ) (rs : List Record) (at : ℕ) → length pre ≡ record_at at
    → every record_in_range rs ≡ true → every v_fits rs ≡ true → StandIn (pre ++ records_bytes rs ++ post) at rs
stand_at pre post [] at here range fit = tt
stand_at pre post (r ∷ rs) at here range fit = (
  rw (← here, ← append_assoc pre (record_bytes r) (records_bytes rs), append_assoc (pre ++ record_bytes r) (records_bytes rs) post)
      (record_read pre (records_bytes rs ++ post) r (and_left (record_in_range r) (every record_in_range rs) range)
      (ltb-true (parts_of_record r).v (2 ^ 32) (and_left (v_fits r) (every v_fits rs) fit))),
  subst (λ (b : List ℕ). StandIn b (at + 1) rs) (ap (λ (b : List ℕ). b ++ post) (append_assoc pre (record_bytes r) (records_bytes rs)))
      (stand_at (pre ++ record_bytes r) post rs (at + 1)
      (length-append pre (record_bytes r) ∙ omega (arith, record_bytes-length r))
      (and_right (record_in_range r) (every record_in_range rs) range)
      (and_right (v_fits r) (every v_fits rs) fit)),
)

pub stand_in : (b pre post : List ℕ) (rs : List Record) (at : ℕ) → b ≡ pre ++ records_bytes rs ++ post → length pre ≡ record_at at
    → every record_in_range rs ≡ true → every v_fits rs ≡ true → StandIn b at rs
stand_in b pre post rs at form here range fit = rw form (stand_at pre post rs at here range fit)
