-- Laws of the open block: an empty one, one event more, and what it is when it is closed: a link of the chain.
-- Assumes nothing.
use Rattle.std.specs.Prelude.{ℕ, suc, ◌+◌, ◌-◌, ◌*◌, ◌^◌, ◌<◌, ◌≤◌, true, ◌≡◌, refl, take, Ok}
use mathlib.Core.List.{List, [], ◌∷◌, ◌++◌, append_assoc}
use Rattle.std.proofs.Common.{inl, inr, sym, ◌∙◌, add-zero, arith, le-leb, length-append, take-append-drop, take_all}
use Rattle.std.proofs.Math.Path.{ap}
use Rattle.std.proofs.Math.ListN.{length, drop}
use Rattle.std.proofs.lemmas.List.{length-replicate}
use Rattle.std.proofs.Math.Seq.{take_at, drop-append-add, paste}
use Rattle.std.proofs.lemmas.List.Edits.{length-paste, take-paste}
use Rattle.frame_check.specs.Check.{check_of}
use Rattle.kinds.specs.Kinds.{last_number}
use Rattle.kinds.specs.ChoiceLaws.{every_both}
use Rattle.records.specs.Record.{record_in_range, v_fits, parts_of_record}
use Rattle.state.specs.declared.State.{State}
use Rattle.kinds.specs.declared.status.Status.{Status}
use Rattle.records.specs.declared.Record.{Record}
use Rattle.layout.specs.Bytes.{two}
use Rattle.blocks.specs.Block.{records_at, used_most, RECORDS, check_at, head_of, used_in_range, head_bytes, checked_bytes, block_bytes}
use Rattle.blocks.specs.BlockLaws.{head-length}
use Rattle.blocks.proofs.WrittenLaws.{checked_length, block_intact, block_head}
use Rattle.layout.specs.Record.{RECORD, read_record, records_bytes}
use Rattle.layout.specs.RecordLaws.{records-bytes-append}
use Rattle.blocks.specs.Zeros.{zeros_between}
use Rattle.blocks.specs.declared.block.Head.{Head}
use Rattle.draft.specs.declared.Draft.{Draft}
use Rattle.manager.specs.Log.{blank_records, records_with}
use Rattle.manager.specs.LogLaws.{Clauses, used_before}
use Rattle.reader.specs.Content.{record_at, reads, content_of}
use Rattle.reader.specs.ContentLaws.{content_read}
use Rattle.fidelity.specs.Pass.{last_in, event_number}
use Rattle.fidelity.specs.Interface.{whole, Ruled}
use Rattle.fidelity.specs.Replay.{StandIn}
use Rattle.fidelity.specs.ReplayLaws.{reads-replay, replay-append, replay-event, stand_in}
use Rattle.fidelity.specs.Chain.{Link}
use Rattle.fidelity.specs.Open.{Ends, Open}

pub open_blank : (s : State) (h : Head) → h.used ≡ 0 → h.before ≡ s.count → Open s h blank_records s
open_blank s h used before =
    record {
      logged = [];
      full = length-replicate {A = ℕ} RECORDS 0;
      stand = refl;
      used = used;
      range = refl;
      fit = refl;
      before = before;
      leads = refl;
      ends = inl refl;
    }

-- One event more -------------------------------------------------------------------------------------------------------------

-- n bytes more after m, where the string has both
stand_more : (records bytes xs ys : List ℕ) (m n : ℕ) → m ≤ length records → n ≤ length bytes → take m records ≡ xs → take n bytes ≡ ys
    → take (m + n) (paste records m bytes n) ≡ xs ++ ys
stand_more records bytes xs ys m n room long first second = rw (take-paste records m bytes n room long, first, second)

module _ (s t : State) (h h' : Head) (records : List ℕ) (d : Draft) (o : Open s h records t) (r : Ruled t d)
    (room : h.used + d.used ≤ used_most) (used : h'.used ≡ h.used + d.used) (before : h'.before ≡ h.before) where
  abbrev more : List Record
  more = whole t r.actions r.status

  more-length : length more ≡ length r.actions + 1
  more-length = length-append r.actions (Record.Status r.status (t.count + 1) ∷ [])

  all-length : length (o.logged ++ more) ≡ h.used + d.used
  all-length = length-append o.logged more ∙ omega (arith, o.used, r.used)

  within : (RECORD * h.used + RECORD * d.used ≤ length records) × (RECORD * d.used ≤ length d.bytes)
  within = omega (arith, o.full, r.long, r.used, more-length, r.few)

  all-bytes : RECORD * length (o.logged ++ more) ≡ RECORD * h.used + RECORD * d.used
  all-bytes = omega (arith, all-length)

  stand_first : take (RECORD * h.used) records ≡ records_bytes o.logged
  stand_first = ap (λ (n : ℕ). take (RECORD * n) records) o.used ∙ o.stand

  stand_all : take (RECORD * length (o.logged ++ more)) (records_with records h.used d) ≡ records_bytes (o.logged ++ more)
  stand_all =
      ap (λ (n : ℕ). take n (records_with records h.used d)) all-bytes
      ∙ stand_more records d.bytes (records_bytes o.logged) (records_bytes more) (RECORD * h.used) (RECORD * d.used)
      (omega (arith, within.0)) within.1 stand_first r.bytes
      ∙ sym (records-bytes-append o.logged more)

  number_after : d.state.count ≡ t.count + 1
  number_after = ap (λ (u : State). u.count) r.state ∙ r.number

  ends_more : o.logged ++ more ≡ (o.logged ++ r.actions) ++ Record.Status r.status d.state.count ∷ []
  ends_more =
      rw number_after (sym (append_assoc o.logged r.actions (Record.Status r.status (t.count + 1) ∷ [])))

  pub open_more : Open s h' (records_with records h.used d) d.state
  open_more =
      record {
        logged = o.logged ++ more;
        full = length-paste records (RECORD * h.used) d.bytes (RECORD * d.used) within.0 within.1 ∙ o.full;
        stand = stand_all;
        used = used ∙ sym all-length;
        range = every_both record_in_range o.logged more o.range r.range;
        fit = every_both v_fits o.logged more o.fit r.fit;
        before = before ∙ o.before;
        leads =
            replay-append o.logged more 0 s t o.leads
            ∙ replay-event r.actions 0 t r.status (t.count + 1) r.quiet (omega (arith, r.few)) refl r.sound
            ∙ ap Ok (sym r.state);
        ends = inr (o.logged ++ r.actions, r.status, ends_more);
      }

-- The block is closed ----------------------------------------------------------------------------------------------------------

regrouped : (a b c d : List ℕ) → (a ++ (b ++ c)) ++ d ≡ (a ++ b) ++ (c ++ d)
regrouped a b c d = simp append_assoc

drop-after : (xs ys : List ℕ) (k n : ℕ) → length xs ≡ k → drop (k + n) (xs ++ ys) ≡ drop n ys
drop-after xs ys k n e = rw (← e) (drop-append-add xs ys n)

stand_last : (b : List ℕ) (front : List Record) (r : Record) (at : ℕ) → StandIn b at (front ++ r ∷ [])
    → read_record b (record_at (at + length front)) ≡ Ok r
stand_last b [] r at stand = rw (add-zero at) stand.0
stand_last b (x ∷ front) r at stand =
    let on : at + suc (length front) ≡ at + 1 + length front = omega arith in
    rw on (stand_last b front r (at + 1) stand.1)

status_number_lem : (x : Status) (n : ℕ) → (parts_of_record (Record.Status x n)).v ≡ n
unfolding parts_of_record
status_number_lem x n = refl

module _ (s t : State) (h : Head) (records : List ℕ) (o : Open s h records t) where
  records_in : block_bytes h records
      ≡ (head_bytes h ++ records_bytes o.logged) ++ (drop (RECORD * length o.logged) records ++ two (check_of (checked_bytes h records)))
  unfolding block_bytes checked_bytes
  records_in =
      ap (λ (x : List ℕ). (head_bytes h ++ x) ++ two (check_of (head_bytes h ++ records)))
      (sym (take-append-drop (RECORD * length o.logged) records) ∙ ap (λ (x : List ℕ). x ++ drop (RECORD * length o.logged) records) o.stand)
      ∙ regrouped (head_bytes h) (records_bytes o.logged) (drop (RECORD * length o.logged) records) (two (check_of (head_bytes h ++ records)))

  stand_closed : StandIn (block_bytes h records) 0 o.logged
  stand_closed =
      stand_in (block_bytes h records) (head_bytes h) (drop (RECORD * length o.logged) records ++ two (check_of (checked_bytes h records)))
      o.logged 0 records_in (head-length h) o.range o.fit

  zeros_closed : zeros_between records (RECORD * h.used) RECORDS ≡ true → zeros_between (block_bytes h records) (record_at h.used) check_at ≡ true
  unfolding zeros_between block_bytes checked_bytes
  zeros_closed zero =
      rw (
        take_at (head_bytes h ++ records) (two (check_of (head_bytes h ++ records))) check_at (unfold checked_bytes in checked_length h records o.full),
        drop-after (head_bytes h) records records_at (RECORD * h.used) (head-length h),
      )
      (rw (take_all RECORDS records (omega (arith, o.full))) at zero)

  last_read : (h.used ≡ 0 → ⊥) → Ends t.count o.logged
      → event_number (read_record (block_bytes h records) (records_at + RECORD * (h.used - 1))) ≡ t.count
  last_read some (inl none) = absurd (some (o.used ∙ ap length none))
  last_read some (inr e) =
      let front : List Record = e.0 in
      let stand : StandIn (block_bytes h records) 0 (front ++ Record.Status e.1 t.count ∷ []) = rw e.2 at stand_closed in
      let long : length o.logged ≡ length front + 1 = ap length e.2 ∙ length-append front (Record.Status e.1 t.count ∷ []) in
      let here : h.used - 1 ≡ 0 + length front = omega (arith, o.used) in
      rw (here, stand_last (block_bytes h records) front (Record.Status e.1 t.count) 0 stand) (status_number_lem e.1 t.count)

  module _ (small : h.number < 2 ^ 32) (some : h.used ≡ 0 → ⊥) (log : Clauses t h records) (most : t.count ≤ last_number) where
    counts : h.before < t.count
    counts = used_before t h records log some

    room : h.used ≤ used_most
    room = log.room

    blocks : h.block ≤ h.before
    blocks = log.blocks

    head_closed : head_of (block_bytes h records) ≡ h
    head_closed = block_head h records o.full small (omega (arith, blocks, counts)) (omega (arith, room)) (omega (arith, counts))

    used_closed : used_in_range h.used ≡ true
    used_closed = rw (le-leb 1 h.used (omega arith), le-leb h.used used_most room)

    content_closed : content_of s (block_bytes h records) ≡ Ok t
    content_closed =
        content_read s (block_bytes h records) (rw head_closed used_closed) (rw head_closed o.before) (rw head_closed (λ e. omega (arith, counts)))
        (rw head_closed (zeros_closed log.zero))
        ∙ ap (λ (n : ℕ). reads (block_bytes h records) n 0 0 s) (ap (λ (x : Head). x.used) head_closed ∙ o.used)
        ∙ reads-replay (block_bytes h records) o.logged 0 0 s t stand_closed o.leads

    pub closed_link : Link h.number h.block s (block_bytes h records) t
    unfolding last_in
    closed_link =
        record {
          whole = block_intact h records o.full;
          log = ap (λ (x : Head). x.number) head_closed;
          turn = ap (λ (x : Head). x.block) head_closed;
          earlier = rw head_closed (λ e. omega (arith, blocks, counts));
          content = content_closed;
          last =
              ap (λ (x : Head). event_number (read_record (block_bytes h records) (records_at + RECORD * (x.used - 1)))) head_closed ∙ last_read some o.ends;
        }
