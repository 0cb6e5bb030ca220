-- What a reader that began fresh keeps, whatever is delivered of a chain: the strings that it applied are a prefix of the chain's
-- blocks, and what is left of them goes on from its state. If it says that it is behind, a block of the rest is what it met last
-- ahead of its turn; and no block of the rest that was delivered is past what it has heard of.
-- Assumes nothing.
use Rattle.std.specs.Prelude.{ℕ, ◌+◌, ◌≤◌, ◌<◌, Bool, true, false, ◌⊎◌, ◌≡◌, refl, length, leb}
use mathlib.Core.List.Memᴰ
use mathlib.Core.List.{List, [], ◌∷◌, ◌++◌, append-nil, Memᴰ}
use mathlib.Core.List.Sublistᴰ
use mathlib.Core.List.{Sublistᴰ}
use Rattle.std.proofs.Common.{inl, inr, ap, sym, ◌∙◌, subst, zero-add, arith, length-append}
use Rattle.std.proofs.Math.Seq.{append_snoc}
use Rattle.kinds.specs.ChoiceLaws.{chosen_either}
use Rattle.state.specs.State.{fresh}
use Rattle.state.specs.declared.State.{State}
use Rattle.blocks.specs.Block.{intact, head_of}
use Rattle.blocks.specs.BlockLaws.{intact-length, intact_check, intact_other_length, intact_wrong_check}
use Rattle.reader.specs.Reader.{reader_sound, answered, raised, ahead, onward, in_turn, read_of}
use Rattle.reader.specs.ReaderLaws.{raised_most, read_damaged, read_other_log, read_already, read_gap, read_in_turn}
use Rattle.reader.proofs.SoundLaws.{read_sound}
use Rattle.reader.specs.declared.reply.Reply.{Reply}
use Rattle.reader.specs.declared.reply.Read.{Read}
use Rattle.fidelity.specs.Pass.{At, Stray, another_length, wrong_check, another_log, Delivery, Ground, after_read, hears}
use Rattle.fidelity.specs.Chain.{Link, Chain}
use Rattle.fidelity.specs.ChainLaws.{Member, chain_member, chain_more, link_at}

pub record Followed (number : ℕ) (states : List State) (blocks : List (List ℕ)) (end : State) (met : List (List ℕ)) (w : Ground) : Type 0 where
  pub rest : List (List ℕ)
  pub split : blocks ≡ w.applied ++ rest
  pub next : w.reader.next ≡ length w.applied
  pub log : w.reader.number ≡ number
  pub own : reader_sound w.reader ≡ true
  pub known : At states w.reader.state.count w.reader.state
  pub past : Chain number states 0 fresh w.applied w.reader.state
  pub coming : Chain number states w.reader.next w.reader.state rest end
  pub low : w.reader.next < w.reader.heard
      → (b : List ℕ) × Memᴰ b rest × Memᴰ b met × ((head_of b).block + 1 ≡ w.reader.heard)
  pub high : (b : List ℕ) → Memᴰ b rest → Memᴰ b met → (head_of b).block < w.reader.heard

stray_member : {number from to : ℕ} {b : List ℕ} → Stray number b → Member number from to b → ⊥
stray_member {b} (another_length other) m = other (intact-length b m.whole)
stray_member {b} (wrong_check wrong) m = wrong (intact_check b m.whole)
stray_member (another_log other) m = other m.log

module _ (number : ℕ) (states : List State) (blocks : List (List ℕ)) (end : State) (met : List (List ℕ)) (w : Ground)
    (f : Followed number states blocks end met w) (b : List ℕ) where
  -- after one string more: what is kept, and if the rest was to come in order from here, so is what is left of it
  abbrev After : Ground → Type 0
  After w' =
      (f' : Followed number states blocks end (met ++ b ∷ []) w')
      × ((bs : List (List ℕ)) → Sublistᴰ f.rest (b ∷ bs) → Sublistᴰ f'.rest bs)

  abbrev AfterRead : Read → Type 0
  AfterRead a = After (after_read w b a)

  past_member : (c : List ℕ) → Memᴰ c w.applied → Member number 0 (0 + length w.applied) c
  past_member c m = chain_member number states 0 fresh w.applied w.reader.state c f.past m

  coming_member : (c : List ℕ) → Memᴰ c f.rest → Member number w.reader.next (w.reader.next + length f.rest) c
  coming_member c m = chain_member number states w.reader.next w.reader.state f.rest end c f.coming m

  met-more : (c : List ℕ) → Memᴰ c met → Memᴰ c (met ++ b ∷ [])
  met-more c m = Memᴰ.append_left (b ∷ []) m

  met_last : Memᴰ b (met ++ b ∷ [])
  met_last = Memᴰ.append_right met (Memᴰ.head refl)

  -- what holds of what was met before, and of this string, holds of what is met now
  met_cases : (P : List ℕ → Type 0) (c : List ℕ) → (Memᴰ c met → P c) → P b → Memᴰ c (met ++ b ∷ []) → P c
  met_cases P c before this m = either (Memᴰ.append_cases met m)
    where
      either : Memᴰ c met ⊎ Memᴰ c (b ∷ []) → P c
      either (inl m') = before m'
      either (inr m') = rw (Memᴰ.eq_of_singleton m') this

  -- The reader stays as it is ----------------------------------------------------------------------------------------------------

  stays : (Memᴰ b f.rest → ⊥) → After w
  stays never = (
    record {
      rest = f.rest;
      split = f.split;
      next = f.next;
      log = f.log;
      own = f.own;
      known = f.known;
      past = f.past;
      coming = f.coming;
      low = λ h. let (c, m, m', e) = f.low h in (c, m, met-more c m', e);
      high =
          λ c m m'. met_cases (λ (x : List ℕ). Memᴰ x f.rest → (head_of x).block < w.reader.heard) c
          (λ before _. f.high c m before) (λ here. absurd (never here)) m' m;
    },
    λ bs s. passed bs (Sublistᴰ.cases_cons s),
  )
    where
      passed : (bs : List (List ℕ)) → Sublistᴰ f.rest bs ⊎ ((r : List (List ℕ)) × (f.rest ≡ b ∷ r) × Sublistᴰ r bs) → Sublistᴰ f.rest bs
      passed bs (inl s) = s
      passed bs (inr t) = absurd (never (subst (λ (l : List (List ℕ)). Memᴰ b l) (sym t.1) (Memᴰ.head refl)))

  stray_never : Stray number b → Memᴰ b f.rest → ⊥
  stray_never stray m = stray_member stray (coming_member b m)

  broken_stays : (Memᴰ b f.rest → ⊥) → intact b ≡ false → AfterRead (read_of w.reader b)
  broken_stays never broken = rw (read_damaged w.reader b f.own broken) (stays never)

  other_stays : (Memᴰ b f.rest → ⊥) → ((head_of b).number ≡ number → ⊥) → (t : Bool) → intact b ≡ t → AfterRead (read_of w.reader b)
  other_stays never other false broken = broken_stays never broken
  other_stays never other true whole =
      rw (read_other_log w.reader b f.own whole (λ e. other (e ∙ f.log))) (stays never)

  after_stray : Stray number b → AfterRead (read_of w.reader b)
  after_stray stray = told stray (stray_never stray)
    where
      told : Stray number b → (Memᴰ b f.rest → ⊥) → AfterRead (read_of w.reader b)
      told (another_length other) never = broken_stays never (intact_other_length b other)
      told (wrong_check wrong) never = broken_stays never (intact_wrong_check b wrong)
      told (another_log other) never = other_stays never other (intact b) refl

  -- a block that was applied already
  after_past : Memᴰ b w.applied → AfterRead (read_of w.reader b)
  after_past m =
      let known : Member number 0 (0 + length w.applied) b = past_member b m in
      let before : (head_of b).block < w.reader.next = omega (arith, known.high, f.next) in
      rw (read_already w.reader b f.own known.whole (known.log ∙ sym f.log) known.earlier before)
      (stays (λ m'. omega (arith, (coming_member b m').low)))

  -- A block ahead of its turn ----------------------------------------------------------------------------------------------------

  after_gap : Memᴰ b f.rest → w.reader.next < (head_of b).block → AfterRead (read_of w.reader b)
  after_gap m later = rw gap (kept, λ bs s. passed bs (Sublistᴰ.cases_cons s))
    where
      known : Member number w.reader.next (w.reader.next + length f.rest) b
      known = coming_member b m

      gap : read_of w.reader b ≡ answered (ahead w.reader (head_of b).block) Reply.Gap
      gap = read_gap w.reader b f.own known.whole (known.log ∙ sym f.log) known.earlier later

      most : (w.reader.heard ≤ raised w.reader.heard (head_of b).block) × ((head_of b).block + 1 ≤ raised w.reader.heard (head_of b).block)
      most = raised_most w.reader.heard (head_of b).block

      Behind : ℕ → Type 0
      Behind n =
          w.reader.next < n
          → (c : List ℕ) × Memᴰ c f.rest × Memᴰ c (met ++ b ∷ []) × ((head_of c).block + 1 ≡ n)

      behind : Behind (raised w.reader.heard (head_of b).block)
      behind =
          chosen_either Behind (leb w.reader.heard (head_of b).block) ((head_of b).block + 1) w.reader.heard
          (λ _ _. (b, m, met_last, refl))
          (λ _ h. let (c, n, n', e) = f.low h in (c, n, met-more c n', e))

      kept : Followed number states blocks end (met ++ b ∷ []) (after_read w b (answered (ahead w.reader (head_of b).block) Reply.Gap))
      kept =
          record {
            rest = f.rest;
            split = f.split;
            next = f.next;
            log = f.log;
            own = rw gap at (read_sound w.reader b f.own);
            known = f.known;
            past = f.past;
            coming = f.coming;
            low = behind;
            high =
                λ c n n'. met_cases (λ (x : List ℕ). (head_of x).block < raised w.reader.heard (head_of b).block) c
                (λ before. omega (arith, f.high c n before, most.0)) (omega (arith, most.1)) n';
          }

      first : (r : List (List ℕ)) → Chain number states w.reader.next w.reader.state (b ∷ r) end → ⊥
      first r chain = omega (arith, chain.1.turn)

      passed : (bs : List (List ℕ)) → Sublistᴰ f.rest bs ⊎ ((r : List (List ℕ)) × (f.rest ≡ b ∷ r) × Sublistᴰ r bs) → Sublistᴰ f.rest bs
      passed bs (inl s) = s
      passed bs (inr t) = absurd (first t.0 (rw t.1 at f.coming))

  -- The block whose turn it is ---------------------------------------------------------------------------------------------------

  after_turn : (more : List (List ℕ)) → f.rest ≡ b ∷ more → AfterRead (read_of w.reader b)
  after_turn more e = rw turn (kept, λ bs s. passed bs (Sublistᴰ.cases_cons-cons (rw e at s)))
    where
      chain : Chain number states w.reader.next w.reader.state (b ∷ more) end
      chain = rw e at f.coming

      after : State
      after = chain.0

      link : Link number w.reader.next w.reader.state b after
      link = chain.1

      turn : read_of w.reader b ≡ answered (onward w.reader after) Reply.Applied
      turn =
          read_in_turn w.reader b f.own link.whole (link.log ∙ sym f.log) link.earlier link.turn
          ∙ ap (in_turn w.reader) link.content

      heard : ℕ
      heard = raised w.reader.heard w.reader.next

      most : (w.reader.heard ≤ heard) × (w.reader.next + 1 ≤ heard)
      most = raised_most w.reader.heard w.reader.next

      in_rest : (c : List ℕ) → Memᴰ c more → Memᴰ c f.rest
      in_rest c m = subst (λ (l : List (List ℕ)). Memᴰ c l) (sym e) (Memᴰ.tail m)

      still : (c : List ℕ) → w.reader.next < (head_of c).block → Memᴰ c f.rest → Memᴰ c more
      still c later m = either (Memᴰ.cases_cons (rw e at m))
        where
          either : (c ≡ b) ⊎ Memᴰ c more → Memᴰ c more
          either (inl this) = absurd (omega (arith, link.turn, ap (λ (x : List ℕ). (head_of x).block) this))
          either (inr m') = m'

      Behind : ℕ → Type 0
      Behind n =
          w.reader.next + 1 < n
          → (c : List ℕ) × Memᴰ c more × Memᴰ c (met ++ b ∷ []) × ((head_of c).block + 1 ≡ n)

      behind : Behind heard
      behind =
          chosen_either Behind (leb w.reader.heard w.reader.next) (w.reader.next + 1) w.reader.heard
          (λ _ h. absurd (omega arith))
          (λ _ h. let (c, n, n', last) = f.low (omega arith) in (c, still c (omega arith) n, met-more c n', last))

      kept : Followed number states blocks end (met ++ b ∷ []) (after_read w b (answered (onward w.reader after) Reply.Applied))
      kept =
          record {
            rest = more;
            split = f.split ∙ ap (λ (l : List (List ℕ)). w.applied ++ l) e ∙ sym (append_snoc w.applied b more);
            next = ap (λ (n : ℕ). n + 1) f.next ∙ sym (length-append w.applied (b ∷ []));
            log = f.log;
            own = rw turn at (read_sound w.reader b f.own);
            known = chain.2;
            past =
                chain_more number states 0 fresh w.applied w.reader.state after b f.past
                (link_at number (0 + length w.applied) refl (f.next ∙ sym (zero-add (length w.applied))) link) chain.2;
            coming = chain.3;
            low = behind;
            high =
                λ c n n'. met_cases (λ (x : List ℕ). (head_of x).block < heard) c
                (λ before. omega (arith, f.high c (in_rest c n) before, most.0)) (omega (arith, link.turn, most.1)) n';
          }

      passed : (bs : List (List ℕ)) → Sublistᴰ (b ∷ more) bs ⊎ ((b ≡ b) × Sublistᴰ more bs) → Sublistᴰ more bs
      passed bs (inl s) = Sublistᴰ.trans (Sublistᴰ.cons (Sublistᴰ.refl more)) s
      passed bs (inr t) = t.1

  -- Any string -------------------------------------------------------------------------------------------------------------------

  after_coming : (rest : List (List ℕ)) → f.rest ≡ rest → Memᴰ b rest → AfterRead (read_of w.reader b)
  after_coming [] e m = absurd (Memᴰ.not-nil m)
  after_coming (c ∷ more) e m = either (Memᴰ.cases_cons m)
    where
      chain : Chain number states w.reader.next w.reader.state (c ∷ more) end
      chain = rw e at f.coming

      later : Memᴰ b more → w.reader.next < (head_of b).block
      later m' = omega (arith, (chain_member number states (w.reader.next + 1) chain.0 more end b chain.3 m').low)

      either : (b ≡ c) ⊎ Memᴰ b more → AfterRead (read_of w.reader b)
      either (inl this) = after_turn more (e ∙ ap (λ (x : List ℕ). x ∷ more) (sym this))
      either (inr m') = after_gap (subst (λ (l : List (List ℕ)). Memᴰ b l) (sym e) m) (later m')

  after_one_lem : Memᴰ b blocks ⊎ Stray number b → AfterRead (read_of w.reader b)
  after_one_lem (inr stray) = after_stray stray
  after_one_lem (inl m) = either (Memᴰ.append_cases w.applied (rw f.split at m))
    where
      either : Memᴰ b w.applied ⊎ Memᴰ b f.rest → AfterRead (read_of w.reader b)
      either (inl m') = after_past m'
      either (inr m') = after_coming f.rest refl m'

module _ (number : ℕ) (states : List State) (blocks : List (List ℕ)) (end : State) where
  -- the same, of a list that is written otherwise
  followed_same : (met met' : List (List ℕ)) (w : Ground) → met ≡ met' → (f : Followed number states blocks end met w)
      → (f' : Followed number states blocks end met' w) × (f'.rest ≡ f.rest)
  followed_same met met' w e f =
      subst (λ (l : List (List ℕ)). (f' : Followed number states blocks end l w) × (f'.rest ≡ f.rest)) e (f, refl)

  -- any strings: and if the rest was to come in order, nothing is left of it
  pub follows : (bs met met' : List (List ℕ)) → met ++ bs ≡ met' → (w : Ground) (f : Followed number states blocks end met w)
      → Delivery number blocks bs
      → (f' : Followed number states blocks end met' (hears w bs)) × (Sublistᴰ f.rest bs → f'.rest ≡ [])
  follows [] met met' e w f came =
      let same : (f' : Followed number states blocks end met' w) × (f'.rest ≡ f.rest)
      = followed_same met met' w (sym (append-nil met) ∙ e) f in
      (same.0, λ s. same.1 ∙ Sublistᴰ.eq-nil s)
  follows (b ∷ bs) met met' e w f came =
      let one : (f' : Followed number states blocks end (met ++ b ∷ []) (after_read w b (read_of w.reader b)))
      × ((cs : List (List ℕ)) → Sublistᴰ f.rest (b ∷ cs) → Sublistᴰ f'.rest cs)
      = after_one_lem number states blocks end met w f b came.0 in
      let all : (f' : Followed number states blocks end met' (hears (after_read w b (read_of w.reader b)) bs))
      × (Sublistᴰ one.0.rest bs → f'.rest ≡ [])
      = follows bs (met ++ b ∷ []) met' (append_snoc met b bs ∙ e) (after_read w b (read_of w.reader b)) one.0 came.1 in
      (all.0, λ s. all.1 (one.1 bs s))
