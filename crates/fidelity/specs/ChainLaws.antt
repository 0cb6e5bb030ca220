-- Laws of chains: one link more at the end, or one state more in the history; what is known of a block that is in a chain; and the
-- number of the last event in it.
-- Assumes nothing.
use Rattle.std.specs.Prelude.{ℕ, zero, suc, ◌+◌, ◌≤◌, ◌<◌, true, ◌⊎◌, ◌≡◌, refl, length}
use mathlib.Core.List.Memᴰ
use mathlib.Core.List.{List, [], ◌∷◌, ◌++◌, Memᴰ}
use Rattle.std.proofs.Common.{inl, inr, ap, ◌∙◌, add-zero, arith}
use Rattle.kinds.specs.Kinds.{last_number}
use Rattle.state.specs.declared.State.{State}
use Rattle.blocks.specs.Block.{intact, head_of}
use Rattle.fidelity.specs.Pass.{At, last_after}
use Rattle.fidelity.specs.Chain.{Link, Chain}

-- Histories --------------------------------------------------------------------------------------------------------------------

pub at_longer : {A : Type 0} (xs ys : List A) (n : ℕ) (x : A) → At xs n x → At (xs ++ ys) n x
at_longer [] ys n x e = absurd e
at_longer (y ∷ xs) ys zero x e = e
at_longer (y ∷ xs) ys (suc n) x e = at_longer xs ys n x e

at_length : {A : Type 0} (xs : List A) (x : A) → At (xs ++ x ∷ []) (length xs) x
at_length [] x = refl
at_length (y ∷ xs) x = at_length xs x

pub at_end : {A : Type 0} (xs : List A) (n : ℕ) (x : A) → length xs ≡ n → At (xs ++ x ∷ []) n x
at_end xs n x e = rw (← e) (at_length xs x)

-- with one more at the end, the n-th is one of the former or the new one
pub at_cases : {A : Type 0} (xs : List A) (x : A) (n : ℕ) (y : A) → At (xs ++ x ∷ []) n y → At xs n y ⊎ ((n ≡ length xs) × (x ≡ y))
at_cases [] x zero y e = inr (refl, e)
at_cases [] x (suc n) y e = absurd e
at_cases (z ∷ xs) x zero y e = inl e
at_cases {A} (z ∷ xs) x (suc n) y e = further (at_cases xs x n y e)
  where
    further : At xs n y ⊎ ((n ≡ length xs) × (x ≡ y)) → At xs n y ⊎ ((suc n ≡ suc (length xs)) × (x ≡ y))
    further (inl before) = inl before
    further (inr last) = inr (ap suc last.0, last.1)

-- Longer chains ----------------------------------------------------------------------------------------------------------------

pub chain_longer : (number : ℕ) (states more : List State) (n : ℕ) (s : State) (bs : List (List ℕ)) (t : State)
    → Chain number states n s bs t → Chain number (states ++ more) n s bs t
chain_longer number states more n s [] t chain = chain
chain_longer number states more n s (b ∷ bs) t chain = (
  chain.0,
  chain.1,
  at_longer states more chain.0.count chain.0 chain.2,
  chain_longer number states more (n + 1) chain.0 bs t chain.3,
)

on_one : (n m : ℕ) → n + suc m ≡ n + 1 + m
on_one n m = omega arith

pub link_at : {number n : ℕ} {s t : State} {b : List ℕ} (log m : ℕ) → number ≡ log → n ≡ m → Link number n s b t → Link log m s b t
link_at log m same e link =
    record {
      whole = link.whole;
      log = link.log ∙ same;
      turn = link.turn ∙ e;
      earlier = link.earlier;
      content = link.content;
      last = link.last;
    }

link_from : {number n : ℕ} {s t : State} {b : List ℕ} (u : State) → u ≡ s → Link number n s b t → Link number n u b t
link_from u e link = rw e link

pub chain_more : (number : ℕ) (states : List State) (n : ℕ) (s : State) (bs : List (List ℕ)) (t u : State) (b : List ℕ)
    → Chain number states n s bs t → Link number (n + length bs) t b u → At states u.count u
    → Chain number states n s (bs ++ b ∷ []) u
chain_more number states n s [] t u b chain link known =
    (u, link_from s chain (link_at number n refl (add-zero n) link), known, refl)
chain_more number states n s (c ∷ bs) t u b chain link known = (
  chain.0,
  chain.1,
  chain.2,
  chain_more number states (n + 1) chain.0 bs t u b chain.3 (link_at number (n + 1 + length bs) refl (on_one n (length bs)) link) known,
)

-- Blocks of a chain ------------------------------------------------------------------------------------------------------------

pub record Member (number from to : ℕ) (b : List ℕ) : Type 0 where
  pub whole : intact b ≡ true
  pub log : (head_of b).number ≡ number
  pub earlier : (head_of b).block ≡ last_number → ⊥
  pub low : from ≤ (head_of b).block
  pub high : (head_of b).block < to

member_link : {number n : ℕ} {s t : State} {b : List ℕ} (to : ℕ) → n < to → Link number n s b t → Member number n to b
member_link to below link =
    record {
      whole = link.whole;
      log = link.log;
      earlier = link.earlier;
      low = omega (arith, link.turn);
      high = omega (arith, link.turn);
    }

member_wider : {number from to : ℕ} {b : List ℕ} (low high : ℕ) → low ≤ from → to ≤ high → Member number from to b → Member number low high b
member_wider low high l h m =
    record {
      whole = m.whole;
      log = m.log;
      earlier = m.earlier;
      low = omega (arith, m.low);
      high = omega (arith, m.high);
    }

pub chain_member : (number : ℕ) (states : List State) (n : ℕ) (s : State) (bs : List (List ℕ)) (t : State) (b : List ℕ)
    → Chain number states n s bs t → Memᴰ b bs → Member number n (n + length bs) b
chain_member number states n s [] t b chain m = absurd (Memᴰ.not-nil m)
chain_member number states n s (c ∷ bs) t b chain m =
    either (chain_member number states (n + 1) chain.0 bs t b chain.3) (Memᴰ.cases_cons m)
  where
    either : (Memᴰ b bs → Member number (n + 1) (n + 1 + length bs) b) → (b ≡ c) ⊎ Memᴰ b bs
        → Member number n (n + suc (length bs)) b
    either below (inl e) = rw e (member_link (n + suc (length bs)) (omega arith) chain.1)
    either below (inr m') = member_wider n (n + suc (length bs)) (omega arith) (omega arith) (below m')

-- the number of the last event
pub chain_last : (number : ℕ) (states : List State) (n : ℕ) (s : State) (bs : List (List ℕ)) (t : State)
    → Chain number states n s bs t → last_after s.count bs ≡ t.count
chain_last number states n s [] t chain = ap (λ (x : State). x.count) chain
chain_last number states n s (b ∷ bs) t chain =
    rw chain.1.last (chain_last number states (n + 1) chain.0 bs t chain.3)
