-- The bytes of raw: each is there, or one is missing.
-- Assumes nothing.
use Rattle.std.proofs.Common.{ℕ, zero, suc, ◌+◌, ◌*◌, ◌/◌, ◌<◌, ◌≡◌, refl, ◌∙◌, sym, arith}
use Rattle.std.proofs.Common.{List, [], ◌∷◌, length, get_or, set, map, Option, Some, None}
use Rattle.std.specs.List.{range_with_len}
use Rattle.std.specs.Simd.{first_chunks}
use Rattle.std.proofs.lemmas.List.FromFn.{length-map-range_with_len, get_or-map-range_with_len}
use Rattle.std.proofs.lemmas.List.{get_or-set_other}
use Rattle.std.proofs.lemmas.Grind.{get_or-set_at}
use borrow.Author.Count.{below_more}
use Rattle.names.specs.Text.{first_word, after_word}
use Rattle.names.specs.Line.{all_some, byte_at, raw_byte, raw_line}

all_none : (xs : List (Option ℕ)) (k : ℕ) → k < length xs → get_or xs k None ≡ None → all_some xs ≡ None
all_none [] k within e = absurd (omega (arith, within))
all_none (None ∷ xs) k within e = refl
all_none (Some b ∷ xs) zero within e = absurd cc
all_none (Some b ∷ xs) (suc k) within e = rw (all_none xs k (omega (arith, within)) e) refl

all_found : (xs : List (Option ℕ)) (bs : List ℕ) → length xs ≡ length bs
    → ((k : ℕ) → k < length bs → get_or xs k None ≡ Some (get_or bs k 0)) → all_some xs ≡ Some bs
all_found [] [] long each = refl
all_found [] (b ∷ bs) long each = absurd (omega (arith, long))
all_found (x ∷ xs) [] long each = absurd (omega (arith, long))
all_found (x ∷ xs) (b ∷ bs) long each =
    rw (each 0 (omega arith), all_found xs bs (omega (arith, long)) (λ k within. each (suc k) (omega (arith, within)))) refl

module _ (t : List ℕ) (one : length (after_word t) ≡ 0) (long : length (first_word t) ≡ 24) where
  raw_is : raw_line t ≡ all_some (map (byte_at (first_word t)) (range_with_len 0 12))
  unfolding raw_line
  raw_is = rw (one, long) refl

  pub raw_missing : (k : ℕ) → k < 12 → byte_at (first_word t) k ≡ None → None ≡ raw_line t
  raw_missing k within e =
      let at : ℕ → Option ℕ = byte_at (first_word t) in
      sym (raw_is ∙ all_none (map at (range_with_len 0 12)) k (omega (arith, within, length-map-range_with_len at 0 12))
      (get_or-map-range_with_len at 0 12 k k None within (omega arith) ∙ e))

  pub raw_found : (bs : List ℕ) → length bs ≡ 12 → ((j : ℕ) → j < 12 → byte_at (first_word t) j ≡ Some (get_or bs j 0))
      → Some bs ≡ raw_line t
  raw_found bs whole each =
      let at : ℕ → Option ℕ = byte_at (first_word t) in
      sym (raw_is ∙ all_found (map at (range_with_len 0 12)) bs (length-map-range_with_len at 0 12 ∙ sym whole)
      (λ k within.
      get_or-map-range_with_len at 0 12 k k None (omega (arith, within, whole)) (omega arith) ∙ each k (omega (arith, within, whole))))

-- a pair's digits, by their places
pair_digits : (c : ℕ) (s : List ℕ) (k n m : ℕ) → length s ≡ 2 * c → k < c → n ≡ 2 * k → m ≡ 2 * k + 1
    → (get_or (get_or (first_chunks 2 c s) k []) 0 0 ≡ get_or s n 0) × (get_or (get_or (first_chunks 2 c s) k []) 1 0 ≡ get_or s m 0)
pair_digits zero s k n m long within high low = absurd (omega (arith, within))
pair_digits (suc c) [] k n m long within high low = absurd (omega (arith, long))
pair_digits (suc c) (x ∷ []) k n m long within high low = absurd (omega (arith, long))
pair_digits (suc c) (x ∷ y ∷ s) zero n m long within high low = rw (high, low) (refl, refl)
pair_digits (suc c) (x ∷ y ∷ s) (suc k) n m long within high low =
    let further : n ≡ suc (suc (2 * k)) = omega (arith, high) in
    let furthest : m ≡ suc (suc (2 * k + 1)) = omega (arith, low) in
    rw (further, furthest) (pair_digits c s k (2 * k) (2 * k + 1) (omega (arith, long)) (omega (arith, within)) refl refl)

-- the byte of a pair
pub pair_byte : (t digits : List ℕ) (pairs : List (List ℕ)) → digits ≡ first_word t → length digits ≡ 24
    → pairs ≡ first_chunks 2 (length digits / 2) digits → (k : ℕ) → k < 12
    → byte_at (first_word t) k ≡ raw_byte (get_or (get_or pairs k []) 0 0) (get_or (get_or pairs k []) 1 0)
pair_byte t digits pairs is long are k within =
    let count : length digits / 2 ≡ 12 = rw long refl in
    let whole : length digits ≡ 2 * (length digits / 2) = omega (arith, long, count) in
    let both = pair_digits (length digits / 2) digits k (2 * k) (2 * k + 1) whole (omega (arith, within, count)) refl refl in
    rw (← is, are, both.0, both.1) refl

-- a byte more
pub raw_more : (digits bs : List ℕ) (i v : ℕ) → i < length bs → byte_at digits i ≡ Some v
    → ((j : ℕ) → j < i → byte_at digits j ≡ Some (get_or bs j 0)) → (j : ℕ) → j < i + 1 → byte_at digits j ≡ Some (get_or (set bs i v) j 0)
raw_more digits bs i v within here below =
    below_more (λ j. byte_at digits j ≡ Some (get_or (set bs i v) j 0)) i
    (λ j less. rw (get_or-set_other bs i j v 0 (λ e. omega (arith, e, less))) (below j less))
    (rw (get_or-set_at bs i i v 0 refl within) here)
