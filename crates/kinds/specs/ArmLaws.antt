-- What the last arm of a `match` on a number knows: the number is none of the keys before it. One law for each way in which a
-- definition of specs/ goes through its numbers. Assumes nothing.
use Rattle.std.specs.Prelude.{◌≡◌, refl, List, [], ◌∷◌, map, ℕ}
use Rattle.std.proofs.Common.{ne_eqb}
use Rattle.kinds.specs.Choice.{numbered, select}

-- n is none of the keys, in the order and nesting in which a `match` hands it to its last arm
abbrev pub Past : ℕ → List ℕ → Type 0 → Type 0
Past n [] known = known
Past n (k ∷ ks) known = Past n ks (known × (n ≡ k → ⊥))

known : (n : ℕ) (ks : List ℕ) (k : Type 0) → Past n ks k → k
known n [] k p = p
known n (x ∷ xs) k p = (known n xs (k × (n ≡ x → ⊥)) p).0

module _ {A B : Type 0} (number : A → ℕ) (found : A → B) (unknown : B) where
  past : (xs : List A) (n : ℕ) (k : Type 0) → Past n (map number xs) k → unknown ≡ numbered number found unknown xs n
  past [] n k p = refl
  past (x ∷ xs) n k p =
      rw (ne_eqb n (number x) (known n (map number xs) (k × (n ≡ number x → ⊥)) p).1) (past xs n (k × (n ≡ number x → ⊥)) p)

  pub numbered_past : (xs : List A) (n : ℕ) → Past n (map number xs) (Unit {0}) → unknown ≡ numbered number found unknown xs n
  numbered_past xs n p = past xs n (Unit {0}) p

module _ {A : Type 0} (other : A) where
  beyond : (rows : List (ℕ × A)) (n : ℕ) (k : Type 0) → Past n (map (λ row. row.0) rows) k → other ≡ select n rows other
  beyond [] n k p = refl
  beyond (row ∷ rows) n k p =
      rw (ne_eqb n row.0 (known n (map (λ row. row.0) rows) (k × (n ≡ row.0 → ⊥)) p).1) (beyond rows n (k × (n ≡ row.0 → ⊥)) p)

  pub select_past : (rows : List (ℕ × A)) (n : ℕ) → Past n (map (λ row. row.0) rows) (Unit {0}) → other ≡ select n rows other
  select_past rows n p = beyond rows n (Unit {0}) p
