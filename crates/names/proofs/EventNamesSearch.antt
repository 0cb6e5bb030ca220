-- The search of a name's code by place: the first place whose name the word is, or none, is the code.
-- Assumes nothing.
use Rattle.std.proofs.Common.{ℕ, zero, suc, ◌+◌, ◌<◌, ◌≤◌, ◌≡◌, refl, true, false, List, drop, Option, Some, None, arith}
use Rattle.std.specs.Prelude.{MatchOption}
use Rattle.names.specs.Text.{same_word}
use Rattle.names.specs.EventNames.{event_names, event_name, code_from, event_code, some_code}
use Rattle.names.specs.EventNamesLaws.{code_first, code_found, code_further, code_none, some_found, some_none}

module _ (w : List ℕ) where
  abbrev pub Is : ℕ → Type 0
  Is n = same_word w (event_name n) ≡ true

  abbrev pub IsNot : ℕ → Type 0
  IsNot n = same_word w (event_name n) ≡ false

  -- where no name from 1 on is the word, the rest of the table says what the whole said
  rest : (n m : ℕ) → m ≡ n + 1 → n < 24 → ((k : ℕ) → 1 ≤ k → k < m → IsNot k) → code_from w m (drop m event_names) ≡ event_code w
  rest zero m is within before = rw is (code_first w)
  rest (suc n) m is within before =
      let here : m ≡ n + 1 + 1 = omega (arith, is) in
      rw here (
      code_further w (n + 1) (event_code w) (omega (arith, within)) (same_word w (event_name (n + 1))) refl
      (before (n + 1) (omega arith) (omega (arith, is)))
      (rest n (n + 1) refl (omega (arith, within)) (λ k above below. before k above (omega (arith, is, below))))
      )

  pub first_is_code : (r : Option ℕ)
      → MatchOption r ((k : ℕ) → 1 ≤ k → k < 24 → IsNot k) (λ n. (1 ≤ n) × (n < 24) × Is n × ((k : ℕ) → 1 ≤ k → k < n → IsNot k))
      → r ≡ some_code (event_code w)
  first_is_code None none = some_none (event_code w) (code_none w 24 (event_code w) (omega arith) (rest 23 24 refl (omega arith) none))
  first_is_code (Some zero) first = absurd (omega (arith, first.0))
  first_is_code (Some (suc n)) first =
      some_found (suc n) (event_code w) first.0
      (code_found w (suc n) (event_code w) first.1 (same_word w (event_name (suc n))) refl first.2
      (rest n (suc n) (omega arith) (omega (arith, first.1)) first.3))
