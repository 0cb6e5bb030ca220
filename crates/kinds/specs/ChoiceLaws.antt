-- How the definitions choose, laws: what holds of each choice, and of all that a list or a table has, holds of what is chosen; a kind
-- and its numbers say the same, once each of its numbers is read back. Nothing here is of the paper.
-- Assumes nothing.
use Rattle.std.specs.Prelude.{ℕ, ◌<◌, Bool, true, false, ◌&&◌, List, [], ◌∷◌, ◌++◌, ◌≡◌, refl, eqb, ltb, if◌then◌else◌}
use Rattle.std.proofs.Common.{true≢false, eqb-true, ltb-true, sym, ap, ◌∙◌}
use Rattle.std.proofs.lemmas.Bool.{false≢true}
use Rattle.std.proofs.Math.Bool.{and_assoc}
use Rattle.kinds.specs.Choice.{when, every, some, numbered, select}

-- what holds of the first choice where it is taken, and of the second anyhow, holds of the one taken
pub chosen : {A : Type 0} (P : A → Type 0) (test : Bool) (a b : A) → (test ≡ true → P a) → P b → P (if test then a else b)
chosen P true a b p q = p refl
chosen P false a b p q = q

-- the same, of a second choice that holds where it is taken
pub chosen_either : {A : Type 0} (P : A → Type 0) (test : Bool) (a b : A)
    → (test ≡ true → P a) → (test ≡ false → P b) → P (if test then a else b)
chosen_either P true a b p q = p refl
chosen_either P false a b p q = q refl

pub if-same : {A : Type 0} (test : Bool) (a : A) → (if test then a else a) ≡ a
if-same true a = refl
if-same false a = refl

pub when_true : (t : Bool) (test : Unit {0} → Bool) → when t test ≡ true → t ≡ true → test tt ≡ true
when_true true test passed holds = passed
when_true false test passed holds = absurd (false≢true holds)

pub and_left : (a b : Bool) → a && b ≡ true → a ≡ true
and_left true b e = refl
and_left false b e = e

pub and_right : (a b : Bool) → a && b ≡ true → b ≡ true
and_right true b e = e
and_right false b e = absurd (false≢true e)

-- Tests of lists -----------------------------------------------------------------------------------------------------------

module _ {A : Type 0} (test : A → Bool) where
  pub every_append : (xs ys : List A) → every test (xs ++ ys) ≡ every test xs && every test ys
  every_append [] ys = refl
  every_append (x ∷ xs) ys = rw (every_append xs ys, and_assoc (test x) (every test xs) (every test ys))

  pub every-if : (choice : Bool) (xs ys : List A)
      → every test (if choice then xs else ys) ≡ (if choice then every test xs else every test ys)
  every-if true xs ys = refl
  every-if false xs ys = refl

  pub every_both : (xs ys : List A) → every test xs ≡ true → every test ys ≡ true → every test (xs ++ ys) ≡ true
  every_both xs ys all more = rw (every_append xs ys, all, more)

-- a test of each, pushed through what joins lists and what chooses between them; where both choices pass, no choice is left
pub ruleset every_through = (every_append, every-if)

pub ruleset every_pushed = (every_through, if-same)

-- where each passes one test, none passes another that goes against it
pub every_none : {A : Type 0} (test against : A → Bool) → ((x : A) → test x ≡ true → against x ≡ false)
    → (xs : List A) → every test xs ≡ true → some against xs ≡ false
every_none test against apart [] all = refl
every_none test against apart (x ∷ xs) all =
    rw (
      apart x (and_left (test x) (every test xs) all),
      every_none test against apart xs (and_right (test x) (every test xs) all),
    )

-- Tables of numbers --------------------------------------------------------------------------------------------------------

-- the proofs of a table's rows, one after the other
infixr 15 ◌and◌
abbrev pub ◌and◌ : {A B : Type 0} → A → B → A × B
a and b = (a, b)

-- P holds of each row, of its number and what stands after it
abbrev pub EachRow : {A : Type 0} → (ℕ → A → Type 0) → List (ℕ × A) → Type 0
EachRow P [] = Unit {0}
EachRow P (row ∷ rows) = P row.0 row.1 × EachRow P rows

-- what holds of each row and of `other` holds of what is selected
pub select_holds : {A : Type 0} (P : ℕ → A → Type 0) (n : ℕ) (rows : List (ℕ × A)) (other : A)
    → EachRow P rows → P n other → P n (select n rows other)
select_holds P n [] other each rest = rest
select_holds P n (row ∷ rows) other each rest =
    chosen (P n) (eqb n row.0) row.1 (select n rows other) (λ e. rw (eqb-true n row.0 e) each.0)
    (select_holds P n rows other each.1 rest)

-- what is selected, unless it is `other`, has a number that passes what all the numbers of the table pass
pub select_listed : {A : Type 0} (test : ℕ → Bool) (n : ℕ) (rows : List (ℕ × A)) (other found : A)
    → every (λ row. test row.0) rows ≡ true → (other ≡ found → ⊥) → select n rows other ≡ found → test n ≡ true
select_listed test n [] other found all none = λ e. absurd (none e)
select_listed {A} test n (row ∷ rows) other found all none =
    chosen (λ (a : A). a ≡ found → test n ≡ true) (eqb n row.0) row.1 (select n rows other)
    (λ t _. rw (eqb-true n row.0 t) (and_left (test row.0) (every (λ r. test r.0) rows) all))
    (select_listed test n rows other found (and_right (test row.0) (every (λ r. test r.0) rows) all) none)

-- Kinds and their numbers ----------------------------------------------------------------------------------------------------

-- what holds of each thing that has the number n, and of `unknown`, holds of what is found
pub numbered_holds : {A B : Type 0} (P : B → Type 0) (number : A → ℕ) (found : A → B) (unknown : B) (xs : List A) (n : ℕ)
    → ((x : A) → number x ≡ n → P (found x)) → P unknown → P (numbered number found unknown xs n)
numbered_holds P number found unknown [] n each rest = rest
numbered_holds P number found unknown (x ∷ xs) n each rest =
    chosen P (eqb n (number x)) (found x) (numbered number found unknown xs n) (λ e. each x (rw (eqb-true n (number x) e)))
    (numbered_holds P number found unknown xs n each rest)

-- the same of a test that all the listed pass
pub numbered-every : {A B : Type 0} (P : B → Type 0) (test : A → Bool) (number : A → ℕ) (found : A → B) (unknown : B)
    (xs : List A) (n : ℕ) → every test xs ≡ true → ((x : A) → test x ≡ true → P (found x)) → P unknown → P (numbered number found unknown xs n)
numbered-every P test number found unknown [] n all each rest = rest
numbered-every P test number found unknown (x ∷ xs) n all each rest =
    chosen P (eqb n (number x)) (found x) (numbered number found unknown xs n) (λ _. each x (and_left (test x) (every test xs) all))
    (numbered-every P test number found unknown xs n (and_right (test x) (every test xs) all) each rest)

-- a kind of which each member is read back from its number
pub record Kind {A B : Type 0} (number : A → ℕ) (found : A → B) (unknown : B) (xs : List A) : Type 0 where
  pub same : (x y : A) → found x ≡ found y → x ≡ y
  pub apart : (x : A) → unknown ≡ found x → true ≡ false
  pub back : (x : A) → numbered number found unknown xs (number x) ≡ found x

module _ {A B : Type 0} {number : A → ℕ} {found : A → B} {unknown : B} {xs : List A} (kind : Kind number found unknown xs) where
  -- what all the listed pass, every member passes: the list leaves none out
  pub kind_every : (test : A → Bool) → every test xs ≡ true → (x : A) → test x ≡ true
  kind_every test all x =
      numbered-every (λ (b : B). b ≡ found x → test x ≡ true) test number found unknown xs (number x) all
      (λ y e same. rw (← kind.same y x same) e)
      (λ none. absurd (true≢false (kind.apart x none)))
      (kind.back x)

  -- a bound of the listed numbers, computed, bounds them all
  pub kind_below : (bound : ℕ) → every (λ x. ltb (number x) bound) xs ≡ true → (x : A) → number x < bound
  kind_below bound all x = ltb-true (number x) bound (kind_every (λ y. ltb (number y) bound) all x)

  -- two that have one number are one: what is compared by numbers is compared as itself
  pub kind_alike : (x y : A) → eqb (number x) (number y) ≡ true → x ≡ y
  kind_alike x y e =
      kind.same x y (sym (kind.back x) ∙ ap (numbered number found unknown xs) (eqb-true (number x) (number y) e) ∙ kind.back y)
