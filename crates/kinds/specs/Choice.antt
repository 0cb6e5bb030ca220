-- How the definitions choose: by a test, and by a number that a table lists; and tests of whole lists. Nothing here is of the paper.
-- Assumes nothing.
use Rattle.std.specs.Prelude.{ℕ, ◌+◌, Bool, true, false, not, ◌&&◌, ◌||◌, List, [], ◌∷◌, eqb, if◌then◌else◌}

infixr 25 ◌⇒◌
-- the second holds wherever the first does
abbrev pub ◌⇒◌ : Bool → Bool → Bool
a ⇒ b = not a || b

-- a test that is made only where another passes
abbrev pub when : Bool → (Unit {0} → Bool) → Bool
when false test = true
when true test = test tt

-- a test that each thing of a list passes
abbrev pub every : {A : Type 0} → (A → Bool) → List A → Bool
every test [] = true
every test (x ∷ xs) = test x && every test xs

-- a test that some thing of a list passes
abbrev pub some : {A : Type 0} → (A → Bool) → List A → Bool
some test [] = false
some test (x ∷ xs) = test x || some test xs

-- how many stand in a list before the first that passes
abbrev pub place : {A : Type 0} → (A → Bool) → List A → ℕ
place test [] = 0
place test (x ∷ xs) = if test x then 0 else place test xs + 1

-- what `found` says of the first thing of a list whose number is n, or `unknown`
abbrev pub numbered : {A B : Type 0} → (A → ℕ) → (A → B) → B → List A → ℕ → B
numbered number found unknown [] n = unknown
numbered number found unknown (x ∷ xs) n = if eqb n (number x) then found x else numbered number found unknown xs n

-- what stands after n in a table of numbers, or `other`
abbrev pub select : {A : Type 0} → ℕ → List (ℕ × A) → A → A
select n [] other = other
select n (row ∷ rows) other = if eqb n row.0 then row.1 else select n rows other
