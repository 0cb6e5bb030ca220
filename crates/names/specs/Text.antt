-- The words of a text. A word is what stands between separators: spaces, tabs, commas, and the return that some systems put at the
-- end of a line. A name is compared in any case. Nothing here is of the paper.
-- Assumes nothing.
use Rattle.std.specs.Prelude.{ℕ, Bool, not, ◌||◌, ◌&&◌, ◌==◌, List, [], ◌∷◌, eqb, length, take, drop, take_while}
use Rattle.std.specs.List.{list_all, zip}
use Rattle.std.specs.Char.{to_ascii_uppercase}
use Prim.Native.Char.{code}
use Prim.Native.String.{String}
use Prim.Native.String.{[] as empty, ◌∷◌ as ◌before◌}

-- a quoted text as its bytes
abbrev pub bytes : String → List ℕ
bytes empty = []
bytes (c before cs) = code c ∷ bytes cs

abbrev pub is_separator : ℕ → Bool
is_separator b = eqb b (code " ") || eqb b (code "\t") || eqb b (code "\r") || eqb b (code ",")

-- how long the word at the start of a text is, and how many separators a text begins with
abbrev pub word_length : List ℕ → ℕ
word_length t = length (take_while (λ b. not (is_separator b)) t)

abbrev pub gap_length : List ℕ → ℕ
gap_length t = length (take_while is_separator t)

unfoldable pub first_word : List ℕ → List ℕ
first_word t = take (word_length t) t

unfoldable pub after_separators : List ℕ → List ℕ
after_separators t = drop (gap_length t) t

-- what stands after the first word and the separators that end it
unfoldable pub after_word : List ℕ → List ℕ
after_word t = after_separators (drop (word_length t) t)

-- whether a word is a name, in any case: each of its letters, and no more
abbrev pub same_letter : ℕ × ℕ → Bool
same_letter pair = to_ascii_uppercase pair.0 == pair.1

unfoldable pub same_word : List ℕ → List ℕ → Bool
same_word w name = length w == length name && list_all same_letter (zip w name)
