-- Numbers of two and four bytes, most significant byte first: read at a place of a string, and written.
-- Past the end of a string stand zeros. Assumes nothing.
use Rattle.std.specs.Prelude.{ℕ, ◌+◌, ◌*◌, ◌/◌, ◌%◌, ◌<◌, List, [], ◌∷◌, get_or}

-- a string of bytes: what stands at each place is below 256, and so are the zeros past the end
abbrev pub AreBytes : List ℕ → Type 0
AreBytes s = (i : ℕ) → get_or s i 0 < 256

abbrev pub join2 : ℕ → ℕ → ℕ
join2 a b = a * 256 + b

abbrev pub join4 : ℕ → ℕ → ℕ → ℕ → ℕ
join4 a b c d = ((a * 256 + b) * 256 + c) * 256 + d

unfoldable pub u16_at : List ℕ → ℕ → ℕ
u16_at s i = join2 (get_or s i 0) (get_or s (i + 1) 0)

unfoldable pub u32_at : List ℕ → ℕ → ℕ
u32_at s i = join4 (get_or s i 0) (get_or s (i + 1) 0) (get_or s (i + 2) 0) (get_or s (i + 3) 0)

unfoldable pub two : ℕ → List ℕ
two n = n / 256 % 256 ∷ n % 256 ∷ []

unfoldable pub four : ℕ → List ℕ
four n = n / 16777216 % 256 ∷ n / 65536 % 256 ∷ n / 256 % 256 ∷ n % 256 ∷ []
