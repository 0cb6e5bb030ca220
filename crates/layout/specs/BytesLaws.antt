-- Laws of numbers in bytes: their lengths; a number of four bytes is read back where it was written, and the bytes of the number that
-- is read are those that stand there (of two bytes see proofs/WrittenLaws); a read sees its own bytes and no others. Assumes nothing.
use Rattle.std.specs.Prelude.{ℕ, ◌+◌, ◌*◌, ◌/◌, ◌%◌, ◌^◌, ◌<◌, ◌≤◌, List, [], ◌∷◌, ◌++◌, ◌≡◌, refl, length, get_or, take, drop}
use Rattle.std.specs.Int.{w16, w32, from_be_bytes}
use Rattle.std.proofs.Common.{append_assoc, ap₂, sym, ◌∙◌, add-zero, add_assoc, mod-eq_of_lt, arith, get_or-drop, get_or-take}
use Rattle.std.proofs.Math.ListN.{get_or-append}
use Rattle.std.proofs.Math.Seq.{drop-append_seam, take_all}
use borrow.Rule.Slice.PartMut.{put_mid}
use Rattle.std.proofs.lemmas.Slice.{put_mid-paste}
use Rattle.std.proofs.lemmas.List.Edits.{sets, sets-eq}
use Rattle.layout.specs.Bytes.{AreBytes, join2, join4, u16_at, u32_at, two, four}

-- Lengths --------------------------------------------------------------------------------------------------------------------

pub two-length : (n : ℕ) → length (two n) ≡ 2
unfolding two
two-length n = refl

pub four-length : (n : ℕ) → length (four n) ≡ 4
unfolding four
four-length n = refl

-- Std's numbers of bytes -----------------------------------------------------------------------------------------------------

-- what std makes of the bytes that stand at a place is the number that is read there
pub u16_read : (s b : List ℕ) (at n : ℕ) → b ≡ take 2 (drop at s) → n ≡ from_be_bytes w16 b → n ≡ u16_at s at
unfolding u16_at
u16_read s b at n e f =
    f
    ∙ rw (e, get_or-take 2 (drop at s) 0 0 (omega arith), get_or-take 2 (drop at s) 1 0 (omega arith), get_or-drop at s 0 0, get_or-drop at s 1 0, add-zero at) refl

pub u32_read : (s b : List ℕ) (at n : ℕ) → b ≡ take 4 (drop at s) → n ≡ from_be_bytes w32 b → n ≡ u32_at s at
unfolding u32_at
u32_read s b at n e f =
    f
    ∙ rw (
      e,
      get_or-take 4 (drop at s) 0 0 (omega arith),
      get_or-take 4 (drop at s) 1 0 (omega arith),
      get_or-take 4 (drop at s) 2 0 (omega arith),
      get_or-take 4 (drop at s) 3 0 (omega arith),
      get_or-drop at s 0 0,
      get_or-drop at s 1 0,
      get_or-drop at s 2 0,
      get_or-drop at s 3 0,
      add-zero at,
    )
    (omega arith)

pub join2_std : (a b : ℕ) → from_be_bytes w16 (a ∷ b ∷ []) ≡ join2 a b
join2_std a b = refl

pub join4_std : (a b c d : ℕ) → from_be_bytes w32 (a ∷ b ∷ c ∷ d ∷ []) ≡ join4 a b c d
join4_std a b c d = omega arith

-- Numbers and their bytes ----------------------------------------------------------------------------------------------------

pub two_joined : (n : ℕ) → n < 2 ^ 16 → join2 (n / 256 % 256) (n % 256) ≡ n
two_joined n h = omega arith

join4_halves : (a b c d : ℕ) → join4 a b c d ≡ join2 a b * 65536 + join2 c d
join4_halves a b c d = omega arith

high_half : (n : ℕ) → n < 2 ^ 32 → join2 (n / 16777216 % 256) (n / 65536 % 256) ≡ n / 65536
high_half n h = omega arith

low_half : (n : ℕ) → join2 (n / 256 % 256) (n % 256) ≡ n % 65536
low_half n = omega arith

halves_joined : (n : ℕ) → n / 65536 * 65536 + n % 65536 ≡ n
halves_joined n = omega arith

pub four_joined : (n : ℕ) → n < 2 ^ 32 → join4 (n / 16777216 % 256) (n / 65536 % 256) (n / 256 % 256) (n % 256) ≡ n
four_joined n h =
    join4_halves (n / 16777216 % 256) (n / 65536 % 256) (n / 256 % 256) (n % 256)
    ∙ rw (high_half n h, low_half n) (halves_joined n)

-- the last byte of a number, and what is left without it
pub last_byte : (n b : ℕ) → b < 256 → (n * 256 + b) % 256 ≡ b
last_byte n b h = omega arith

pub without_last : (n b : ℕ) → b < 256 → (n * 256 + b) / 256 ≡ n
without_last n b h = omega arith

without_two : (n : ℕ) → n / 65536 ≡ n / 256 / 256
without_two n = omega arith

without_three : (n : ℕ) → n / 16777216 ≡ n / 256 / 256 / 256
without_three n = omega arith

pub join4-bytes : (a b c d : ℕ) → a < 256 → b < 256 → c < 256 → d < 256 → four (join4 a b c d) ≡ a ∷ b ∷ c ∷ d ∷ []
unfolding four
join4-bytes a b c d ha hb hc hd =
    rw (
      without_three (join4 a b c d),
      without_two (join4 a b c d),
      without_last ((a * 256 + b) * 256 + c) d hd,
      without_last (a * 256 + b) c hc,
      without_last a b hb,
      last_byte ((a * 256 + b) * 256 + c) d hd,
      last_byte (a * 256 + b) c hc,
      last_byte a b hb,
      mod-eq_of_lt ha,
    )

-- What a read sees -----------------------------------------------------------------------------------------------------------

pub bytes_dropped : (s : List ℕ) (n : ℕ) → AreBytes s → AreBytes (drop n s)
bytes_dropped s n bytes i = rw (get_or-drop n s i 0) (bytes (n + i))

-- a read sees only what stands from its place on
pub u16_dropped : (s : List ℕ) (n i : ℕ) → u16_at (drop n s) i ≡ u16_at s (n + i)
unfolding u16_at
u16_dropped s n i = rw (get_or-drop n s i 0, get_or-drop n s (i + 1) 0, add_assoc n i 1)

pub u32_dropped : (s : List ℕ) (n i : ℕ) → u32_at (drop n s) i ≡ u32_at s (n + i)
unfolding u32_at
u32_dropped s n i =
    rw (
      get_or-drop n s i 0,
      get_or-drop n s (i + 1) 0,
      get_or-drop n s (i + 2) 0,
      get_or-drop n s (i + 3) 0,
      add_assoc n i 1,
      add_assoc n i 2,
      add_assoc n i 3,
    )

-- after a string that is put in front, all is read as before
pub u16_after : (pre s : List ℕ) (i : ℕ) → u16_at (pre ++ s) (length pre + i) ≡ u16_at s i
u16_after pre s i = rw (← u16_dropped (pre ++ s) (length pre) i, drop-append_seam pre s)

pub u32_after : (pre s : List ℕ) (i : ℕ) → u32_at (pre ++ s) (length pre + i) ≡ u32_at s i
u32_after pre s i = rw (← u32_dropped (pre ++ s) (length pre) i, drop-append_seam pre s)

-- before a string that is put after it, too
pub u16_front : (a b : List ℕ) (i : ℕ) → i + 2 ≤ length a → u16_at (a ++ b) i ≡ u16_at a i
unfolding u16_at
u16_front a b i room =
    ap₂ join2 (get_or-append a b 0 i (omega arith)) (get_or-append a b 0 (i + 1) (omega arith))

pub u32_front : (a b : List ℕ) (i : ℕ) → i + 4 ≤ length a → u32_at (a ++ b) i ≡ u32_at a i
unfolding u32_at
u32_front a b i room =
    rw (
      get_or-append a b 0 i (omega arith),
      get_or-append a b 0 (i + 1) (omega arith),
      get_or-append a b 0 (i + 2) (omega arith),
      get_or-append a b 0 (i + 3) (omega arith),
    )

-- What is written is read ----------------------------------------------------------------------------------------------------

four_read_front : (post : List ℕ) (n : ℕ) → n < 2 ^ 32 → u32_at (four n ++ post) 0 ≡ n
unfolding u32_at four
four_read_front post n fits = four_joined n fits

pub four_read : (pre post : List ℕ) (n : ℕ) → n < 2 ^ 32 → u32_at (pre ++ four n ++ post) (length pre) ≡ n
four_read pre post n fits =
    rw (append_assoc pre (four n) post, ← add-zero (length pre), u32_after pre (four n ++ post) 0) (four_read_front post n fits)

-- What is read is what stands there ------------------------------------------------------------------------------------------

module _ (s : List ℕ) (i : ℕ) (bytes : AreBytes s) where
  pub four_written : four (u32_at s i) ≡ get_or s i 0 ∷ get_or s (i + 1) 0 ∷ get_or s (i + 2) 0 ∷ get_or s (i + 3) 0 ∷ []
  unfolding u32_at
  four_written =
      join4-bytes (get_or s i 0) (get_or s (i + 1) 0) (get_or s (i + 2) 0) (get_or s (i + 3) 0)
      (bytes i) (bytes (i + 1)) (bytes (i + 2)) (bytes (i + 3))

  pub u32_fits : u32_at s i < 2 ^ 32
  unfolding u32_at
  u32_fits = omega (arith, bytes i, bytes (i + 1), bytes (i + 2), bytes (i + 3))

-- Bytes written over a part -------------------------------------------------------------------------------------------------

-- bytes that are written over a part of their length are stored from its place on
pub part_stored : (l part vs : List ℕ) (at k : ℕ) → part ≡ vs → k ≡ length vs → at + k ≤ length l → put_mid at k l part ≡ sets l at vs
part_stored l part vs at k e long room =
    put_mid-paste at k l part vs k e refl long
    ∙ rw (take_all k vs (omega (arith, long)), long) (sym (sets-eq vs l at (omega (arith, long))))
