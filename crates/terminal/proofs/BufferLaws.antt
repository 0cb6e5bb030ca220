-- A text that is put after what is taken: what the copy's answer says of the room, and what is taken then. Assumes nothing.
use Rattle.std.proofs.Common.{ℕ, ◌+◌, ◌≤◌, ◌≡◌, refl, ◌∙◌, sym, ap, Bool, true, false, List, ◌++◌, length, take, arith}
use Rattle.std.specs.Prelude.{leb, if◌then◌else◌}
use Rattle.std.proofs.lemmas.List.{length-take-le}
use Rattle.std.proofs.Math.Seq.{take-length}
use Rattle.std.proofs.lemmas.List.Edits.{take-paste}
use borrow.Author.Tests.{leb-true, le-leb}
use Rattle.copy.specs.Copy.{has_room, copied}
use Rattle.copy.specs.CopyLaws.{Copies, copied_room}

module _ (s bytes after view : List ℕ) (at n : ℕ) (fits : Bool) (copies : Copies s (length s) bytes at fits after) (within : at ≤ n)
    (long : length bytes ≡ n) (seen : take at bytes ≡ view) where
  seen-length : length view ≡ at
  seen-length = ap length (sym seen) ∙ length-take-le at bytes (omega arith)

  pub fits-room : fits ≡ leb (length view + length s) n
  unfolding has_room
  fits-room = rw (seen-length, sym long) (copies.0 ∙ rw (le-leb (length s) (length s) (omega arith)) refl)

  pub room-within : fits ≡ true → at + length s ≤ n
  room-within went = let room = leb-true (length view + length s) n (sym fits-room ∙ went) in omega (arith, seen-length)

  pub taken-with : fits ≡ true → take (at + length s) after ≡ (if leb (length view + length s) n then view ++ s else view)
  taken-with went =
      let room = room-within went in
      let pasted = (copied_room s (length s) bytes at (omega arith) (omega arith)).1 in
      let both = take-paste bytes at s (length s) (omega arith) (omega arith) in
      let first = ap (λ v. v ++ take (length s) s) seen in
      let second = ap (λ t. view ++ t) (take-length s) in
      rw (sym fits-room, went) (ap (take (at + length s)) (copies.1 ∙ sym pasted) ∙ (both ∙ (first ∙ second)))

  pub taken-without : fits ≡ false → take at after ≡ (if leb (length view + length s) n then view ++ s else view)
  unfolding copied
  taken-without refused =
      rw (sym fits-room, refused) (ap (take at) (rw (sym copies.0, refused, copied) at copies.1) ∙ seen)
