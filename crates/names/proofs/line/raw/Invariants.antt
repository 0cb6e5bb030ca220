-- `raw`: the bytes so far are those of their digits.
use Rattle.std.proofs.Common.{ℕ, ◌<◌, ◌≡◌, Some, length, get_or}
use Rattle.names.specs.Text.{first_word}
use Rattle.names.specs.Line.{byte_at}
use Rattle.names.proofs.line.raw.Given as goal

abbrev pub invariant-loop-k : goal.invariant-loop-k
invariant-loop-k l = record {
  whole : length l.byte-items ≡ 12;
  read : (j : ℕ) → j < l.k → byte_at (first_word l.text) j ≡ Some (get_or l.byte-items j 0);
}
