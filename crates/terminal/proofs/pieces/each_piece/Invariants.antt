-- `each_piece`: after each turn nothing waits, unless a write has failed; and the turns are counted down.
use Rattle.std.proofs.Common.{◌≡◌, ◌<◌, [], false}
use Rattle.terminal.proofs.pieces.each_piece.Given as goal

abbrev pub invariant-loop-turns : goal.invariant-loop-turns
invariant-loop-turns g l = l.turns < 18_446_744_073_709_551_615 → l.out.failed ≡ false → l.out.waiting ≡ []

abbrev pub decreases-loop-turns : goal.decreases-loop-turns
decreases-loop-turns g l = l.turns
