-- `varied`: the state stays below what it is divided by.
use Rattle.std.proofs.Common.{◌<◌}
use Rattle.frame_check_vectors.proofs.varied.Given as goal

abbrev pub invariant-loop-byte : goal.invariant-loop-byte
invariant-loop-byte l = l.state < 65537
