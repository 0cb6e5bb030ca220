-- `write_whole`: less is left each time.
use Rattle.std.proofs.Common.{length}
use Rattle.terminal.proofs.stream.Stream.write_whole.Given as goal

abbrev pub decreases-loop-rest : goal.decreases-loop-rest
decreases-loop-rest l = length l.rest
