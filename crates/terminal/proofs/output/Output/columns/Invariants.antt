-- `columns`: an output that has failed stays as it is, and any keeps its stream.
use Rattle.std.proofs.Common.{◌≡◌, true}
use Rattle.terminal.proofs.output.Output.columns.Given as goal

abbrev pub invariant-loop-n : goal.invariant-loop-n
invariant-loop-n l = record {
  stays_failed : l.fn.self.failed ≡ true → l.self ≡ l.fn.self;
  stream : l.self.to ≡ l.fn.self.to;
}
