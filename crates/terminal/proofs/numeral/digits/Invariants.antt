-- `digits`: what is read and what is left say together what the word says.
use Rattle.std.proofs.Common.{◌≤◌, ◌≡◌, drop}
use Rattle.terminal.specs.Numeral.{read_on, digits_of}
use Rattle.terminal.proofs.numeral.digits.Given as goal

abbrev pub invariant-loop-b : goal.invariant-loop-b
invariant-loop-b l = record {
  bounded : l.value ≤ 4_294_967_296;
  same : read_on l.hex l.value (drop l.b-index l.word) ≡ digits_of l.word l.hex;
}
