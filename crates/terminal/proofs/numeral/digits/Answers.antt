-- `digits`: a turn more, and the three ends.
use Rattle.std.proofs.Common.{sym, ◌∙◌}
use Rattle.terminal.proofs.NumeralLaws.{turn, stopped, ends_large, ends_small}
use Rattle.terminal.proofs.numeral.digits.Goals as goal

pub returns-in_default : goal.returns-in_default
returns-in_default c = stopped _ _ _ _ _ c.loop-b.invariant.same c.loop-b-test.true (sym c.in_default.is ∙ c.digit.ensures.value)

pub loop-b-preserved : goal.loop-b-preserved
loop-b-preserved c = record {
  bounded = c.with_digit-value.ensures.upper_bound;
  same =
      let is = sym c.in-Some.is ∙ c.digit.ensures.value in
      turn _ _ _ _ _ c.loop-b.invariant.same c.loop-b-test.true _ _ is c.with_digit-value.ensures.value;
}

pub returns-then-value-eq-ABOVE : goal.returns-then-value-eq-ABOVE
returns-then-value-eq-ABOVE c = ends_large _ _ _ _ _ c.loop-b.invariant.same c.loop-b-test.false c.if-value-eq-ABOVE.true

pub returns : goal.returns
returns c = ends_small _ _ _ _ _ c.loop-b.invariant.same c.loop-b-test.false c.if-value-eq-ABOVE.false
