-- `copy`: each way out is what `has_room` says there, and a turn more is a byte more.
use Rattle.std.proofs.Common.{◌≡◌, ◌∙◌, ap, arith}
use Rattle.std.proofs.Math.Seq.{paste}
use Rattle.copy.specs.CopyLaws.{copied_room, copied_short, copied_narrow, copied_turn_at}
use Rattle.copy.proofs.copy.Goals as goal

pub returns-then-from-long : goal.returns-then-from-long
returns-then-from-long c = copied_short _ _ _ _ (omega arith)

pub returns-then-to-long : goal.returns-then-to-long
returns-then-to-long c = copied_narrow _ _ _ _ (omega arith) (omega arith)

pub returns-then-to-long-2 : goal.returns-then-to-long-2
returns-then-to-long-2 c = copied_narrow _ _ _ _ (omega arith) (omega arith)

pub loop-i-preserved : goal.loop-i-preserved
loop-i-preserved c =
    copied_turn_at c.args.to.now c.args.from.now c.loop-i.to c.args.at c.loop-i.i _ _ (omega arith) (omega arith) (omega arith) (omega arith)
    c.loop-i.invariant

pub returns : goal.returns
returns c =
    let room = copied_room c.args.from.now c.args.long c.args.to.now c.args.at (omega arith) (omega arith) in
    let last : c.loop-i.i ≡ c.args.long = omega arith in
    (room.0, c.loop-i.invariant ∙ ap (paste c.args.to.now c.args.at c.args.from.now) last ∙ room.1)
