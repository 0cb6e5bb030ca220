-- `shed`: the six records, one after the other.
use Rattle.draft.specs.DraftLaws.{emitting}
use Rattle.rules.proofs.instrument.shed.Goals as goal

pub returns : goal.returns
returns c =
    simp (
      c.emit-6.ensures,
      c.emit-5.ensures,
      c.emit-4.ensures,
      c.emit-3.ensures,
      c.emit-2.ensures,
      c.emit.ensures,
      emitting,
    )
