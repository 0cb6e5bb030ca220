-- `Buffer::add`: what the copy took had room, and stands after what was taken.
use Rattle.std.proofs.Common.{sym, ◌∙◌}
use Rattle.terminal.proofs.BufferLaws.{fits-room, room-within, taken-with, taken-without}
use Rattle.terminal.proofs.buffer.Buffer.add.Goals as goal

pub invariant_of-self : goal.invariant_of-self
invariant_of-self g c = room-within _ _ _ _ _ _ _ c.copy.ensures c.self.invariant c.self.told c.self.view_is c.if-copy.true

pub returns-then-copy-clause-room : goal.returns-then-copy-clause-room
returns-then-copy-clause-room g c = sym c.if-copy.true ∙ fits-room _ _ _ _ _ _ _ c.copy.ensures c.self.invariant c.self.told c.self.view_is

pub returns-then-copy-clause-taken : goal.returns-then-copy-clause-taken
returns-then-copy-clause-taken g c = taken-with _ _ _ _ _ _ _ c.copy.ensures c.self.invariant c.self.told c.self.view_is c.if-copy.true

pub returns-clause-room : goal.returns-clause-room
returns-clause-room g c = sym c.if-copy.false ∙ fits-room _ _ _ _ _ _ _ c.copy.ensures c.self.invariant c.self.told c.self.view_is

pub returns-clause-taken : goal.returns-clause-taken
returns-clause-taken g c = taken-without _ _ _ _ _ _ _ c.copy.ensures c.self.invariant c.self.told c.self.view_is c.if-copy.false
