-- The two bytes at a place: past the end both are 0.
use Rattle.std.proofs.Common.{sym}
use borrow.Author.Rules.{rules}
use Rattle.laws.specs.Steps.{u16-past}
use Rattle.wire.proofs.walk.u16_at.Goals as goal

pub returns : goal.returns
returns c = (sym (u16-past c.args.msg.now _ c.if-at-msg.false), search rules)
