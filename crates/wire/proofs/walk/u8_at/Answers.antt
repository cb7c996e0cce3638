-- The byte at a place: past the end it is 0.
use Rattle.std.proofs.Common.{sym}
use Rattle.std.proofs.Math.ListN.{get_or-eq_default}
use borrow.Author.Rules.{rules}
use Rattle.wire.proofs.walk.u8_at.Goals as goal

pub returns : goal.returns
returns c = (sym (get_or-eq_default c.args.msg.now 0 c.if-at-msg.false), search rules)
