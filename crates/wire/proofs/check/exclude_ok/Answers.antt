use Rattle.std.proofs.Common.{◌∙◌, arith, le-ltb}
use borrow.Author.Rules.{rules}
use Rattle.wire.proofs.Laws.{tail-ok}
use Rattle.wire.proofs.check.exclude_ok.Goals as goal

-- The content after its first byte is a part of the message.
pub returns-then-o-eq0 : goal.returns-then-o-eq0
returns-then-o-eq0 c = simp (le-ltb 0 c.args.o.len (omega arith))

pub returns : goal.returns
returns c = c.content_ok.ensures ∙ tail-ok c.args.msg.now c.args.a c.args.o.start c.args.o.len (search rules) c.u8_at-b.ensures.0
