use Rattle.heard.proofs.Laws.{only-noted, only-other-noted}
use Rattle.heard.proofs.one.Goals as goal

-- By the note.
pub returns-then-x-ne1 : goal.returns-then-x-ne1
returns-then-x-ne1 c = only-other-noted c.args.code c.args.msg.now c.args.x c.requires c.if-x-ne1.true

pub returns : goal.returns
returns c = only-noted c.args.code c.args.msg.now c.args.x c.requires c.if-x-ne1.false
