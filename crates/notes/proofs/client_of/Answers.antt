-- The content of the one that was noted.
use Rattle.std.proofs.Common.{◌∙◌, refl}
use Rattle.notes.proofs.Laws.{noted-within, noted_one, noted_other}
use Rattle.notes.proofs.client_of.Goals as goal

pub returns-then-x-ne1 : goal.returns-then-x-ne1
returns-then-x-ne1 c = noted_other c.args.msg.now c.args.x c.requires c.if-x-ne1.true

pub content-requires : goal.content-requires
content-requires c = noted-within c.args.msg.now c.args.x c.requires

pub returns : goal.returns
returns c = c.content.ensures ∙ noted_one c.args.msg.now c.args.x c.requires c.if-x-ne1.false refl
