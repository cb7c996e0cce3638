-- The content of the one Server ID, or nothing.
use Rattle.std.proofs.Common.{◌∙◌, ap, sym}
use Rattle.rules.specs.Options.{content}
use Rattle.receiving.proofs.Laws.{only-within, server-kept, told}
use Rattle.receiving.proofs.server_after.Goals as goal

pub returns-then-kind : goal.returns-then-kind
returns-then-kind c = server-kept c.args.kind c.args.msg.now c.if-kind.true

pub content-requires : goal.content-requires
content-requires c = only-within 2 c.args.msg.now _ c.only.ensures

pub returns : goal.returns
returns c = c.content.ensures ∙ ap (content c.args.msg.now) c.only.ensures ∙ sym (told c.args.kind c.args.msg.now c.if-kind.false)
