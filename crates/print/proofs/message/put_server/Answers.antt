use Rattle.std.proofs.Common.{sym}
use borrow.Author.Rules.{rules}
use Rattle.laws.specs.Writes.{wrote_nothing, wrote_as}
use Rattle.print.proofs.Laws.{server-yes, server-no}
use Rattle.print.proofs.message.put_server.Goals as goal

-- The Server ID, or nothing.
pub put_option-requires : goal.put_option-requires
put_option-requires c = (search rules, c.requires.0, rw (server-yes c.args.server.now c.if-has.true) at c.requires.1)

pub returns-then-has : goal.returns-then-has
returns-then-has c = wrote_as (sym (server-yes _ c.if-has.true)) c.put_option.ensures

pub returns : goal.returns
returns c = wrote_as (sym (server-no _ c.if-has.false)) wrote_nothing
