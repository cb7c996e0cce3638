-- `accept` writes what is held, and the server where one is given.
use Rattle.std.proofs.Common.{sym, ◌∙◌}
use borrow.Author.Tests.{eqb-true, eqb-false}
use Rattle.laws.specs.RouterChange.{accept-kept, accept-told}
use Rattle.state.proofs.change.accept.Goals as goal

pub returns-then-not-is_empty : goal.returns-then-not-is_empty
returns-then-not-is_empty c = λ o eh.
    accept-told _ c.requires.0 _ o eh c.args.server.now (eqb-false _ 0 (sym c.is_empty.ensures ∙ c.if-not-is_empty.true)) c.requires.1 c.copy.ensures c.finish.ensures c.put_duid.ensures

pub returns-else-not-is_empty : goal.returns-else-not-is_empty
returns-else-not-is_empty c = λ o eh.
    accept-kept _ c.requires.0 _ o eh c.args.server.now (eqb-true _ 0 (sym c.is_empty.ensures ∙ c.if-not-is_empty.false)) c.copy.ensures c.finish.ensures
