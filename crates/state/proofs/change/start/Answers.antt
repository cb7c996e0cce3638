-- `start` writes a fresh state, field by field.
use borrow.Author.Rules.{rules}
use Rattle.laws.specs.RouterChange.{start-made}
use Rattle.state.proofs.change.start.Goals as goal

pub returns : goal.returns
returns c = start-made _ _ _ _ _ (search rules) c.requires c.clear.ensures c.stamp.ensures c.put.ensures c.put-2.ensures c.put_duid.ensures
