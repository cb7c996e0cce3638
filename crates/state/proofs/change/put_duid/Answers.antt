-- `put_duid`: its length, and its bytes with zeros behind them.
use borrow.Author.Rules.{rules}
use Rattle.laws.specs.RouterChange.{duid-written}
use Rattle.state.proofs.change.put_duid.Goals as goal

pub returns : goal.returns
returns c = duid-written _ _ _ (search rules) c.put.ensures c.put_filled.ensures
