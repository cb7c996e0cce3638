-- The head and the three numbers, the prefixes, the status.
use borrow.Author.Rules.{rules}
use Rattle.print.proofs.Laws.{ia-size}
use Rattle.print.proofs.size.pd_size.Goals as goal

pub returns : goal.returns
returns c = let e = ia-size c.args.d in search rules
