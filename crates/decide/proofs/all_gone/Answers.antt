use Rattle.std.proofs.Common.{◌≡◌, arith, length}
use borrow.Author.Rules.{rules}
use Rattle.decide.proofs.Laws.{gone-is}
use Rattle.decide.proofs.all_gone.Goals as goal

pub returns : goal.returns
returns c = let five : length c.args.ps ≡ 5 = search rules in gone-is _ c.setup_of-s.result c.args.ps c.args.n c.setup_of-s.ensures (omega (arith, c.requires.1)) c.gone.ensures
