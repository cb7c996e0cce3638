use Rattle.choose.proofs.Laws.{walks, by-walk}
use Rattle.choose.proofs.chooser.Chooser.shortest_from.Goals as goal

pub shortest_from-requires : goal.shortest_from-requires
shortest_from-requires c = (walks c.args.self, c.requires)

pub returns : goal.returns
returns c = by-walk c.args.self _ _ c.shortest_from.ensures
