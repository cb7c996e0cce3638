use Rattle.choose.proofs.Laws.{by-place}
use Rattle.choose.proofs.chooser.Chooser.is_place.Goals as goal

pub returns : goal.returns
returns c = by-place c.args.self _ c.is_place.ensures
