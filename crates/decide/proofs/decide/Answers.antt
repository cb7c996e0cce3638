use Rattle.std.proofs.Common.{arith}
use Rattle.decide.proofs.Laws.{size, few, found, found-there, missing}
use Rattle.decide.proofs.decide.Goals as goal

pub count_of-requires : goal.count_of-requires
count_of-requires c = size _ c.requires.0

pub find-requires : goal.find-requires
find-requires c = (omega (arith, few _ c.requires.0), size _ c.requires.0)

pub bound-requires : goal.bound-requires
bound-requires c = (c.requires.0, c.requires.1, found-there _ _ _ c.count_of.ensures _ c.find.ensures c.in-Some.is, c.requires.2)

pub returns-in-Some : goal.returns-in-Some
returns-in-Some c = c.bound.ensures.decided _ _ (found _ _ _ c.count_of.ensures _ c.find.ensures c.in-Some.is)

pub returns-in-None : goal.returns-in-None
returns-in-None c = c.unbound.ensures.decided _ (missing _ _ _ c.count_of.ensures _ c.find.ensures c.in-None.is)
