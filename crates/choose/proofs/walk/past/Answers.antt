-- `past`: the prefix is read in place.
use Rattle.std.proofs.Common.{sym, arith}
use Rattle.choose.proofs.Laws.{next_fits}
use Rattle.choose.proofs.walk.past.Goals as goal

pub last_place-requires : goal.last_place-requires
last_place-requires c = let e = sym c.area_at.ensures in (rw e at c.requires.5, omega arith, omega arith, rw e at c.requires.4)

pub overflow_add-result : goal.overflow_add-result
overflow_add-result c = record { fits = next_fits _ _ c.last_place.ensures.1 c.requires.3 }

pub returns : goal.returns
returns c = rw (← c.area_at.ensures, c.last_place.ensures.0)
