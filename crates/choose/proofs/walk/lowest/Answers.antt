use Rattle.std.proofs.Common.{refl, arith}
use Rattle.choose.proofs.Laws.{start, untaken, taken, full, on, less}
use Rattle.choose.proofs.walk.lowest.Goals as goal

pub last_place-last-requires : goal.last_place-last-requires
last_place-last-requires c = (omega arith, omega arith, omega arith, c.requires.0.zeros)

pub loop-i-init : goal.loop-i-init
loop-i-init c = start c.requires

pub returns-in-None : goal.returns-in-None
returns-in-None c = untaken c.requires c.last_place-last.ensures c.loop-i.invariant refl _ c.first_hit.ensures c.in-None.is

pub past-k-requires : goal.past-k-requires
past-k-requires c = let h = taken c.requires c.last_place-last.ensures c.loop-i.invariant refl _ c.first_hit.ensures c.in-Some.is in (omega arith, omega arith, omega arith, omega arith, h.1, h.2)

pub returns-then-last-k : goal.returns-then-last-k
returns-then-last-k c = full c.requires c.last_place-last.ensures c.loop-i.invariant refl _ c.first_hit.ensures c.in-Some.is c.past-k.ensures c.if-last-k.true

pub loop-i-smaller : goal.loop-i-smaller
loop-i-smaller c = less c.requires c.last_place-last.ensures c.loop-i.invariant refl _ c.first_hit.ensures c.in-Some.is c.past-k.ensures c.if-last-k.false

pub loop-i-preserved : goal.loop-i-preserved
loop-i-preserved c = on c.requires c.last_place-last.ensures c.loop-i.invariant refl _ c.first_hit.ensures c.in-Some.is c.past-k.ensures c.if-last-k.false
