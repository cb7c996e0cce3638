use Rattle.std.proofs.Common.{rules, Fits, w64}
use Rattle.choose.proofs.Laws.{none_left, unasked, asked, other}
use Rattle.choose.proofs.choose.Goals as goal

-- `choose`: a full table, no hint, a hint that is a place, another hint.
pub returns-then-c-ge256 : goal.returns-then-c-ge256
returns-then-c-ge256 c = none_left c.args.c _ c.if-c-ge256.true

pub returns-in_default : goal.returns-in_default
returns-in_default c = rw c.in_default.is (unasked c.args.c c.if-c-ge256.false c.shortest_from.ensures)

pub returns-then-is_place : goal.returns-then-is_place
returns-then-is_place c = let f : Fits w64 c.in-Some.h.low = search rules in rw c.in-Some.is (asked c.args.c c.if-c-ge256.false c.in-Some.h c.is_place.ensures f.fits c.if-is_place.true)

pub returns : goal.returns
returns c = rw c.in-Some.is (other c.args.c c.if-c-ge256.false c.in-Some.h c.is_place.ensures c.if-is_place.false c.wanted.ensures c.shortest_from-2.ensures)
