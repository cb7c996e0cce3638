use Rattle.std.proofs.Common.{ap, not}
use Rattle.requester.proofs.Acting.{start-10, start-short, start-1, start-0}
use Rattle.requester.proofs.opening.start.Goals as goal

-- Each test in turn, then the fresh state.
pub returns-then-not-duid-wanted-clause-word : goal.returns-then-not-duid-wanted-clause-word
returns-then-not-duid-wanted-clause-word c = start-10 _ _ _ _ _ c.ranges.iaid.fits (ap not c.if-not-duid-wanted.true)

pub returns-then-time-ge281474976710656-clause-word : goal.returns-then-time-ge281474976710656-clause-word
returns-then-time-ge281474976710656-clause-word c = start-1 _ _ _ _ _ c.ranges.iaid.fits (ap not c.if-not-duid-wanted.false) c.if-time-ge281474976710656.true

pub start-requires : goal.start-requires
start-requires c = start-short c.args.duid.now c.args.wanted (ap not c.if-not-duid-wanted.false)

pub returns-clause-word : goal.returns-clause-word
returns-clause-word c = start-0 _ _ _ _ _ c.ranges.iaid.fits (ap not c.if-not-duid-wanted.false) c.if-time-ge281474976710656.false c.start.ensures
