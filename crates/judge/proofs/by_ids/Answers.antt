-- Each test in turn.
use Rattle.std.proofs.Common.{ap, not}
use Rattle.judge.proofs.Laws.{ids-6, ids-asked}
use Rattle.judge.proofs.by_ids.Goals as goal

pub returns-then-not-row_holds : goal.returns-then-not-row_holds
returns-then-not-row_holds c = (ids-6 _ _ c.own_of.ensures c.row_holds.ensures (ap not c.if-not-row_holds.true), tt)

pub asked_pd-requires : goal.asked_pd-requires
asked_pd-requires c = (c.requires.1, c.requires.2.pd)

pub returns : goal.returns
returns c = ids-asked _ _ c.own_of.ensures c.row_holds.ensures (ap not c.if-not-row_holds.false) _ c.asked_pd.ensures c.ok_or.ensures.value
