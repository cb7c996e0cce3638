use Rattle.sound.proofs.Laws.{duid-short, duid-long, duid-between}
use Rattle.sound.proofs.good_duid.Goals as goal

pub returns-then-n-lt3 : goal.returns-then-n-lt3
returns-then-n-lt3 c = duid-short _ _ _ c.if-n-lt3.true

pub returns-then-n-gt130 : goal.returns-then-n-gt130
returns-then-n-gt130 c = duid-long _ _ _ c.if-n-lt3.false c.if-n-gt130.true

pub returns : goal.returns
returns c = duid-between _ _ _ c.if-n-lt3.false c.if-n-gt130.false c.few_zero.ensures
