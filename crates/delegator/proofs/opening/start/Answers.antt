-- 10, then 1; else the whole array is written.
use Rattle.std.proofs.Common.{not, ap, sym, ◌∙◌}
use borrow.Author.Rules.{rules}
use Rattle.delegator.proofs.Laws.{pool-upper, own-few, start-10, start-1, start-0}
use Rattle.delegator.proofs.opening.start.Goals as goal

pub returns-then-not-good_settings-clause-word : goal.returns-then-not-good_settings-clause-word
returns-then-not-good_settings-clause-word c = start-10 _ _ _ c.good_settings.ensures (ap not c.if-not-good_settings.true)

pub returns-then-time-ge281474976710656-clause-word : goal.returns-then-time-ge281474976710656-clause-word
returns-then-time-ge281474976710656-clause-word c = start-1 _ _ _ c.good_settings.ensures (ap not c.if-not-good_settings.false) c.if-time-ge281474976710656.true

pub start-requires : goal.start-requires
start-requires c = (search rules, own-few _ c.good_settings.ensures (ap not c.if-not-good_settings.false))

pub returns-clause-word : goal.returns-clause-word
returns-clause-word c = start-0 _ _ _ c.good_settings.ensures (ap not c.if-not-good_settings.false) c.if-time-ge281474976710656.false (pool-upper _ _ _ _ _ _ _ _ _ c.ranges.high.fits c.ranges.low.fits c.ranges.valid.fits (sym c.good_settings.ensures ∙ c.if-not-good_settings.false)) c.start.ensures
