-- One equation of tests.
use Rattle.delegator.proofs.Laws.{settings-read}
use Rattle.delegator.proofs.opening.good_settings.Goals as goal

pub returns : goal.returns
returns c = settings-read _ _ _ _ _ _ _ _ _ c.ranges.high.fits c.ranges.low.fits c.ranges.valid.fits c.is_aligned.ensures
