use Rattle.std.proofs.Common.{refl}
use Rattle.wire.specs.Judged.{is_judged}
use Rattle.wire.proofs.check.is_judged.Goals as goal

-- By the five codes.
pub returns : goal.returns
unfolding is_judged
returns c = refl
