use Rattle.laws.specs.RouterFlat.{duid-over, duid-tested}
use Rattle.state.proofs.good_duid.Goals as goal

-- `good_duid`: too long, or what follows is zero.
pub returns-then-n-gt130 : goal.returns-then-n-gt130
returns-then-n-gt130 c = duid-over _ _ _ c.if-n-gt130.true

pub returns : goal.returns
returns c = duid-tested _ _ _ c.if-n-gt130.false c.all_zero.ensures
