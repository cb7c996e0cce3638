-- `sound` is the flat test, which is soundness.
use Rattle.laws.specs.RouterFlat.{flat_router, flat-router}
use Rattle.state.proofs.sound.Goals as goal

pub returns : goal.returns
unfolding flat_router
returns c = cc (flat-router c.args.t.now c.fits-t c.told-t)
