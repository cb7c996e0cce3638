use Rattle.std.proofs.Common.{refl}
use Rattle.laws.specs.Rows.{going_on, gone-through}
use Rattle.leases.proofs.ended.drop_ended.Goals as goal

pub loop-i-preserved : goal.loop-i-preserved
loop-i-preserved c = going_on _ _ _ _ _ _ c.loop-i.invariant c.loop-i-test.true c.requires.0 c.requires.1 _ _ _ refl c.step-j.ensures.0 c.step-j.ensures.1

pub returns : goal.returns
returns c = gone-through _ _ _ _ _ _ _ c.loop-i.invariant c.loop-i-test.false c.requires.0 c.requires.1 c.clear.ensures
