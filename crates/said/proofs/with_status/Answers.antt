use Rattle.std.proofs.Common.{refl, arith}
use Rattle.values.specs.Values.{ia_of}
use Rattle.said.proofs.with_status.Goals as goal

-- `with_status` puts the parts together.
pub returns : goal.returns
unfolding ia_of
returns c = (refl, record { count = omega arith; status = c.requires })
