use Rattle.std.proofs.Common.{refl, arith}
use Rattle.values.specs.Values.{ia_of}
use Rattle.said.proofs.with_prefixes.Goals as goal

-- `with_prefixes` puts the parts together.
pub returns : goal.returns
unfolding ia_of
returns c = (refl, record { count = c.requires; status = omega arith })
