use Rattle.std.proofs.Common.{refl}
use Rattle.values.specs.Values.{except_of, lease_of, listed_of}
use Rattle.listed.proofs.returned.Goals as goal

-- `returned` keeps the length and the bits.
pub returns : goal.returns
unfolding listed_of lease_of except_of
returns c = refl
