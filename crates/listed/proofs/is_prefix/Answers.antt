-- `is_prefix`: the length, and all the bits.
use Rattle.values.specs.Values.{lease_of, listed_of}
use Rattle.listed.proofs.is_prefix.Goals as goal

pub returns : goal.returns
unfolding listed_of lease_of
returns c = rw c.is_upper.ensures
