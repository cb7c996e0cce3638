-- By its prefixes and its status.
use Rattle.print.proofs.able.pd_encodes.Goals as goal

pub returns : goal.returns
returns c = rw c.all_encode.ensures
