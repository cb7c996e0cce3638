-- `with_returned`: T1 and T2 are 0.
use Rattle.std.proofs.Common.{◌∙◌}
use Rattle.said.proofs.with_returned.Goals as goal

pub returns : goal.returns
returns c = (c.with_prefixes.ensures.0 ∙ rw c.all_returned.ensures.0, c.with_prefixes.ensures.1)
