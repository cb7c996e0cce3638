-- `with_offer`: the delegation is first.
use Rattle.std.proofs.Common.{◌∙◌}
use Rattle.said.proofs.with_offer.Goals as goal

pub returns : goal.returns
returns c = (
  c.with_prefixes.ensures.0 ∙ rw (c.t2_for.ensures, c.t1_for.ensures, c.others-l.ensures.0, c.offered.ensures),
  c.with_prefixes.ensures.1,
)
