-- `inside`: the outer one is no longer, and its bits are the same.
use Rattle.std.proofs.Common.{le-leb}
use Rattle.std.proofs.lemmas.Bool.{lt-leb}
use Rattle.rules.specs.Prefix.{inside}
use Rattle.prefix.proofs.half.Half.inside.Goals as goal

pub returns-then-self-other : goal.returns-then-self-other
unfolding inside
returns-then-self-other c = rw (lt-leb _ _ c.if-self-other.true)

pub returns-else-self-other : goal.returns-else-self-other
unfolding inside
returns-else-self-other c = rw (le-leb _ _ c.if-self-other.false) c.same_front.ensures
