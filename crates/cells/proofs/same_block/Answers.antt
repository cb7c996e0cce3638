use Rattle.std.proofs.Common.{refl}
use Rattle.rules.specs.Words.{part}
use Rattle.cells.proofs.same_block.Goals as goal

pub loop-k-init : goal.loop-k-init
unfolding part
loop-k-init g c = refl
