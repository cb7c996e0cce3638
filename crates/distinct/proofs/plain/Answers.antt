use Rattle.std.proofs.Common.{refl}
use borrow.Author.Rules.{rules}
use Rattle.distinct.proofs.Laws.{none-marked, one-marked}
use Rattle.distinct.proofs.plain.Goals as goal

pub loop-i-init : goal.loop-i-init
loop-i-init c = none-marked _

pub loop-i-preserved : goal.loop-i-preserved
loop-i-preserved c = one-marked _ _ _ _ (search rules) c.loop-i.invariant c.in-Some.ensures _ _ refl refl
