use Rattle.std.proofs.Common.{◌*◌, refl, sym, ◌∙◌, arith}
use Rattle.rules.specs.Words.{part}
use Rattle.cells.proofs.Laws.{block-more, block-other, block-last}
use Rattle.cells.proofs.blocks_zero.Goals as goal

pub loop-k-init : goal.loop-k-init
unfolding part
loop-k-init c = refl

pub returns-then-not-zeros : goal.returns-then-not-zeros
returns-then-not-zeros c = block-other _ _ _ _ _ (omega (arith, c.loop-k-test.true)) (sym c.zeros.ensures ∙ c.if-not-zeros.true)

pub loop-k-preserved : goal.loop-k-preserved
loop-k-preserved c = block-more _ _ (64 * c.loop-k.k) 64 (omega arith) c.loop-k.invariant (sym c.zeros.ensures ∙ c.if-not-zeros.false)

pub returns : goal.returns
returns c = block-last _ _ (64 * c.loop-k.k) 64 _ c.loop-k.invariant c.requires.0 (omega (arith, c.loop-k-test.false)) (omega (arith, c.loop-k.auto.k-end)) c.zeros-2.ensures
