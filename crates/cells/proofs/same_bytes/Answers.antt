use Rattle.std.proofs.Common.{sym, ◌∙◌}
use Rattle.cells.proofs.Laws.{last-other}
use Rattle.cells.proofs.same_bytes.Goals as goal

pub returns-then-not-same_block : goal.returns-then-not-same_block
returns-then-not-same_block c = last-other _ _ _ 32 c.if-n-ge32.true (sym c.same_block.ensures ∙ c.if-not-same_block.true)

pub returns-then-not-same_block-2 : goal.returns-then-not-same_block-2
returns-then-not-same_block-2 c = last-other _ _ _ 8 c.if-n-ge8.true (sym c.same_block-then-n-ge8.ensures ∙ c.if-not-same_block-2.true)
