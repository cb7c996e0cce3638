use Rattle.std.proofs.Common.{sym, ◌∙◌}
use Rattle.laws.specs.Loops.{all-turn}
use Rattle.sound.proofs.rows_good.Goals as goal

pub returns-then-not-good_row : goal.returns-then-not-good_row
returns-then-not-good_row c = sym (c.loop-i.invariant ∙ all-turn _ _ _ _ c.loop-i-test.true (sym c.good_row.ensures ∙ c.if-not-good_row.true))

pub loop-i-preserved : goal.loop-i-preserved
loop-i-preserved c = c.loop-i.invariant ∙ all-turn _ _ _ _ c.loop-i-test.true (sym c.good_row.ensures ∙ c.if-not-good_row.false)
