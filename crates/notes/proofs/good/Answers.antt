-- By its code.
use Rattle.std.specs.Prelude.{is_ok}
use Rattle.std.proofs.Common.{◌∙◌, ap}
use Rattle.notes.proofs.Laws.{good-other, good-request}
use Rattle.notes.proofs.good.Goals as goal

pub returns-then-code-eq25 : goal.returns-then-code-eq25
returns-then-code-eq25 c = c.is_ok.ensures.value ∙ ap is_ok c.check_one.ensures

pub returns-then-code-eq6 : goal.returns-then-code-eq6
returns-then-code-eq6 c = good-request _ _ _ _ _ c.if-code-eq6.true

pub returns : goal.returns
returns c = good-other _ _ _ _ _ c.if-code-eq25.false c.if-code-eq6.false
