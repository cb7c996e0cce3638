use Rattle.wire.proofs.check.good_if.Goals as goal

-- By the test.
pub returns-then-ok : goal.returns-then-ok
returns-then-ok c = simp c.if-ok.true

pub returns : goal.returns
returns c = simp c.if-ok.false
