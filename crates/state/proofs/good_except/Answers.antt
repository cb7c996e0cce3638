-- `good_except`: none and zeros, or one with an encoding.
use Rattle.std.proofs.Common.{eq-eqb, ne_eqb, sym, ◌∙◌}
use Rattle.laws.specs.RouterFlat.{except_in, way-true, way-false}
use Rattle.state.proofs.good_except.Goals as goal

pub returns-then-b-eq0 : goal.returns-then-b-eq0
unfolding except_in
returns-then-b-eq0 c = way-true _ _ _ (eq-eqb _ 0 (sym c.get-b.ensures.0 ∙ c.if-b-eq0.true)) c.all_zero.ensures

pub returns : goal.returns
unfolding except_in
returns c = way-false _ _ _ (ne_eqb _ 0 (λ e. c.if-b-eq0.false (c.get-b.ensures.0 ∙ e))) (cc)
