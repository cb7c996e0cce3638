-- `good_server`: none and zeros, or a DUID.
use Rattle.std.proofs.Common.{eq-eqb, ne_eqb, sym, ◌∙◌}
use Rattle.laws.specs.RouterFlat.{server_in, way-true, way-false}
use Rattle.state.proofs.good_server.Goals as goal

pub returns-then-n-eq0 : goal.returns-then-n-eq0
unfolding server_in
returns-then-n-eq0 c = way-true _ _ _ (eq-eqb _ 0 (sym c.get-n.ensures.0 ∙ c.if-n-eq0.true)) c.all_zero.ensures

pub returns : goal.returns
unfolding server_in
returns c = way-false _ _ _ (ne_eqb _ 0 (λ e. c.if-n-eq0.false (c.get-n.ensures.0 ∙ e))) (cc)
