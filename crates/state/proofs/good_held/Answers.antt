-- `good_held`: none and zeros, or a hold with a server.
use Rattle.std.proofs.Common.{eq-eqb, ne_eqb, sym, ◌∙◌}
use Rattle.laws.specs.RouterFlat.{held_in, way-true, way-false}
use Rattle.state.proofs.good_held.Goals as goal

pub returns-then-held-eq0 : goal.returns-then-held-eq0
unfolding held_in
returns-then-held-eq0 c = way-true _ _ _ (eq-eqb _ 0 (sym c.get-held.ensures.0 ∙ c.if-held-eq0.true)) c.all_zero.ensures

pub returns : goal.returns
unfolding held_in
returns c = way-false _ _ _ (ne_eqb _ 0 (λ e. c.if-held-eq0.false (c.get-held.ensures.0 ∙ e))) (cc)
