use Rattle.std.proofs.Common.{List, [], ◌∷◌, subst, ap, ◌∙◌, arith}
use Rattle.rules.specs.Message.{Listed, Ia}
use Rattle.rules.specs.Box.{others}
use Rattle.plan.specs.Plan.{lease_of, Sendable}
use Rattle.said.proofs.Laws.{others-back, back-few}
use Rattle.said.proofs.pd_for.Goals as goal

-- `pd_for` is what each plan says.
abbrev listed : Ia → List Listed
listed i = i.listed

pub with_offer-requires : goal.with_offer-requires
with_offer-requires c = (subst Sendable c.in-Offer.is c.requires.1, omega arith)

pub with_offer-requires-in-Bind : goal.with_offer-requires-in-Bind
with_offer-requires-in-Bind c = (subst Sendable c.in-Bind.is c.requires.1, omega arith)

pub with_offer-requires-in-Extend : goal.with_offer-requires-in-Extend
with_offer-requires-in-Extend c = (subst Sendable c.in-Extend.is c.requires.1, back-few c.in-Extend.back c.taken.ensures c.requires.0)

pub with_status-requires : goal.with_status-requires
with_status-requires c = subst Sendable c.in-Say.is c.requires.1

pub returns-in-Offer : goal.returns-in-Offer
unfolding others
returns-in-Offer c = (rw c.in-Offer.is (ap (λ x. x ∷ []) c.with_offer.ensures.0), rw c.in-Offer.is (ap listed c.with_offer.ensures.0), c.with_offer.ensures.1)

pub returns-in-Bind : goal.returns-in-Bind
unfolding others
returns-in-Bind c = (rw c.in-Bind.is (ap (λ x. x ∷ []) c.with_offer-in-Bind.ensures.0), rw c.in-Bind.is (ap listed c.with_offer-in-Bind.ensures.0), c.with_offer-in-Bind.ensures.1)

pub returns-in-Extend : goal.returns-in-Extend
returns-in-Extend c = let o = others-back (lease_of c.in-Extend.lease).prefix c.args.q.prefixes c.args.q.count c.in-Extend.back c.taken.ensures in (
  rw c.in-Extend.is (ap (λ x. x ∷ []) (c.with_offer-in-Extend.ensures.0 ∙ rw o)),
  rw c.in-Extend.is (ap listed c.with_offer-in-Extend.ensures.0 ∙ rw o),
  c.with_offer-in-Extend.ensures.1,
)

pub returns-in-Return : goal.returns-in-Return
returns-in-Return c = (rw c.in-Return.is (ap (λ x. x ∷ []) c.with_returned.ensures.0), rw c.in-Return.is (ap listed c.with_returned.ensures.0), c.with_returned.ensures.1)

pub returns-in-Say : goal.returns-in-Say
returns-in-Say c = (rw c.in-Say.is (ap (λ x. x ∷ []) c.with_status.ensures.0), rw c.in-Say.is (ap listed c.with_status.ensures.0), c.with_status.ensures.1)

pub returns-in-Free : goal.returns-in-Free
returns-in-Free c = (rw c.in-Free.is, rw c.in-Free.is (ap listed c.with_status-in-Free.ensures.0), c.with_status-in-Free.ensures.1)

pub returns-in-Silence : goal.returns-in-Silence
returns-in-Silence c = (rw c.in-Silence.is, rw c.in-Silence.is (ap listed c.with_status-in-Silence.ensures.0), c.with_status-in-Silence.ensures.1)
