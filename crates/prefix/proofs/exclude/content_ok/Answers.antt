use Rattle.std.proofs.Common.{arith, le-ltb, lt-ltb, le-leb, ne_eqb}
use Rattle.std.proofs.lemmas.Bool.{lt-leb}
use Rattle.rules.specs.Prefix.{content_ok}
use Rattle.laws.specs.Exclude.{pad-test}
use Rattle.prefix.proofs.exclude.content_ok.Goals as goal

-- `content_ok` tests what the definition tests, in its order.
pub returns-then-b-a : goal.returns-then-b-a
unfolding content_ok
returns-then-b-a c = simp (le-ltb c.args.a c.args.b (omega arith))

pub returns-then-b-gt128 : goal.returns-then-b-gt128
unfolding content_ok
returns-then-b-gt128 c = simp (lt-ltb _ _ c.if-b-a.false, lt-leb _ _ c.if-b-gt128.true)

pub returns-then-c-n : goal.returns-then-c-n
unfolding content_ok
returns-then-c-n c = simp (lt-ltb _ _ c.if-b-a.false, le-leb _ _ c.if-b-gt128.false, ne_eqb _ _ c.if-c-n.true)

pub returns : goal.returns
returns c = pad-test _ (λ i. (c.type_inv.c i).fits) _ _ c.if-b-a.false c.if-b-gt128.false c.if-c-n.false
