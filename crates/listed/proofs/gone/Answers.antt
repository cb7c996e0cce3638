-- At least one, and by the test of each.
use Rattle.std.proofs.Common.{rules, tests, ◌∙◌, [], take, ap, not, ltb, ◌&&◌}
use Rattle.std.proofs.lemmas.Iterator.{YieldsList-from_slice}
use Rattle.std.proofs.lemmas.Iterator.Search.{all_from_yields_List}
use Rattle.rules.specs.Prefix.{inside}
use Rattle.prefix.specs.Upper.{half_of}
use Rattle.values.specs.Values.{lease_of, listed_of}
use Rattle.listed.proofs.Laws.{list-all}
use Rattle.listed.proofs.gone.Goals as goal

pub returns : goal.returns
unfolding listed_of lease_of
returns c =
    ap (λ b. ltb 0 c.args.n && b)
    (all_from_yields_List (λ x. not (inside (listed_of x []).lease.prefix (half_of c.args.pool))) _ _ c.all.result c.all.ensures.ran
    (YieldsList-from_slice (take c.args.n c.args.ps) cc) (λ x b q k. search (rules, tests))
    ∙ list-all (λ x. not (inside x.lease.prefix (half_of c.args.pool))) (take c.args.n c.args.ps))
