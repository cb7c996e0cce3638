-- By the test of each.
use Rattle.std.proofs.Common.{rules, tests, ◌∙◌, [], take}
use Rattle.std.proofs.lemmas.Iterator.{YieldsList-from_slice}
use Rattle.std.proofs.lemmas.Iterator.Search.{any_from_yields_List}
use Rattle.rules.specs.Prefix.{same_prefix}
use Rattle.prefix.specs.Upper.{upper}
use Rattle.values.specs.Values.{listed_of}
use Rattle.listed.proofs.Laws.{list-any}
use Rattle.listed.proofs.some_is.Goals as goal

pub returns : goal.returns
returns c =
    any_from_yields_List (λ x. same_prefix (listed_of x []).lease.prefix (upper c.args.p c.args.a)) _ _ c.any.result c.any.ensures.ran
    (YieldsList-from_slice (take c.args.n c.args.ps) cc) (λ x b q k. search (rules, tests))
    ∙ list-any (λ x. same_prefix x.lease.prefix (upper c.args.p c.args.a)) (take c.args.n c.args.ps)
