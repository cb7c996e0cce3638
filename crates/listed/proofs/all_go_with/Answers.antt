-- By the test of each.
use Rattle.std.proofs.Common.{rules, tests, ◌∙◌, [], take}
use Rattle.std.proofs.lemmas.Iterator.{YieldsList-from_slice}
use Rattle.std.proofs.lemmas.Iterator.Search.{all_from_yields_List}
use Rattle.rules.specs.Prefix.{except_for}
use Rattle.rules.specs.Box.{same_except}
use Rattle.prefix.specs.Upper.{upper}
use Rattle.values.specs.Values.{listed_of}
use Rattle.listed.proofs.Laws.{list-all}
use Rattle.listed.proofs.all_go_with.Goals as goal

pub returns : goal.returns
returns c =
    all_from_yields_List (λ x. same_except (listed_of x []).lease.except (except_for c.args.excluded (upper c.args.p c.args.a))) _ _ c.all.result c.all.ensures.ran
    (YieldsList-from_slice (take c.args.n c.args.ps) cc) (λ x b q k. search (rules, tests))
    ∙ list-all (λ x. same_except x.lease.except (except_for c.args.excluded (upper c.args.p c.args.a))) (take c.args.n c.args.ps)
