-- By the test of each.
use Rattle.std.proofs.Common.{rules, tests, ◌∙◌, []}
use Rattle.std.proofs.lemmas.Iterator.{YieldsList-from_slice}
use Rattle.std.proofs.lemmas.Iterator.Search.{all_from_yields_List}
use Rattle.rules.specs.Lone.{listed_encodes}
use Rattle.values.specs.Values.{listed_of}
use Rattle.print.proofs.Alone.{list-all}
use Rattle.print.proofs.able.all_encode.Goals as goal

pub returns : goal.returns
returns c =
    all_from_yields_List (λ x. listed_encodes (listed_of x [])) _ _ c.all.result c.all.ensures.ran (YieldsList-from_slice c.args.ps.now cc) (λ x b q k. search (rules, tests))
    ∙ list-all c.args.ps.now
