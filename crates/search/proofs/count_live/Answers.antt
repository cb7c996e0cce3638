-- `count_live`: as many places pass as records are live.
use Rattle.std.proofs.Common.{◌∙◌, arith, rules, tests}
use Rattle.std.proofs.lemmas.Iterator.{YieldsList-from_range}
use Rattle.std.proofs.lemmas.Iterator.Consumers.{YieldsList-from_filter, count_from_yields_List}
use Rattle.rules.specs.TableBytes.{record_at}
use Rattle.rules.specs.Table.{live}
use Rattle.search.proofs.Laws.{as_many}
use Rattle.search.proofs.count_live.Goals as goal

pub returns : goal.returns
returns c =
    let f = live c.args.time in
    let g = record_at c.args.t.now in
    count_from_yields_List _ _ c.count.ensures.ran (YieldsList-from_filter _ (λ i. f (g i)) (YieldsList-from_range 0 c.args.n c.args.n (cc) (omega arith)) c.filter.ensures.closure (λ x b q k. search (rules, tests)))
    ∙ as_many g f c.args.n 0
