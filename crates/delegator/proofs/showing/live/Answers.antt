-- 9, then 1; else the live ones are counted.
use Rattle.std.proofs.Common.{rules, ◌≡◌, ◌∙◌, Err, arith}
use Rattle.laws.specs.Refusals.{goes, stops, word_refused}
use Rattle.delegator.proofs.Laws.{live-refused, live-held, live-counted}
use Rattle.delegator.proofs.showing.live.Goals as goal

pub returns-in_err-by_table-clause-word : goal.returns-in_err-by_table-clause-word
returns-in_err-by_table-clause-word c =
    let e : c.from_residual.result ≡ Err c.in_err-by_table.field-0.0 = search rules in
    word_refused c.in_err-by_table.was e ∙ live-refused _ _ c.by_table.ensures (stops c.in_err-by_table.was)

pub count_of-requires : goal.count_of-requires
count_of-requires c = omega (arith, (live-held _ _ c.by_table.ensures (goes c.in_ok-by_table.was)).size)

pub count_live-requires : goal.count_live-requires
count_live-requires c = let g = live-held _ _ c.by_table.ensures (goes c.in_ok-by_table.was) in (omega (arith, g.few, c.count_of.ensures), omega (arith, g.size))

pub returns-clause-word : goal.returns-clause-word
returns-clause-word c = live-counted _ _ c.by_table.ensures (goes c.in_ok-by_table.was) c.count_of.ensures c.count_live.ensures
