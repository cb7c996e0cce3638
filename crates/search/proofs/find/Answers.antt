-- `find`: the first place that passes is that of the first record that does.
use Rattle.std.proofs.Common.{◌≡◌, true, false, rules, tests}
use Rattle.std.proofs.lemmas.Iterator.{first_from_Range}
use Rattle.rules.specs.TableBytes.{record_at}
use Rattle.rules.specs.Identity.{identity}
use Rattle.rules.specs.Table.{is_binding}
use Rattle.search.proofs.Laws.{first-found}
use Rattle.search.proofs.find.Goals as goal

pub returns : goal.returns
returns c =
    let f = is_binding (identity c.args.duid.now c.args.iaid) in
    let g = record_at c.args.t.now in
    first-found g f _ _
    (first_from_Range _ _ _ _ (λ i. f (g i) ≡ true) (λ i. f (g i) ≡ false) c.find.ensures.ran (λ x q k. search (rules, tests)) (λ x q k. search (rules, tests)))
