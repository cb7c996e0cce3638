-- `first_hit`: the first place that passes is that of the first record that does.
use Rattle.std.proofs.Common.{◌≡◌, true, false, rules, tests}
use Rattle.std.proofs.lemmas.Iterator.{first_from_Range}
use Rattle.rules.specs.TableBytes.{record_at}
use Rattle.rules.specs.Choose.{hits}
use Rattle.prefix.specs.Upper.{half_of}
use Rattle.search.proofs.Laws.{first-found}
use Rattle.search.proofs.first_hit.Goals as goal

pub returns : goal.returns
returns c =
    let f = hits (half_of c.args.p) in
    let g = record_at c.args.t.now in
    first-found g f _ _
    (first_from_Range _ _ _ _ (λ i. f (g i) ≡ true) (λ i. f (g i) ≡ false) c.find.ensures.ran (λ x q k. search (rules, tests)) (λ x q k. search (rules, tests)))
