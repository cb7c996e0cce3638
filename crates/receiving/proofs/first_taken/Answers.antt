-- The first that passes of those that the iterator gives; each of them can be read.
use Rattle.std.specs.Prelude.{Some}
use Rattle.std.proofs.Common.{◌∙◌, ◌≡◌, ◌+◌, rules, subst, sym, tests}
use Rattle.std.proofs.lemmas.Iterator.Adapters.{serves_from_places}
use Rattle.std.proofs.lemmas.Iterator.Consumers.{YieldsList-from_first}
use Rattle.std.proofs.lemmas.Iterator.Search.{find_from_yields_List}
use Rattle.rules.specs.Message.{listed_at}
use Rattle.rules.specs.Options.{area_of, options}
use Rattle.rules.specs.Router.{takes}
use Rattle.rules.specs.declared.Spot.{Spot}
use Rattle.laws.specs.Formed.{PrefixFormed, formed-prefix}
use Rattle.wire.proofs.Spots.{itself, spots-at}
use Rattle.wire.specs.Spots.{left, there}
use Rattle.receiving.proofs.Laws.{found-first}
use Rattle.receiving.proofs.first_taken.Goals as goal

pub find-requires-clause-callable : goal.find-requires-clause-callable
find-requires-clause-callable c =
    let m = c.args.msg.now in
    let o = c.args.o in
    let is : left c.new.result ≡ there (options 26 (area_of m (o.start + 12) (o.start + o.len))) = simp (c.new.ensures.0, c.new.ensures.1, c.new.ensures.2, c.new.ensures.3) in
    serves_from_places (YieldsList-from_first (λ x. x) left _ is) (λ x q r. search rules)
    (λ x k h q.
    let f : PrefixFormed m x.start x.len = formed-prefix m o.start o.len c.requires k (spots-at 26 (area_of m (o.start + 12) (o.start + o.len)) x k h q) in
    λ y e. λ _. λ _. λ _. λ _. λ _. λ _. λ _. λ _. subst (λ (z : Spot). PrefixFormed m z.start z.len) (sym e) f)

pub returns : goal.returns
returns c =
    let m = c.args.msg.now in
    let o = c.args.o in
    let is : left c.new.result ≡ there (options 26 (area_of m (o.start + 12) (o.start + o.len))) = simp (c.new.ensures.0, c.new.ensures.1, c.new.ensures.2, c.new.ensures.3) in
    sym (itself c.find.result)
    ∙ find_from_yields_List (λ p. takes (listed_at m (Some p))) c.find.new.self _ c.find.result c.find.ensures.ran (YieldsList-from_first (λ x. x) left _ is) (λ x b q k. search (rules, tests))
    ∙ found-first m o.start o.len
