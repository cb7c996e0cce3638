-- Some of those that the iterator gives says it.
use Rattle.std.proofs.Common.{◌∙◌, ◌≡◌, ap, eqb, refl, rules, sym, tests}
use Rattle.std.proofs.lemmas.Iterator.Consumers.{YieldsList-from_first}
use Rattle.std.proofs.lemmas.Iterator.Search.{any_from_yields_List}
use Rattle.std.specs.List.{list_any}
use Rattle.rules.specs.Message.{status_at}
use Rattle.rules.specs.Options.{area_of, options}
use Rattle.rules.specs.Words.{u16_at}
use Rattle.laws.specs.Steps.{any-map}
use Rattle.wire.proofs.Spots.{spots-any}
use Rattle.wire.specs.Spots.{left, there}
use Rattle.wire.proofs.says.has_status.Goals as goal

pub returns : goal.returns
returns c =
    let is : left c.new.result ≡ there (options 13 (area_of c.args.msg.now c.args.at c.args.end)) = simp (c.new.ensures.0, c.new.ensures.1, c.new.ensures.2, c.new.ensures.3) in
    any_from_yields_List (λ o. eqb c.args.k (u16_at c.args.msg.now o.start)) c.any.new.self _ _ c.any.ensures.ran (YieldsList-from_first (λ x. x) left _ refl) (λ x b q k. search (rules, tests))
    ∙ ap (list_any (λ o. eqb c.args.k (u16_at c.args.msg.now o.start))) is
    ∙ sym (any-map (eqb c.args.k) (status_at c.args.msg.now) (options 13 (area_of c.args.msg.now c.args.at c.args.end)) ∙ spots-any 13 _ (area_of c.args.msg.now c.args.at c.args.end))
