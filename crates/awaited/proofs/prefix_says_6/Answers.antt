-- Some of the IA Prefixes that the iterator gives says it; each of them lies in the message.
use Rattle.std.specs.Prelude.{Some}
use Rattle.std.proofs.Common.{◌∙◌, ◌≡◌, ◌+◌, arith, rules, sym, tests}
use Rattle.std.proofs.lemmas.Iterator.Adapters.{serves_from_places}
use Rattle.std.proofs.lemmas.Iterator.Consumers.{YieldsList-from_first}
use Rattle.std.proofs.lemmas.Iterator.Search.{any_from_yields_List}
use Rattle.rules.specs.Message.{listed_at}
use Rattle.rules.specs.Options.{options}
use Rattle.rules.specs.Router.{says6}
use Rattle.laws.specs.Walk.{nth_inside}
use Rattle.wire.proofs.Spots.{spots-any, spots-at}
use Rattle.wire.specs.Spots.{left, there}
use Rattle.awaited.proofs.Laws.{inner, listed-says}
use Rattle.awaited.proofs.prefix_says_6.Goals as goal

pub any-requires-clause-callable : goal.any-requires-clause-callable
any-requires-clause-callable c =
    let m = c.args.msg.now in
    let o = c.args.o in
    let is : left c.new.result ≡ there (options 26 (inner m o)) = simp (c.new.ensures.0, c.new.ensures.1, c.new.ensures.2, c.new.ensures.3) in
    serves_from_places (YieldsList-from_first (λ x. x) left _ is) (λ x q r. search rules)
    (λ x k h q. omega (arith, c.requires.within, nth_inside 26 k m (o.start + 12) (o.start + o.len) (spots-at 26 (inner m o) x k h q)))

pub returns : goal.returns
returns c =
    let m = c.args.msg.now in
    let o = c.args.o in
    let is : left c.new.result ≡ there (options 26 (inner m o)) = simp (c.new.ensures.0, c.new.ensures.1, c.new.ensures.2, c.new.ensures.3) in
    any_from_yields_List (λ p. says6 (listed_at m (Some p)).statuses) c.any.new.self _ _ c.any.ensures.ran (YieldsList-from_first (λ x. x) left _ is) (λ x b q k. search (rules, tests))
    ∙ sym (spots-any 26 (λ f. says6 (listed_at m f).statuses) (inner m o)) ∙ listed-says m o
