-- The k-th that the iterator gives.
use Rattle.std.proofs.Common.{◌∙◌, ◌≡◌, ap, refl, slice_get, sym}
use Rattle.std.proofs.lemmas.Iterator.Consumers.{YieldsList-from_first, nth_from_yields_List}
use Rattle.rules.specs.Options.{area_of, options}
use Rattle.wire.proofs.Spots.{itself, spots-nth}
use Rattle.wire.specs.Spots.{left, there}
use Rattle.wire.proofs.find.find.Goals as goal

pub returns : goal.returns
returns c =
    let is : left c.new.result ≡ there (options c.args.w (area_of c.args.msg.now c.args.at c.args.end)) = simp (c.new.ensures.0, c.new.ensures.1, c.new.ensures.2, c.new.ensures.3) in
    sym (itself c.nth.result) ∙ nth_from_yields_List c.nth.result c.nth.new.self c.args.k c.nth.ensures.ran (YieldsList-from_first (λ x. x) left _ refl)
    ∙ ap (λ l. slice_get l c.args.k) is ∙ spots-nth c.args.w (area_of c.args.msg.now c.args.at c.args.end) c.args.k
