-- As many as the iterator gives.
use Rattle.std.proofs.Common.{◌∙◌, ◌≡◌, ap, arith, inl, length, refl}
use Rattle.std.proofs.lemmas.Iterator.Consumers.{YieldsList-from_first, count_from_yields_List}
use Rattle.rules.specs.Options.{area_of, options}
use Rattle.wire.proofs.Spots.{spots-count, spots-few}
use Rattle.wire.specs.Spots.{left, there}
use Rattle.wire.proofs.find.count_of.Goals as goal

pub count-requires-clause-fits : goal.count-requires-clause-fits
count-requires-clause-fits c =
    let o = c.new.result in
    let few = spots-few o.code o.msg.now o.at o.end in
    inl (omega (arith, few, c.new.ensures.2, c.requires))

pub returns : goal.returns
returns c =
    let is : left c.new.result ≡ there (options c.args.w (area_of c.args.msg.now c.args.at c.args.end)) = simp (c.new.ensures.0, c.new.ensures.1, c.new.ensures.2, c.new.ensures.3) in
    count_from_yields_List c.new.result _ c.count.ensures.ran (YieldsList-from_first (λ x. x) left _ refl) ∙ ap length is ∙ spots-count c.args.w (area_of c.args.msg.now c.args.at c.args.end)
