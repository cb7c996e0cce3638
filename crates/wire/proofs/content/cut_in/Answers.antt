-- The first PD Exclude, which is good in a good area, or none.
use Rattle.std.specs.Prelude.{Some}
use Rattle.std.proofs.Common.{◌∙◌, ◌≡◌, ap, sym, arith}
use Rattle.rules.specs.Message.{except_at}
use Rattle.rules.specs.Options.{area_of, nth, spot}
use Rattle.rules.specs.Prefix.{prefix}
use Rattle.rules.specs.Words.{num}
use Rattle.laws.specs.Formed.{good-exclude}
use Rattle.laws.specs.Walk.{nth_inside}
use Rattle.values.specs.Values.{except_of}
use Rattle.wire.proofs.content.cut_in.Goals as goal

pub cut_at-requires : goal.cut_at-requires
cut_at-requires c =
    -- where it was found
    let was : nth 67 0 (area_of c.args.msg.now c.args.at c.args.end) ≡ Some (spot c.in-Some.o.place c.in-Some.o.start c.in-Some.o.len) = cc in
    let w = was in
    (omega (arith, c.requires.0, nth_inside 67 0 c.args.msg.now c.args.at c.args.end w), good-exclude c.args.msg.now c.args.a 0 c.args.at c.args.end c.requires.1 w)

pub returns-in-Some : goal.returns-in-Some
returns-in-Some c =
    let was : nth 67 0 (area_of c.args.msg.now c.args.at c.args.end) ≡ Some (spot c.in-Some.o.place c.in-Some.o.start c.in-Some.o.len) = cc in
    rw was c.cut_at.ensures

pub returns-in-None : goal.returns-in-None
unfolding except_of
returns-in-None c = sym (ap (except_at c.args.msg.now (prefix (num c.args.p) c.args.a)) (sym c.find.ensures ∙ c.in-None.is))
