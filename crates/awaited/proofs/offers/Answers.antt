-- By the type, and where the one IA_PD was found.
use Rattle.std.specs.Prelude.{Some}
use Rattle.std.proofs.Common.{◌∙◌, ◌≡◌, sym}
use Rattle.rules.specs.Options.{spot}
use Rattle.heard.specs.Heard.{only_of}
use Rattle.awaited.proofs.Laws.{offer-one, offer-other, offer-release}
use Rattle.awaited.specs.Facts.{only-formed}
use Rattle.awaited.proofs.offers.Goals as goal

pub returns-then-kind-eq8 : goal.returns-then-kind-eq8
returns-then-kind-eq8 c = offer-release c.args.t.now c.args.msg.now c.args.kind c.if-kind-eq8.true

pub good_pd-good-requires : goal.good_pd-good-requires
good_pd-good-requires c =
    -- where it was found
    let was : only_of 25 c.args.msg.now ≡ Some (spot c.in-Some.o.place c.in-Some.o.start c.in-Some.o.len) = cc in
    (c.requires.0, only-formed _ c.requires.1 was)

pub no_prefix-requires : goal.no_prefix-requires
no_prefix-requires c =
    let was : only_of 25 c.args.msg.now ≡ Some (spot c.in-Some.o.place c.in-Some.o.start c.in-Some.o.len) = cc in
    only-formed _ c.requires.1 was

pub returns-in-Some : goal.returns-in-Some
returns-in-Some c =
    let was : only_of 25 c.args.msg.now ≡ Some (spot c.in-Some.o.place c.in-Some.o.start c.in-Some.o.len) = cc in
    offer-one c.args.t.now c.args.msg.now c.args.kind c.requires.2 c.if-kind-eq8.false c.in-Some.o was c.good_pd-good.ensures c.no_prefix.ensures

pub returns-in-None : goal.returns-in-None
returns-in-None c = offer-other c.args.t.now c.args.msg.now c.args.kind c.requires.2 c.if-kind-eq8.false (sym c.only.ensures ∙ c.in-None.is)
