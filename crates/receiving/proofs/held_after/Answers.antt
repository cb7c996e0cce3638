-- By the type, and where the one IA_PD was found.
use Rattle.std.specs.Prelude.{Some}
use Rattle.std.proofs.Common.{◌∙◌, ◌≡◌, sym, arith}
use Rattle.rules.specs.Options.{spot}
use Rattle.laws.specs.RouterRepresent.{lent_length}
use Rattle.heard.specs.Heard.{only_of}
use Rattle.awaited.specs.Facts.{only-formed}
use Rattle.receiving.proofs.Laws.{began-small, facts, held_kept, held_one, held-taken}
use Rattle.receiving.proofs.held_after.Goals as goal

pub returns-then-kind : goal.returns-then-kind
returns-then-kind c = held_kept c.requires _ c.if-kind.true c.kept.ensures

pub get-began-requires : goal.get-began-requires
get-began-requires c = omega (arith, lent_length _ c.requires.sound)

pub taken-requires : goal.taken-requires
taken-requires c =
    -- where it was found
    let was : only_of 25 c.args.msg.now ≡ Some (spot c.in-Some.o.place c.in-Some.o.start c.in-Some.o.len) = cc in
    (only-formed _ (facts c.requires).formed was, began-small c.requires c.get-began.ensures.0)

pub returns-in-Some : goal.returns-in-Some
returns-in-Some c =
    let was : only_of 25 c.args.msg.now ≡ Some (spot c.in-Some.o.place c.in-Some.o.start c.in-Some.o.len) = cc in
    held-taken c.requires _ c.if-kind.false c.in-Some.o c.get-began.ensures.0 was c.taken.ensures

pub returns-in-None : goal.returns-in-None
returns-in-None c = absurd (held_one c.requires c.args.time c.if-kind.false (sym c.only.ensures ∙ c.in-None.is))
