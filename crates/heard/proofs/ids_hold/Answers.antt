-- By what the row wants, and where the one option was found.
use Rattle.std.specs.Prelude.{Some}
use Rattle.std.proofs.Common.{◌∙◌, ◌≡◌, sym, ◌+◌}
use Rattle.rules.specs.Options.{spot}
use Rattle.heard.proofs.Laws.{hold-none, hold-one, hold-other}
use Rattle.heard.specs.Facts.{only-inside}
use Rattle.heard.specs.Heard.{only_of}
use Rattle.heard.proofs.ids_hold.Goals as goal

pub returns-then-not-id_wanted : goal.returns-then-not-id_wanted
returns-then-not-id_wanted c = hold-none c.args.own.now c.args.kind c.args.id c.args.msg.now c.id_wanted.ensures c.if-not-id_wanted.true c.requires.1.counts

pub id_good-requires : goal.id_good-requires
id_good-requires c =
    -- where it was found
    let was : only_of (c.args.id + 1) c.args.msg.now ≡ Some (spot c.in-Some.o.place c.in-Some.o.start c.in-Some.o.len) = cc in
    only-inside _ _ was

pub returns-in-Some : goal.returns-in-Some
returns-in-Some c =
    let was : only_of (c.args.id + 1) c.args.msg.now ≡ Some (spot c.in-Some.o.place c.in-Some.o.start c.in-Some.o.len) = cc in
    hold-one c.args.own.now c.args.kind c.args.id c.args.msg.now c.id_wanted.ensures c.if-not-id_wanted.false was c.id_good.ensures

pub returns-in-None : goal.returns-in-None
returns-in-None c = hold-other c.args.own.now c.args.kind c.args.id c.args.msg.now c.id_wanted.ensures c.if-not-id_wanted.false (sym c.one.ensures ∙ c.in-None.is)
