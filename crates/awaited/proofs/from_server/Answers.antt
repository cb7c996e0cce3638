-- By where the one Server ID was found.
use Rattle.std.specs.Prelude.{Some}
use Rattle.std.proofs.Common.{◌∙◌, ◌≡◌, sym}
use Rattle.rules.specs.Options.{spot}
use Rattle.heard.specs.Facts.{only-inside}
use Rattle.heard.specs.Heard.{only_of}
use Rattle.awaited.proofs.Laws.{server-one, server-other}
use Rattle.awaited.proofs.from_server.Goals as goal

pub is_duid-known-requires : goal.is_duid-known-requires
is_duid-known-requires c =
    -- where it was found
    let was : only_of 2 c.args.msg.now ≡ Some (spot c.in-Some.o.place c.in-Some.o.start c.in-Some.o.len) = cc in
    (c.requires, only-inside _ _ was)

pub returns-in-Some : goal.returns-in-Some
returns-in-Some c =
    let was : only_of 2 c.args.msg.now ≡ Some (spot c.in-Some.o.place c.in-Some.o.start c.in-Some.o.len) = cc in
    server-one _ _ c.args.kind (only-inside _ _ was) was c.is_duid-known.ensures

pub returns-in-None : goal.returns-in-None
returns-in-None c = server-other c.args.t.now c.args.msg.now c.args.kind (sym c.only.ensures ∙ c.in-None.is)
