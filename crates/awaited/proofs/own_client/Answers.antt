-- By where the one Client ID was found.
use Rattle.std.specs.Prelude.{Some}
use Rattle.std.proofs.Common.{◌∙◌, ◌≡◌, sym}
use Rattle.rules.specs.Options.{spot}
use Rattle.heard.specs.Facts.{only-inside}
use Rattle.heard.specs.Heard.{only_of}
use Rattle.awaited.proofs.Laws.{client-one, client-other}
use Rattle.awaited.proofs.own_client.Goals as goal

pub is_duid-requires : goal.is_duid-requires
is_duid-requires c =
    -- where it was found
    let was : only_of 1 c.args.msg.now ≡ Some (spot c.in-Some.o.place c.in-Some.o.start c.in-Some.o.len) = cc in
    (c.requires, only-inside _ _ was)

pub returns-in-Some : goal.returns-in-Some
returns-in-Some c =
    let was : only_of 1 c.args.msg.now ≡ Some (spot c.in-Some.o.place c.in-Some.o.start c.in-Some.o.len) = cc in
    client-one _ _ was c.is_duid.ensures

pub returns-in-None : goal.returns-in-None
returns-in-None c = client-other c.args.t.now _ (sym c.only.ensures ∙ c.in-None.is)
