-- Each test in turn.
use Rattle.std.proofs.Common.{true, ◌≡◌, ◌≤◌, arith, length}
use Rattle.rules.specs.Message.{well_formed}
use Rattle.laws.specs.RouterRepresent.{lent_length}
use Rattle.awaited.proofs.Laws.{is-awaited, not-awaited, passed}
use Rattle.awaited.specs.Facts.{own_in, server-in, kind-served}
use Rattle.awaited.proofs.awaited.Goals as goal

pub get-kind-requires : goal.get-kind-requires
get-kind-requires c = omega (arith, lent_length _ c.requires)

pub returns-then-kind-formed : goal.returns-then-kind-formed
returns-then-kind-formed c = not-awaited _ _ c.get-kind.ensures.0 c.formed.ensures c.if-kind-formed.true

pub answers-requires : goal.answers-requires
answers-requires c =
    let facts : (c.get-kind.result ≡ 0 → ⊥) × (4 ≤ length c.args.msg.now) × (well_formed c.args.msg.now ≡ true) = passed c.args.t.now _ c.get-kind.ensures.0 c.formed.ensures c.if-kind-formed.false in
    (lent_length _ c.requires, facts.1)

pub own_client-requires : goal.own_client-requires
own_client-requires c = own_in _ c.requires

pub from_server-requires : goal.from_server-requires
from_server-requires c = server-in _ c.requires

pub offers-requires : goal.offers-requires
offers-requires c =
    let facts : (c.get-kind.result ≡ 0 → ⊥) × (4 ≤ length c.args.msg.now) × (well_formed c.args.msg.now ≡ true) = passed c.args.t.now _ c.get-kind.ensures.0 c.formed.ensures c.if-kind-formed.false in
    (lent_length _ c.requires, facts.2, kind-served _ c.requires c.get-kind.ensures.0 facts.0)

pub returns : goal.returns
returns c = is-awaited _ _ c.get-kind.ensures.0 c.formed.ensures c.if-kind-formed.false c.answers.ensures c.own_client.ensures c.from_server.ensures c.offers.ensures
