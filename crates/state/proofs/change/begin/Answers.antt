-- `begin` writes the new exchange, and for a Release frees the hold.
use Rattle.std.proofs.Common.{sym, ◌∙◌}
use Rattle.laws.specs.RouterChange.{begin-kept, begin-freed}
use Rattle.state.proofs.Laws.{release-same}
use Rattle.state.proofs.change.begin.Goals as goal

pub returns-then-eq : goal.returns-then-eq
returns-then-eq c =
    begin-freed _ c.requires _ _ _ _ c.get.ensures.0 c.carried-sent.ensures (sym (release-same _) ∙ sym c.eq.ensures ∙ c.if-eq.true) c.date.ensures c.open.ensures c.free.ensures

pub returns-else-eq : goal.returns-else-eq
returns-else-eq c =
    begin-kept _ c.requires _ _ _ _ c.get.ensures.0 c.carried-sent.ensures (sym (release-same _) ∙ sym c.eq.ensures ∙ c.if-eq.false) c.date.ensures c.open.ensures
