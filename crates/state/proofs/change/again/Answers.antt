use Rattle.std.proofs.Common.{sym, ◌∙◌}
use Rattle.laws.specs.RouterChange.{again_kept, again-freed}
use Rattle.state.proofs.Laws.{release-open}
use Rattle.state.proofs.change.again.Goals as goal

-- `again` writes the time, and for a Release its last sending.
pub returns-then-eq : goal.returns-then-eq
returns-then-eq c =
    again-freed _ c.requires.0 _ c.requires.1 (sym (release-open _ c.requires.1) ∙ sym (rw c.open_kind-kind.ensures at c.eq.ensures) ∙ c.if-eq.true) c.put.ensures c.put-then-eq.ensures

pub returns-else-eq : goal.returns-else-eq
returns-else-eq c =
    again_kept _ c.requires.0 _ c.requires.1 (sym (release-open _ c.requires.1) ∙ sym (rw c.open_kind-kind.ensures at c.eq.ensures) ∙ c.if-eq.false) c.put.ensures
