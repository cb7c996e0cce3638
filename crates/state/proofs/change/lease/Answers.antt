-- `lease` copies the bytes of the delegation, where one is held.
use Rattle.std.proofs.Common.{sym, ◌∙◌, arith}
use Rattle.rules.specs.Words.{part}
use Rattle.laws.specs.RouterRepresent.{lent_length}
use Rattle.state.proofs.Laws.{lease-read}
use Rattle.state.proofs.change.lease.Goals as goal

pub slice_bounds-try_from-end : goal.slice_bounds-try_from-end
slice_bounds-try_from-end c = omega (arith, lent_length _ c.requires)

pub returns : goal.returns
unfolding part
returns c = (rw c.unwrap.ensures at c.try_from.ensures).1.same ∙ lease-read _ _ c.requires (sym c.is_held.ensures ∙ c.if-not-is_held.false)
