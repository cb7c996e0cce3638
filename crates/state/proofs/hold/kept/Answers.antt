-- `kept` copies the bytes of what is held.
use Rattle.std.proofs.Common.{◌∙◌, arith}
use Rattle.rules.specs.Words.{part}
use Rattle.laws.specs.RouterChange.{held_bytes_lem}
use Rattle.laws.specs.RouterRepresent.{lent_length}
use Rattle.state.proofs.hold.kept.Goals as goal

pub slice_bounds-try_from-end : goal.slice_bounds-try_from-end
slice_bounds-try_from-end c = omega (arith, lent_length _ c.requires)

pub returns : goal.returns
unfolding part
returns c = (rw c.unwrap.ensures at c.try_from.ensures).1.same ∙ held_bytes_lem _ c.requires
