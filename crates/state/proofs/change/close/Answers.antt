use Rattle.laws.specs.RouterChange.{close-made}
use Rattle.state.proofs.change.close.Goals as goal

-- `close` leaves what is held and known.
pub returns : goal.returns
returns c = close-made _ c.requires _ c.finish.ensures
