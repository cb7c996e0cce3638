-- `live_at`: the end is read at its place.
use Rattle.laws.specs.Records.{read-end}
use Rattle.fields.proofs.live_at.Goals as goal

pub returns : goal.returns
returns c = rw (read-end c.args.t.now c.args.i, c.get.ensures.0)
