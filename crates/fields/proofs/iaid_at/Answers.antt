-- `iaid_at`: the IAID is read at its place.
use Rattle.laws.specs.Records.{read-iaid}
use Rattle.fields.proofs.iaid_at.Goals as goal

pub returns : goal.returns
returns c = cc (read-iaid c.args.t.now c.args.i)
