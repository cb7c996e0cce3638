-- `record_at`: each field is read at its place.
use Rattle.laws.specs.Records.{read}
use Rattle.search.proofs.record_at.Goals as goal

pub returns : goal.returns
returns c = cc (read c.args.t.now c.args.i)
