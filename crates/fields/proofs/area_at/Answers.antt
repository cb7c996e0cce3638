-- `area_at`: the two numbers of the prefix are read at their places.
use Rattle.laws.specs.Records.{read-area}
use Rattle.fields.proofs.area_at.Goals as goal

pub returns : goal.returns
returns c = read-area _ _ c.get-upper.ensures.0 c.get-length.ensures.0
