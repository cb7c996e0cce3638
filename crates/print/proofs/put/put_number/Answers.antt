-- `put_number` leaves the bytes of the number.
use Rattle.laws.specs.Writes.{wrote-all}
use Rattle.laws.specs.Numbers.{length-be}
use Rattle.print.proofs.put.put_number.Goals as goal

pub returns : goal.returns
returns c = wrote-all (length-be _ _) c.put.ensures
