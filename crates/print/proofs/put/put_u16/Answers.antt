-- `put_u16` leaves two bytes.
use Rattle.laws.specs.Writes.{wrote_as, be-16}
use Rattle.print.proofs.put.put_u16.Goals as goal

pub returns : goal.returns
returns c = wrote_as (be-16 _ c.requires.0) c.put_number.ensures
