-- `put_head` leaves the code and the length.
use borrow.Author.Rules.{rules}
use Rattle.laws.specs.Writes.{wrote_then}
use Rattle.print.proofs.put.put_head.Goals as goal

pub returns : goal.returns
returns c = wrote_then (search rules) c.put_u16-p.ensures c.put_u16.ensures
