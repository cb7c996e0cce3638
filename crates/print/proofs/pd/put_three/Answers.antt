-- The three numbers, one after another.
use borrow.Author.Rules.{rules}
use Rattle.rules.specs.Words.{be}
use Rattle.laws.specs.Writes.{wrote_then}
use Rattle.print.specs.Bytes.{three_bytes}
use Rattle.print.proofs.pd.put_three.Goals as goal

pub put_number-q-requires : goal.put_number-q-requires
unfolding be
put_number-q-requires c = search rules

pub put_number-requires : goal.put_number-requires
unfolding be
put_number-requires c = search rules

pub returns : goal.returns
unfolding three_bytes be
returns c = wrote_then (search rules) c.put_number-p.ensures
    (wrote_then (search rules) c.put_number-q.ensures c.put_number.ensures)
