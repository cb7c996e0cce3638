-- `put_named` leaves the head, the code and the text.
use borrow.Author.Rules.{rules}
use native.Mathlib.Numerals.{add-two}
use Rattle.rules.specs.Options.{option}
use Rattle.laws.specs.Writes.{wrote_then, wrote-option}
use Rattle.print.proofs.put.put_named.Goals as goal

pub put_head-p-requires : goal.put_head-p-requires
unfolding option
put_head-p-requires c = search rules

pub put_u16-q-requires : goal.put_u16-q-requires
unfolding option
put_u16-q-requires c = search rules

pub put_bytes-requires : goal.put_bytes-requires
unfolding option
put_bytes-requires c = search rules

pub returns : goal.returns
unfolding option
returns c = wrote-option 13 _ (search rules) (add-two _) c.put_head-p.ensures
    (wrote_then (search rules) c.put_u16-q.ensures c.put_bytes.ensures)
