use Rattle.std.proofs.Common.{refl}
use borrow.Author.Rules.{rules}
use Rattle.rules.specs.Options.{option}
use Rattle.laws.specs.Writes.{wrote-option}
use Rattle.print.proofs.put.put_option.Goals as goal

-- `put_option` leaves the head, then the content.
pub put_head-p-requires : goal.put_head-p-requires
unfolding option
put_head-p-requires c = search rules

pub put_bytes-requires : goal.put_bytes-requires
unfolding option
put_bytes-requires c = search rules

pub returns : goal.returns
unfolding option
returns c = wrote-option _ _ (search rules) refl c.put_head-p.ensures
    c.put_bytes.ensures
