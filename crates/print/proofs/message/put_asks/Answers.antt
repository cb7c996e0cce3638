use Rattle.std.proofs.Common.{refl, sym, ap, length}
use borrow.Author.Rules.{rules}
use Rattle.rules.specs.Options.{option}
use Rattle.laws.specs.Writes.{wrote_nothing, wrote_as, wrote-option}
use Rattle.print.proofs.Laws.{asks-yes, asks-no}
use Rattle.print.proofs.message.put_asks.Goals as goal

-- The Option Request, or nothing.
pub put_head-p-requires : goal.put_head-p-requires
unfolding option
put_head-p-requires c = let l = ap length (asks-yes c.if-asks.true) in search rules

pub put_u16-requires : goal.put_u16-requires
unfolding option
put_u16-requires c = let l = ap length (asks-yes c.if-asks.true) in search rules

pub returns-then-asks : goal.returns-then-asks
returns-then-asks c = wrote_as (sym (asks-yes c.if-asks.true))
    (wrote-option 6 2 (search rules) refl c.put_head-p.ensures c.put_u16.ensures)

pub returns : goal.returns
returns c = wrote_as (sym (asks-no c.if-asks.false)) wrote_nothing
