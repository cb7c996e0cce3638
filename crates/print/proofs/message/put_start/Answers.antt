-- The type, then the number.
use Rattle.std.proofs.Common.{◌<◌}
use borrow.Author.Rules.{rules}
use Rattle.rules.specs.Words.{be}
use Rattle.laws.specs.Writes.{wrote_as, wrote_then, be-8}
use Rattle.print.proofs.message.put_start.Goals as goal

pub put_number-requires : goal.put_number-requires
unfolding be
put_number-requires c = search rules

pub returns : goal.returns
unfolding be
returns c =
    let kind : c.args.kind < 256 = search rules in
    wrote_then (search rules) (wrote_as (be-8 _ kind) c.put_number-p.ensures)
    c.put_number.ensures
