-- Both options together are the row.
use Rattle.heard.proofs.Laws.{rows-hold}
use Rattle.heard.proofs.row_holds.Goals as goal

pub returns : goal.returns
returns c = rows-hold c.args.own.now c.args.msg.now c.u8_at-kind.ensures.0 c.ids_hold.ensures c.ids_hold-2.ensures
