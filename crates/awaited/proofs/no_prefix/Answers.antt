-- At the three levels.
use Rattle.awaited.proofs.Laws.{says-read}
use Rattle.awaited.proofs.no_prefix.Goals as goal

pub returns : goal.returns
returns c = says-read c.args.msg.now c.args.o c.has_status-here.ensures c.has_status-inside.ensures c.prefix_says_6.ensures
