-- By what is read of it.
use Rattle.receiving.proofs.Laws.{taken-read}
use Rattle.receiving.proofs.is_taken.Goals as goal

pub returns : goal.returns
returns c = taken-read c.args.msg.now c.args.p c.prefix_at.result c.prefix_at.ensures c.takes.ensures
