-- Its Status Codes are those of its options.
use Rattle.awaited.proofs.Laws.{prefix-says}
use Rattle.awaited.proofs.says_6.Goals as goal

pub returns : goal.returns
returns c = prefix-says c.args.msg.now c.args.p c.has_status.ensures
