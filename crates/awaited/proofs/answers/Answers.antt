-- The numbers are read at their places.
use Rattle.awaited.proofs.Laws.{answer-read}
use Rattle.awaited.proofs.answers.Goals as goal

pub returns : goal.returns
returns c = answer-read _ _ c.args.kind c.get-next.ensures.0 c.get-number.ensures.0 c.u8_at-answer.ensures.0
