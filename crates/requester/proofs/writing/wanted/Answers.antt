-- A zero prefix.
use Rattle.requester.proofs.Message.{wanted-made}
use Rattle.requester.proofs.writing.wanted.Goals as goal

pub returns : goal.returns
returns c = wanted-made _ c.get-length.ensures.0
