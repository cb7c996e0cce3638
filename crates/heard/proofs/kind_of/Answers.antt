-- By the type.
use Rattle.heard.proofs.Laws.{kind-read}
use Rattle.heard.proofs.kind_of.Goals as goal

pub returns : goal.returns
returns c = kind-read _ c.u8_at.ensures.0 c.try_from.ensures c.unwrap_or.ensures
