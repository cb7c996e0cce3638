use Rattle.std.proofs.Common.{ap, ◌∙◌}
use Rattle.std.specs.Option.{is_some}
use Rattle.requester.proofs.Tests.{some-open}
use Rattle.requester.proofs.judging.is_open.Goals as goal

pub returns : goal.returns
returns c = c.is_some.ensures ∙ ap is_some c.open_kind.ensures ∙ some-open _
