use Rattle.std.proofs.Common.{ap, ◌∙◌}
use Rattle.std.specs.Result.{result_ok}
use Rattle.state.proofs.Laws.{kind-read}
use Rattle.state.proofs.reads.open_kind.Goals as goal

pub returns : goal.returns
returns c = c.ok.ensures.value ∙ ap result_ok c.try_from.ensures ∙ kind-read _ c.requires c.get.ensures.0
