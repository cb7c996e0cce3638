-- By what the walk over the message gives.
use Rattle.std.specs.Prelude.{is_ok}
use Rattle.std.proofs.Common.{◌∙◌, ap}
use Rattle.rules.specs.Message.{well_formed}
use Rattle.wire.proofs.check.well_formed.Goals as goal

pub returns : goal.returns
unfolding well_formed
returns c = c.is_ok.ensures.value ∙ ap is_ok c.check_area.ensures
