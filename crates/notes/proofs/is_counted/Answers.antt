use Rattle.std.proofs.Common.{refl}
use Rattle.notes.specs.Noted.{is_counted}
use Rattle.notes.proofs.is_counted.Goals as goal

-- By the three codes.
pub returns : goal.returns
unfolding is_counted
returns c = refl
