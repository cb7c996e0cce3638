-- A refusal's number is at most 14, so that its word fits.
use Rattle.std.proofs.Common.{arith, ◌≤◌}
use Rattle.rules.specs.Refusals.{number_of}
use Rattle.rules.specs.declared.Refusal.{Refusal}
use Rattle.rules.specs.declared.Refusal.TheVariants.{Time, Room, Size, Unserved, Malformed, Identity, Delegation, Silence, Unsound, Settings, Busy, Early, State, Unawaited}
use Rattle.firmware.proofs.word.Goals as goal

few : (r : Refusal) → number_of r ≤ 14
few Time = omega arith
few Room = omega arith
few Size = omega arith
few Unserved = omega arith
few Malformed = omega arith
few Identity = omega arith
few Delegation = omega arith
few Silence = omega arith
few Unsound = omega arith
few Settings = omega arith
few Busy = omega arith
few Early = omega arith
few State = omega arith
few Unawaited = omega arith

pub overflow_mul-result : goal.overflow_mul-result
overflow_mul-result c = omega (arith, few c.in-Err.e, c.from.ensures)
