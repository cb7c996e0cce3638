-- `last_place`: the ones after the first bits make the last address.
use Rattle.std.proofs.Common.{arith, rules, Fits, w64}
use Rattle.laws.specs.Places.{half-last, half-fits, half-number}
use Rattle.choose.proofs.walk.last_place.Goals as goal

pub overflow_add-end : goal.overflow_add-end
overflow_add-end c = let f : Fits w64 c.args.p.upper = search rules in record { fits = half-fits _ _ (omega arith) f.fits c.requires.3 }

pub returns : goal.returns
returns c = let f : Fits w64 c.args.p.upper = search rules in (half-last _ _ (omega arith) _ (omega arith), half-number _ _ (omega arith) (half-fits _ _ (omega arith) f.fits c.requires.3))
