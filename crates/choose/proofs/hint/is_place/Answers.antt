-- `is_place`: the lower half is zero, and the tests of the upper one.
use Rattle.std.proofs.Common.{sym, rules, Fits, w64}
use Rattle.laws.specs.Choosing.{hint-lower, hint-upper}
use Rattle.choose.proofs.hint.is_place.Goals as goal

pub returns-then-h-ne0 : goal.returns-then-h-ne0
returns-then-h-ne0 c = let f : Fits w64 c.args.h.low = search rules in sym (hint-lower _ _ _ _ _ f.fits c.if-h-ne0.true)

pub returns : goal.returns
returns c = rw (c.could_be.ensures, c.is_free.ensures) (sym (hint-upper _ _ _ _ _ c.if-h-ne0.false))
