-- `is_aligned` shifts there and back.
use Rattle.std.proofs.Common.{sym, ◌∙◌, le_of_lt, rules, Fits, w64}
use Rattle.laws.specs.Halves.{zero-all, zero-none, zero-upper}
use Rattle.laws.specs.Bits.{shift_back}
use Rattle.prefix.proofs.half.Half.is_aligned.Goals as goal

pub returns-then-self-eq0 : goal.returns-then-self-eq0
returns-then-self-eq0 c = let f : Fits w64 c.args.self.upper = search rules in sym (zero-none _ _ f.fits c.if-self-eq0.true)

pub returns-then-self-ge64 : goal.returns-then-self-ge64
returns-then-self-ge64 c = sym (zero-all _ _ c.if-self-ge64.true)

pub returns : goal.returns
returns c = let f : Fits w64 c.args.self.upper = search rules in shift_back c.args.self.upper 64 _ f.fits ∙ sym (zero-upper _ _ (le_of_lt c.if-self-ge64.false))
