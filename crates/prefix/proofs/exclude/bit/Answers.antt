-- `bit` reads one bit of a byte, or is past the end.
use Rattle.std.proofs.Common.{refl, sym, arith, get_or}
use borrow.Author.Rules.{rules}
use mir.Syntax.{w8}
use mir.Val.{Fits}
use Rattle.laws.specs.Bits.{bit_at, Sixteen, bit_past}
use Rattle.prefix.proofs.exclude.bit.Goals as goal

pub returns-then-i-ge128 : goal.returns-then-i-ge128
returns-then-i-ge128 c =
    let sixteen : Sixteen c.args.q = record { long = search rules; bytes = λ i. (let f : Fits w8 (get_or c.args.q i 0) = search rules in f.fits) } in
    (sym (bit_past _ _ sixteen.long c.if-i-ge128.true), omega arith)

pub returns : goal.returns
unfolding bit_at
returns c = (refl, omega arith)
