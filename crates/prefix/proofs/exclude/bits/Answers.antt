use Rattle.std.proofs.Common.{sym, arith, get_or}
use borrow.Author.Rules.{rules}
use mir.Syntax.{w8}
use mir.Val.{Fits}
use Rattle.laws.specs.Bits.{Sixteen, taken_none, taken-lt, taken_more, taken-all, bits-past}
use Rattle.prefix.proofs.exclude.bits.Goals as goal

pub returns-then-i-ge128 : goal.returns-then-i-ge128
returns-then-i-ge128 c =
    let sixteen : Sixteen c.args.q = record { long = search rules; bytes = λ i. (let f : Fits w8 (get_or c.args.q i 0) = search rules in f.fits) } in
    sym (bits-past _ _ sixteen.long c.if-i-ge128.true)

pub loop-k-init : goal.loop-k-init
loop-k-init c = taken_none _ _

pub overflow_mul-v : goal.overflow_mul-v
overflow_mul-v c = let f = taken-lt _ _ _ _ c.loop-k-test.true c.loop-k.invariant in omega arith

pub overflow_add-v : goal.overflow_add-v
overflow_add-v c = let f = taken-lt _ _ _ _ c.loop-k-test.true c.loop-k.invariant in omega arith

pub loop-k-preserved : goal.loop-k-preserved
loop-k-preserved c =
    let sixteen : Sixteen c.args.q = record { long = search rules; bytes = λ i. (let f : Fits w8 (get_or c.args.q i 0) = search rules in f.fits) } in
    taken_more _ sixteen.bytes _ _ _ _ c.loop-k-test.true c.loop-k.invariant c.bit.ensures.0

pub returns : goal.returns
returns c = taken-all _ _ _ _ (omega arith) c.loop-k-test.false c.loop-k.invariant
