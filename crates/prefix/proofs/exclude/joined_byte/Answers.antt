-- `joined_byte`: in d, in p, or across the two.
use Rattle.std.proofs.Common.{refl, ◌∙◌, ◌+◌, ◌-◌, ◌*◌, arith, get_or}
use borrow.Author.Rules.{rules}
use mir.Syntax.{w8}
use mir.Val.{Fits}
use Rattle.laws.specs.Bits.{Sixteen, byte-first, byte-second, byte-across, across_lt}
use Rattle.prefix.proofs.exclude.joined_byte.Goals as goal

pub returns-then-a-k : goal.returns-then-a-k
returns-then-a-k c =
    let sixteen-p : Sixteen c.args.p = record { long = search rules; bytes = λ i. (let f : Fits w8 (get_or c.args.p i 0) = search rules in f.fits) } in
    let sixteen-d : Sixteen c.args.d = record { long = search rules; bytes = λ i. (let f : Fits w8 (get_or c.args.d i 0) = search rules in f.fits) } in
    c.bits.ensures ∙ byte-second c.args.p _ _ _ sixteen-p sixteen-d c.requires.0 c.requires.1 c.if-a-k.true

pub returns-then-k-a : goal.returns-then-k-a
returns-then-k-a c =
    let sixteen-p : Sixteen c.args.p = record { long = search rules; bytes = λ i. (let f : Fits w8 (get_or c.args.p i 0) = search rules in f.fits) } in
    let sixteen-d : Sixteen c.args.d = record { long = search rules; bytes = λ i. (let f : Fits w8 (get_or c.args.d i 0) = search rules in f.fits) } in
    byte-first _ _ _ _ sixteen-p sixteen-d c.requires.0 c.requires.1 c.if-k-a.true

pub overflow_add-result : goal.overflow_add-result
overflow_add-result c =
    let sixteen-p : Sixteen c.args.p = record { long = search rules; bytes = λ i. (let f : Fits w8 (get_or c.args.p i 0) = search rules in f.fits) } in
    let sixteen-d : Sixteen c.args.d = record { long = search rules; bytes = λ i. (let f : Fits w8 (get_or c.args.d i 0) = search rules in f.fits) } in
    omega (arith, across_lt c.args.p c.args.d c.args.a c.args.k sixteen-p sixteen-d c.requires.0 c.requires.1 (8 * c.args.k + 8 - c.args.a) refl c.if-a-k.false c.if-k-a.false)

pub returns : goal.returns
returns c =
    let sixteen-p : Sixteen c.args.p = record { long = search rules; bytes = λ i. (let f : Fits w8 (get_or c.args.p i 0) = search rules in f.fits) } in
    let sixteen-d : Sixteen c.args.d = record { long = search rules; bytes = λ i. (let f : Fits w8 (get_or c.args.d i 0) = search rules in f.fits) } in
    byte-across _ _ _ _ sixteen-p sixteen-d c.requires.0 c.requires.1 _ refl c.if-a-k.false c.if-k-a.false
