-- `made` writes the flag, the prefix and the end, and the excluded prefix where there is one.
use Rattle.std.proofs.Common.{get_or}
use borrow.Author.Rules.{rules}
use mir.Syntax.{w8}
use mir.Val.{Fits}
use Rattle.laws.specs.Bits.{Sixteen}
use Rattle.laws.specs.RouterChange.{hold-bare, hold-less}
use Rattle.state.proofs.hold.made.Goals as goal

pub returns-then-b-eq0 : goal.returns-then-b-eq0
returns-then-b-eq0 c =
    let sixteen : Sixteen c.args.p × Sixteen c.args.e = (
      record { long = search rules; bytes = λ i. (let f : Fits w8 (get_or c.args.p i 0) = search rules in f.fits) },
      record { long = search rules; bytes = λ i. (let f : Fits w8 (get_or c.args.e i 0) = search rules in f.fits) },
    ) in
    hold-bare c.args.p _ c.args.b _ sixteen.0 c.put.ensures c.copy.ensures c.put-2.ensures c.put-3.ensures c.args.e c.if-b-eq0.true

pub returns-else-b-eq0 : goal.returns-else-b-eq0
returns-else-b-eq0 c =
    let sixteen : Sixteen c.args.p × Sixteen c.args.e = (
      record { long = search rules; bytes = λ i. (let f : Fits w8 (get_or c.args.p i 0) = search rules in f.fits) },
      record { long = search rules; bytes = λ i. (let f : Fits w8 (get_or c.args.e i 0) = search rules in f.fits) },
    ) in
    hold-less c.args.p _ c.args.b _ sixteen.0 c.put.ensures c.copy.ensures c.put-2.ensures c.put-3.ensures c.args.e sixteen.1 c.if-b-eq0.false c.less.ensures
