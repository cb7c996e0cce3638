-- `low` reads the last eight bytes.
use Rattle.std.proofs.Common.{◌∙◌, get_or}
use borrow.Author.Rules.{rules}
use mir.Syntax.{w8}
use mir.Val.{Fits}
use Rattle.laws.specs.Bits.{Sixteen}
use Rattle.laws.specs.Halves.{sixteen-lower}
use Rattle.prefix.proofs.whole.low.Goals as goal

pub returns : goal.returns
returns c =
    let sixteen : Sixteen c.args.q = record { long = search rules; bytes = λ i. (let f : Fits w8 (get_or c.args.q i 0) = search rules in f.fits) } in
    c.get.ensures.0 ∙ sixteen-lower _ sixteen
