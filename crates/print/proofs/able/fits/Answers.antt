-- Sixteen bytes are of 128 bits.
use Rattle.std.proofs.Common.{get_or}
use borrow.Author.Rules.{rules}
use mir.Syntax.{w8}
use mir.Val.{Fits}
use Rattle.laws.specs.Bits.{Sixteen}
use Rattle.print.proofs.Alone.{fits-sixteen}
use Rattle.print.proofs.able.fits.Goals as goal

pub returns : goal.returns
returns c =
    let sixteen : Sixteen c.args.q = record { long = search rules; bytes = λ i. (let f : Fits w8 (get_or c.args.q i 0) = search rules in f.fits) } in
    fits-sixteen c.args.q c.args.a sixteen
