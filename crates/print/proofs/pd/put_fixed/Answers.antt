-- The four fields, one after another.
use Rattle.std.proofs.Common.{get_or}
use borrow.Author.Rules.{rules}
use mir.Syntax.{w8}
use mir.Val.{Fits}
use Rattle.rules.specs.Words.{be}
use Rattle.laws.specs.Bits.{Sixteen}
use Rattle.laws.specs.Writes.{wrote_as, wrote_then, be-8, be-sixteen}
use Rattle.print.specs.Bytes.{fixed_bytes}
use Rattle.print.proofs.pd.put_fixed.Goals as goal

pub put_number-q-requires : goal.put_number-q-requires
unfolding be
put_number-q-requires c = search rules

pub put_number-r-requires : goal.put_number-r-requires
unfolding be
put_number-r-requires c = search rules

pub put_bytes-requires : goal.put_bytes-requires
unfolding be
put_bytes-requires c = search rules

pub returns : goal.returns
unfolding fixed_bytes be
returns c =
    let sixteen : Sixteen c.args.bits = record { long = search rules; bytes = λ i. (let f : Fits w8 (get_or c.args.bits i 0) = search rules in f.fits) } in
    wrote_then (search rules) c.put_number-p.ensures
    (wrote_then (search rules) c.put_number-q.ensures
    (wrote_then (search rules) (wrote_as (be-8 _ c.requires.0) c.put_number-r.ensures)
    (wrote_as (be-sixteen _ sixteen) c.put_bytes.ensures)))
