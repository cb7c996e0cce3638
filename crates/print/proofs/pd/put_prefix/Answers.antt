-- The content, its fields and then its PD Exclude, and last the head in front of it.
use borrow.Author.Rules.{rules}
use Rattle.rules.specs.Words.{be}
use Rattle.laws.specs.Writes.{wrote_as, wrote_then, wrote-front}
use Rattle.print.specs.Bytes.{fixed_bytes, prefix_bytes}
use Rattle.print.proofs.Laws.{listed-split, prefix-size, prefix-length, cut-few}
use Rattle.print.proofs.pd.put_prefix.Goals as goal

pub put_fixed-p-requires : goal.put_fixed-p-requires
put_fixed-p-requires c = let l = prefix-size c.args.x in
    let k = prefix-length c.args.x c.requires.0 in
    search rules

pub put_cut-end-requires : goal.put_cut-end-requires
unfolding fixed_bytes be
put_cut-end-requires c = let l = prefix-size c.args.x in search rules

pub put_head-requires : goal.put_head-requires
unfolding fixed_bytes be
put_head-requires c = let l = prefix-size c.args.x in
    let k = cut-few c.args.x c.requires.0 in
    search rules

pub returns : goal.returns
unfolding prefix_bytes fixed_bytes be
returns c = let l = prefix-size c.args.x in
    wrote-front 26 (search rules) (wrote_as (listed-split _)
    (wrote_then (search rules) c.put_fixed-p.ensures c.put_cut-end.ensures)) c.put_head.ensures
