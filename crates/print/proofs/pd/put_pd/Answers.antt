-- The content, its three numbers, its IA Prefixes and its status, and last the head in front of it.
use borrow.Author.Rules.{rules}
use Rattle.rules.specs.Words.{be}
use Rattle.laws.specs.Writes.{wrote_as, wrote_then, wrote-front}
use Rattle.print.specs.Bytes.{three_bytes}
use Rattle.print.proofs.Laws.{ia-split, ia-size, said-few, first-few}
use Rattle.print.proofs.pd.put_pd.Goals as goal

pub put_three-p-requires : goal.put_three-p-requires
put_three-p-requires c = let l = ia-size c.args.d in search rules

pub put_prefixes-q-requires : goal.put_prefixes-q-requires
unfolding three_bytes be
put_prefixes-q-requires c = let l = ia-size c.args.d in
    (c.requires.0.prefixes, search rules)

pub put_said-end-requires : goal.put_said-end-requires
unfolding three_bytes be
put_said-end-requires c = let l = ia-size c.args.d in
    (c.requires.0.status, search rules)

pub put_head-requires : goal.put_head-requires
unfolding three_bytes be
put_head-requires c = let l = ia-size c.args.d in
    let j = first-few c.args.d.count c.args.d.prefixes c.requires.0.prefixes c.requires.0.count in
    let k = said-few c.args.d.says c.args.d.status in
    search rules

pub returns : goal.returns
unfolding three_bytes be
returns c = let l = ia-size c.args.d in
    wrote-front 25 (search rules) (wrote_as (ia-split _)
    (wrote_then (search rules) c.put_three-p.ensures
    (wrote_then (search rules) c.put_prefixes-q.ensures c.put_said-end.ensures))) c.put_head.ensures
