use Rattle.std.proofs.Common.{sym, le_of_lt}
use Rattle.laws.specs.Writes.{wrote_nothing, wrote_as}
use Rattle.print.proofs.Laws.{cut-none, cut-some, cut-encodable}
use Rattle.print.proofs.pd.put_cut.Goals as goal

-- The PD Exclude where there is an excluded prefix.
pub returns-then-x-eq0 : goal.returns-then-x-eq0
returns-then-x-eq0 c = wrote_as (sym (cut-none _ c.if-x-eq0.true)) wrote_nothing

pub put_exclude-requires : goal.put_exclude-requires
put_exclude-requires c = let e = cut-encodable _ c.requires.0 c.if-x-eq0.false in
    (le_of_lt e.more, e.most, e.clear, rw (cut-some c.args.x c.if-x-eq0.false) at c.requires.1)

pub returns : goal.returns
returns c = wrote_as (sym (cut-some _ c.if-x-eq0.false)) c.put_exclude.ensures
