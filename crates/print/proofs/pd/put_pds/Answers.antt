use Rattle.std.proofs.Common.{sym}
use Rattle.laws.specs.Writes.{wrote_nothing, wrote_as}
use Rattle.print.proofs.Laws.{pd-yes, pd-no}
use Rattle.print.proofs.pd.put_pds.Goals as goal

-- The IA_PD, or nothing.
pub put_pd-requires : goal.put_pd-requires
put_pd-requires c = (c.requires.0, rw (pd-yes c.args.d c.if-has.true) at c.requires.1)

pub returns-then-has : goal.returns-then-has
returns-then-has c = wrote_as (sym (pd-yes _ c.if-has.true)) c.put_pd.ensures

pub returns : goal.returns
returns c = wrote_as (sym (pd-no _ c.if-has.false)) wrote_nothing
