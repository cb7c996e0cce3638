-- The numbers are read at their places.
use Rattle.awaited.proofs.Laws.{pd-read}
use Rattle.awaited.proofs.good_pd.Goals as goal

pub returns : goal.returns
returns c = pd-read _ _ c.args.o c.get-own.ensures.0 c.u32_at-iaid.ensures c.u32_at-t1.ensures c.u32_at-t2.ensures
