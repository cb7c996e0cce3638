-- Each number is read at its place.
use Rattle.std.proofs.Common.{refl}
use Rattle.heard.proofs.Laws.{pd-read}
use Rattle.heard.proofs.pd_at.Goals as goal

pub returns : goal.returns
returns c = (c.prefixes_in-listed.ensures.0, λ h. pd-read c.args.msg.now c.args.start c.args.len _ c.u32_at-iaid.ensures c.u32_at-t1.ensures c.u32_at-t2.ensures refl (c.prefixes_in-listed.ensures.1 h))
