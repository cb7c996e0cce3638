use Rattle.std.proofs.Common.{arith}
use Rattle.laws.specs.Change.{held}
use Rattle.act.proofs.Laws.{answer-able, answer-is, client-fits, own-fits, room_fits, written}
use Rattle.act.proofs.answer.answer.Goals as goal

-- The message that is written is the answer.
pub setup_of-requires : goal.setup_of-requires
setup_of-requires c = omega (arith, (held _ c.requires.0.sound).size)

pub write_message-requires : goal.write_message-requires
write_message-requires c = (
  client-fits _ _ _ _ c.requires.0 c.requires.2,
  own-fits _ _ _ _ c.requires.0 c.own_of.ensures,
  omega (arith, c.head_for-h.ensures.status),
  answer-able _ _ _ _ c.requires.0 _ c.setup_of.ensures _ c.pd_for-d.ensures.1 c.pd_for-d.ensures.2,
  room_fits _ _ _ _ c.requires.0 (answer-is _ _ _ _ c.requires.0 _ c.setup_of.ensures _ c.pd_for-d.ensures.0 c.has_pd.ensures _ c.head_for-h.ensures c.requires.2 c.own_of.ensures) c.requires.1,
)

pub returns : goal.returns
returns c = written _ _ _ _ (answer-is _ _ _ _ c.requires.0 _ c.setup_of.ensures _ c.pd_for-d.ensures.0 c.has_pd.ensures _ c.head_for-h.ensures c.requires.2 c.own_of.ensures) _ c.write_message.ensures
