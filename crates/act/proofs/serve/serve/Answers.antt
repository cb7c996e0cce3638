-- The IA_PD, the asker and the kind as they are read; the decision, the answer and the change.
use Rattle.act.proofs.Laws.{ready-answer, ready-carry, served-is}
use Rattle.act.proofs.serve.serve.Goals as goal

pub answer-n-requires : goal.answer-n-requires
answer-n-requires c = (ready-answer _ _ _ c.requires.0 _ c.requires.3.is c.client_of-client.ensures c.kind_of.ensures c.requires.2.asks _ c.decide-p.ensures c.requires.3.few, c.requires.1, c.client_of-client.ensures)

pub carry_out-requires : goal.carry_out-requires
carry_out-requires c = ready-carry _ _ _ c.requires.0 _ c.requires.3.is c.client_of-client.ensures c.kind_of.ensures c.requires.2.asks _ c.decide-p.ensures

pub returns : goal.returns
returns c = served-is _ _ _ c.requires.0 _ c.requires.3.is c.client_of-client.ensures c.kind_of.ensures c.requires.2.asks _ c.decide-p.ensures _ c.answer-n.ensures c.carry_out.ensures
