use Rattle.cells.proofs.Laws.{read}
use Rattle.cells.proofs.get.Goals as goal

pub returns : goal.returns
returns c = read _ _ _ c.type_inv.t c.requires.0 c.requires.1 c.copy_from_slice.ensures.after c.from_be_bytes.ensures
