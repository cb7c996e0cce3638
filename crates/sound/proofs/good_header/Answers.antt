use Rattle.sound.proofs.Laws.{header_read}
use Rattle.sound.proofs.good_header.Goals as goal

pub returns : goal.returns
returns c = cc (header_read c.setup_of-s.result c.args.t.now c.setup_of-s.ensures)
