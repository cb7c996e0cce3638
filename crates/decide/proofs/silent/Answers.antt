-- By whether the identity has a live binding, and whether the prefixes are gone.
use Rattle.decide.proofs.Laws.{size, silent-rebind}
use Rattle.decide.proofs.silent.Goals as goal

pub all_gone-requires : goal.all_gone-requires
all_gone-requires c = (size _ c.requires.0, c.requires.1)

pub returns : goal.returns
returns c = silent-rebind _ _ _ _ c.is_live.ensures c.all_gone.ensures
