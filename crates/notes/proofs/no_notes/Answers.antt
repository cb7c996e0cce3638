-- By its parts.
use Rattle.notes.proofs.no_notes.Goals as goal

pub returns : goal.returns
returns c = rw c.nothing-none.ensures
