-- `has_duid`: by its length, and its bytes.
use Rattle.laws.specs.InPlace.{owner-other, owner-same}
use Rattle.fields.proofs.has_duid.Goals as goal

pub returns-then-duid_len-duid : goal.returns-then-duid_len-duid
returns-then-duid_len-duid c = owner-other _ _ c.requires.0 c.requires.1 _ c.duid_len.ensures.0 c.if-duid_len-duid.true

pub returns : goal.returns
returns c = owner-same _ _ c.requires.0 c.requires.1 _ c.duid_len.ensures.0 c.if-duid_len-duid.false c.are_bytes.ensures
