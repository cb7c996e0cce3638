use Rattle.std.proofs.Common.{refl}
use Rattle.act.proofs.Laws.{possible, carried, unchanged}
use Rattle.act.proofs.carry.carry_out.Goals as goal

-- src/carry.rt:19:13
pub append-requires : goal.append-requires
append-requires c = (c.requires.0, possible _ c.in-Bind.is c.requires.1, c.requires.2)

-- src/carry.rt:35:13
pub extend_at-requires : goal.extend_at-requires
extend_at-requires c = (c.requires.0, possible _ c.in-Extend.is c.requires.1)

-- src/carry.rt:38:13
pub remove_at-requires : goal.remove_at-requires
remove_at-requires c = (c.requires.0, possible _ c.in-Free.is c.requires.1)

-- src/carry.rt:12:1
pub returns-in-Offer : goal.returns-in-Offer
returns-in-Offer c = unchanged _ _ c.in-Offer.is c.requires.0 refl

-- src/carry.rt:12:1
pub returns-in-Bind : goal.returns-in-Bind
returns-in-Bind c = carried _ _ c.in-Bind.is c.append.ensures

-- src/carry.rt:12:1
pub returns-in-Extend : goal.returns-in-Extend
returns-in-Extend c = carried _ _ c.in-Extend.is c.extend_at.ensures

-- src/carry.rt:12:1
pub returns-in-Free : goal.returns-in-Free
returns-in-Free c = carried _ _ c.in-Free.is c.remove_at.ensures

-- src/carry.rt:12:1
pub returns-in-Return : goal.returns-in-Return
returns-in-Return c = unchanged _ _ c.in-Return.is c.requires.0 refl

-- src/carry.rt:12:1
pub returns-in-Say : goal.returns-in-Say
returns-in-Say c = unchanged _ _ c.in-Say.is c.requires.0 refl

-- src/carry.rt:12:1
pub returns-in-Silence : goal.returns-in-Silence
returns-in-Silence c = unchanged _ _ c.in-Silence.is c.requires.0 refl
