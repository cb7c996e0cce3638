-- 9, then 2; else the bytes of the record, or nothing.
use Rattle.std.proofs.Common.{not, ap, arith}
use Rattle.delegator.proofs.Laws.{shown-9, shown-2, table-held, shown-none, shown-row}
use Rattle.delegator.proofs.showing.record_at.Goals as goal

pub returns-then-not-sound-clause-word : goal.returns-then-not-sound-clause-word
returns-then-not-sound-clause-word c = shown-9 _ _ _ c.sound.ensures (ap not c.if-not-sound.true)

pub returns-then-out-lt153-clause-word : goal.returns-then-out-lt153-clause-word
returns-then-out-lt153-clause-word c = shown-2 _ _ _ c.sound.ensures (ap not c.if-not-sound.false) c.if-out-lt153.true

pub count_of-requires : goal.count_of-requires
count_of-requires c = omega (arith, (table-held _ c.sound.ensures (ap not c.if-not-sound.false)).size)

pub returns-then-count_of-index-clause-word : goal.returns-then-count_of-index-clause-word
returns-then-count_of-index-clause-word c = shown-none _ _ _ c.sound.ensures (ap not c.if-not-sound.false) c.if-out-lt153.false c.count_of.ensures c.if-count_of-index.true

pub slice_bounds-copy-end : goal.slice_bounds-copy-end
slice_bounds-copy-end c = let g = table-held _ c.sound.ensures (ap not c.if-not-sound.false) in omega (arith, g.size, g.few, c.count_of.ensures, c.if-count_of-index.false)

pub returns-clause-word : goal.returns-clause-word
returns-clause-word c = shown-row _ _ _ c.sound.ensures (ap not c.if-not-sound.false) c.if-out-lt153.false c.count_of.ensures c.if-count_of-index.false c.copy.ensures
