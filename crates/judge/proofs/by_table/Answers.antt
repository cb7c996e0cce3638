-- Each test in turn.
use Rattle.std.proofs.Common.{ap, not}
use Rattle.judge.proofs.Laws.{table-long, table-9, table-1, table-0}
use Rattle.judge.proofs.by_table.Goals as goal

pub returns-then-not-sound : goal.returns-then-not-sound
returns-then-not-sound c = table-9 _ _ c.sound.ensures (ap not c.if-not-sound.true)

pub last_of-last-requires : goal.last_of-last-requires
last_of-last-requires c = table-long _ c.sound.ensures (ap not c.if-not-sound.false)

pub returns-then-time-last : goal.returns-then-time-last
returns-then-time-last c = table-1 _ _ c.sound.ensures (ap not c.if-not-sound.false) c.last_of-last.ensures c.if-time-last.true

pub returns : goal.returns
returns c = table-0 _ _ c.sound.ensures (ap not c.if-not-sound.false) c.last_of-last.ensures c.if-time-last.false
