use Rattle.state.proofs.Laws.{state-long, state-9, state-1, state-0}
use Rattle.state.proofs.judge.by_state.Goals as goal

-- Each test in turn; what is tested is the whole slice.
pub returns-in_default : goal.returns-in_default
returns-in_default c = state-long _ _ c.in_default.ensures.1

pub returns-then-not-sound : goal.returns-then-not-sound
returns-then-not-sound c = rw c.in-Ok.ensures.1.same at (state-9 c.in-Ok.s.now c.args.time c.sound.ensures c.if-not-sound.true)

pub returns-then-time-last : goal.returns-then-time-last
returns-then-time-last c = rw c.in-Ok.ensures.1.same at (state-1 c.in-Ok.s.now c.args.time c.sound.ensures c.if-not-sound.false c.get-last.ensures.0 c.if-time-last.true)

pub returns : goal.returns
returns c = rw c.in-Ok.ensures.1.same at (state-0 c.in-Ok.s.now c.args.time c.sound.ensures c.if-not-sound.false c.get-last.ensures.0 c.if-time-last.false)
