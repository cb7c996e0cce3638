-- Each test in turn.
use Rattle.std.proofs.Common.{arith}
use Rattle.requester.proofs.Tests.{times-small, times-11, times-12, times-0}
use Rattle.requester.proofs.judging.by_times.Goals as goal

pub returns-then-is_open : goal.returns-then-is_open
returns-then-is_open c = times-11 _ _ c.is_open.ensures c.if-is_open.true

pub overflow_add-started : goal.overflow_add-started
overflow_add-started c = record { fits = omega (arith, times-small _ c.requires, c.get-started.ensures.0) }

pub overflow_add-freed : goal.overflow_add-freed
overflow_add-freed c = record { fits = omega (arith, times-small _ c.requires, c.get-freed.ensures.0) }

pub returns-then-time-started : goal.returns-then-time-started
returns-then-time-started c = times-12 _ _ c.is_open.ensures c.if-is_open.false c.get-started.ensures.0 c.get-freed.ensures.0 c.get-began.ensures.0 c.if-time-started.true

pub returns : goal.returns
returns c = times-0 _ _ c.is_open.ensures c.if-is_open.false c.get-started.ensures.0 c.get-freed.ensures.0 c.get-began.ensures.0 c.if-time-started.false
