use Rattle.decide.proofs.Laws.{size, within, aligned, bound-solicit, bound-request, bound-again, bound-freed, bound-kept}
use Rattle.decide.proofs.bound.Goals as goal

pub record_at-r-requires : goal.record_at-r-requires
record_at-r-requires c = (within _ c.requires.0 c.requires.2, size _ c.requires.0)

pub later_end-end-requires : goal.later_end-end-requires
later_end-end-requires c = (size _ c.requires.0, c.requires.1)

pub freed-requires : goal.freed-requires
freed-requires c = (aligned _ c.requires.0 _ c.requires.2 c.record_at-r.result c.record_at-r.ensures, c.requires.3)

pub returns-in-Solicit : goal.returns-in-Solicit
returns-in-Solicit c = bound-solicit _ c.requires.0 _ c.requires.2 c.record_at-r.result c.record_at-r.ensures _ _ c.in-Solicit.is

pub returns-in-Request : goal.returns-in-Request
returns-in-Request c = bound-request _ c.requires.0 _ c.requires.2 c.record_at-r.result c.record_at-r.ensures _ _ c.later_end-end.ensures c.in-Request.is

pub returns-in-Renew : goal.returns-in-Renew
returns-in-Renew c = bound-again _ c.requires.0 _ c.requires.2 c.record_at-r.result c.record_at-r.ensures _ _ c.later_end-end.ensures c.in-Renew.is

pub returns-then-freed : goal.returns-then-freed
returns-then-freed c = bound-freed _ c.requires.0 _ c.requires.2 c.record_at-r.result c.record_at-r.ensures _ _ c.freed.ensures c.in-Release.is c.if-freed.true

pub returns-else-freed : goal.returns-else-freed
returns-else-freed c = bound-kept _ c.requires.0 _ c.requires.2 c.record_at-r.result c.record_at-r.ensures _ _ c.freed.ensures c.in-Release.is c.if-freed.false
