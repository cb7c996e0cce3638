-- By whether the record is live, and whether it stands at its place.
use Rattle.std.proofs.Common.{ap, refl, sym, add-zero}
use borrow.Author.Rules.{rules}
use Rattle.rules.specs.TableBytes.{place}
use Rattle.leases.proofs.Laws.{live-read, stays}
use Rattle.leases.proofs.ended.step.Goals as goal

pub returns-then-i-j : goal.returns-then-i-j
returns-then-i-j c = rw (live-read _ _ _ c.live_at.ensures c.if-live_at.true) (refl, stays _ _ _ _ (ap place c.if-i-j.true) (search rules))

pub returns-then-live_at : goal.returns-then-live_at
returns-then-live_at c = rw (live-read _ _ _ c.live_at.ensures c.if-live_at.true) (refl, c.shift.ensures)

pub returns : goal.returns
returns c = rw (live-read _ _ _ c.live_at.ensures c.if-live_at.false) (sym (add-zero _), refl)
