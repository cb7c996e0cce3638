-- The walk and the judgement of one option, which call each other: a level is above those inside it.
-- The invariant: what the whole area gives is what the rest gives.
use Rattle.std.proofs.Common.{◌≡◌, ◌+◌, ◌-◌, ◌*◌, ◌≤◌}
use Rattle.rules.specs.Options.{area_of, own, scan}
use Rattle.wire.proofs.Laws.{rank}
use Rattle.wire.proofs.check.+levels.Given as goal

abbrev pub decreases-check_area : goal.decreases-check_area
decreases-check_area l = 4 * rank l.l + 3

abbrev pub decreases-check_one : goal.decreases-check_one
decreases-check_one l = 4 * rank l.l + 2

abbrev pub decreases-in_pd : goal.decreases-in_pd
decreases-in_pd l = 5

abbrev pub decreases-in_top : goal.decreases-in_top
decreases-in_top l = 9

abbrev pub invariant-check_area-loop-code : goal.invariant-check_area-loop-code
invariant-check_area-loop-code l = (l.seen ≤ l.p) × (scan (own l.l l.msg) 0 (area_of l.msg l.at l.end) ≡ scan (own l.l l.msg) l.seen (area_of l.msg l.p l.end))

abbrev pub decreases-check_area-loop-code : goal.decreases-check_area-loop-code
decreases-check_area-loop-code l = l.end - l.p
