use Rattle.std.proofs.Common.{◌≡◌, ◌-◌}
use Rattle.wire.specs.Spots.{left}
use Rattle.wire.proofs.options.OptionsIterator.next.Given as goal

-- The invariant: what is still to come is what was still to come at first.
abbrev pub invariant-loop-code : goal.invariant-loop-code
invariant-loop-code l = left l.initial.self ≡ left l.self

abbrev pub decreases-loop-code : goal.decreases-loop-code
decreases-loop-code l = l.self.end - l.self.at
