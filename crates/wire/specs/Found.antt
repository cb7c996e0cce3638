-- Where an option that was found lies.
--   Within            it ends at or before a place, if there is one
--   nth-within        the k-th of an area ends inside the message
use Rattle.std.specs.Prelude.{◌≡◌, ℕ, ◌+◌, ◌≤◌, List, length, None, Option, Some}
use Rattle.std.proofs.Common.{sym, arith}
use Rattle.rules.specs.Options.{area_of, nth}
use Rattle.rules.specs.declared.Spot.{Spot}
use Rattle.laws.specs.Walk.{nth_inside}

abbrev pub Within : ℕ → Option Spot → Type 0
Within e (Some o) = o.start + o.len ≤ e
Within e None = Unit {0}

pub nth-within : (w k : ℕ) (m : List ℕ) (at e : ℕ) (f : Option Spot) → e ≤ length m → f ≡ nth w k (area_of m at e) → Within (length m) f
nth-within w k m at e (Some o) h q = omega (arith, nth_inside w k m at e (sym q))
nth-within w k m at e None h q = tt
