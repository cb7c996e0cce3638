-- Laws that only these proofs need: the delegation that is offered, and the other listed prefixes with it.
use mathlib.Core.Path.{◌≡◌}
use mathlib.Core.Bool.{Bool, true, false, cond}
use mathlib.Core.List.{List, []}
use Rattle.std.specs.Prelude.{Option}
use Prim.Native.Nat.{ℕ, ◌*◌, ◌^◌, ◌≤◌}
use native.Mathlib.Omega.{arith}
use Rattle.rules.specs.Words.{num}
use Rattle.rules.specs.Prefix.{Prefix, prefix, lease, last64}
use Rattle.rules.specs.Message.{Listed}
use Rattle.rules.specs.Settings.{Settings}
use Rattle.rules.specs.Box.{others, offered}
use Rattle.prefix.specs.Upper.{upper}
use Rattle.values.specs.Values.{except_of, first_listed}
use Rattle.values.specs.declared.IaPrefix.{IaPrefix}
use Rattle.plan.specs.Plan.{lease_of}
use Rattle.plan.specs.declared.Delegation.{Delegation}

-- sixteen bytes, and those of what is excluded
module _ (s : Settings) (d : Delegation) (bits : List ℕ) (e : num bits ≡ d.prefix * 2 ^ 64) where
  abbrev with_except : Option Prefix → Listed
  with_except x = record { preferred = s.preferred; valid = s.valid; lease = lease (prefix (num bits) d.length) x; statuses = [] }

  pub offered-whole : (out : List ℕ) → d.excluded ≡ false → with_except (except_of 0 out) ≡ offered s (lease_of d)
  unfolding except_of
  offered-whole out f = rw (e, f)

  pub offered-cut : (out : List ℕ) (l : ℕ) → d.excluded ≡ true → upper l 64 ≡ last64 (lease_of d).prefix → num out ≡ l * 2 ^ 64
      → with_except (except_of 64 out) ≡ offered s (lease_of d)
  unfolding except_of
  offered-cut out l f u g = rw (e, f, g, ← u)

-- the others, where they are asked for
module _ (p : Prefix) (xs : List IaPrefix) (n : ℕ) where
  pub others-back : (b : Bool) {k : ℕ} → k ≡ cond b n 0 → others p (first_listed k xs) ≡ cond b (others p (first_listed n xs)) []
  unfolding others
  others-back true e = rw e
  others-back false e = rw e

pub back-few : (b : Bool) {k n : ℕ} → k ≡ cond b n 0 → n ≤ 4 → k ≤ 4
back-few true e h = omega arith
back-few false e h = omega arith
