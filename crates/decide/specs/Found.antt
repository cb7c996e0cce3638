-- What is promised once the identity's record was looked for: its place is known, or that there is none.
use Rattle.std.specs.Prelude.{◌≡◌, ℕ, Bool, true, false, ◌&&◌, List, Option, None, Some}
use Rattle.rules.specs.Words.{all, any}
use Rattle.rules.specs.Prefix.{same_prefix, Lease}
use Rattle.rules.specs.Clock.{Moment}
use Rattle.rules.specs.Identity.{Identity}
use Rattle.rules.specs.Message.{Listed}
use Rattle.rules.specs.Table.{Record, is_binding}
use Rattle.rules.specs.TableBytes.{table_of}
use Rattle.rules.specs.Box.{binding, same_except}
use Rattle.rules.specs.declared.Kind.{Kind}
use Rattle.laws.specs.Loops.{first_place}
use Rattle.plan.specs.declared.Plan.{Plan}
use Rattle.decide.specs.Decided.{Decided}

-- the asker's record is number k
pub record Bound (b : List ℕ) (now : Moment) (kind : Kind) (k : ℕ) (xs : List Listed) (p : Plan) : Type 0 where
  pub decided : (who : Identity) (asks : Bool) → first_place (is_binding who) (table_of b).records 0 ≡ Some k
      → Decided b now kind (record { who = who; asks = asks; listed = xs }) p

-- the asker has none
pub record Unbound (b : List ℕ) (now : Moment) (kind : Kind) (asks : Bool) (xs : List Listed) (p : Plan) : Type 0 where
  pub decided : (who : Identity) → binding who (table_of b).records ≡ None → Decided b now kind (record { who = who; asks = asks; listed = xs }) p

-- whether a Release that lists xs frees a record with that lease
abbrev pub frees : Lease → List Listed → Bool
frees l xs = any (λ x. same_prefix x.lease.prefix l.prefix) xs && all (λ x. same_except x.lease.except l.except) xs

-- whether there is one
abbrev pub is_there : Option Record → Bool
is_there None = false
is_there (Some r) = true
