-- What a plan means: the records that it leaves, and what is said.
use Rattle.std.specs.Prelude.{◌≡◌, ℕ, ◌≤◌, ◌<◌, Bool, true, false, cond, List, [], map}
use Rattle.rules.specs.Prefix.{zero_after, Lease}
use Rattle.rules.specs.Identity.{Duid, Identity, identity}
use Rattle.rules.specs.Message.{Listed}
use Rattle.rules.specs.Table.{Record}
use Rattle.rules.specs.TableBytes.{leased}
use Rattle.rules.specs.Box.{bind, others, returned, Verdict, offer, return, say, success, silence, Served, leaves, Asked}
use Rattle.laws.specs.One.{changed, without}
use Rattle.laws.specs.Change.{ending}
use Rattle.values.specs.Values.{first_listed}
use Rattle.values.specs.declared.Pd.{Pd}
use Rattle.plan.specs.declared.Delegation.{Delegation}
use Rattle.plan.specs.declared.Plan.{Plan}
use Rattle.plan.specs.declared.Plan.TheVariants.{Offer, Bind, Extend, Free, Return, Say, Silence}

abbrev pub lease_of : Delegation → Lease
lease_of d = leased d.prefix d.length d.excluded

-- an IA_PD as it is asked, by the bytes of the asker's DUID
abbrev pub asked_of : Duid → Bool → Pd → Asked
asked_of duid asks q = record { who = identity duid q.iaid; asks = asks; listed = first_listed q.count q.prefixes }

abbrev pub records_after : Identity → List Record → Plan → List Record
records_after i rs (Offer l) = rs
records_after i rs (Bind l e) = bind i (lease_of l) e rs
records_after i rs (Extend k e l b) = changed (ending e) k rs
records_after i rs (Free k) = without k rs
records_after i rs Return = rs
records_after i rs (Say n) = rs
records_after i rs Silence = rs

abbrev pub verdict_of : List Listed → Plan → Verdict
verdict_of xs (Offer l) = offer (lease_of l) []
verdict_of xs (Bind l e) = offer (lease_of l) []
verdict_of xs (Extend k e l b) = offer (lease_of l) (cond b (others (lease_of l).prefix xs) [])
verdict_of xs (Free k) = success
verdict_of xs Return = return (map returned xs)
verdict_of xs (Say n) = say n
verdict_of xs Silence = silence

abbrev pub carried_out : Asked → List Record → Plan → Served
carried_out q rs p = leaves (records_after q.who rs p) (verdict_of q.listed p)

-- it can be carried out on n records
abbrev pub Possible : ℕ → Plan → Type 0
Possible n (Offer l) = Unit {0}
Possible n (Bind l e) = n < 256
Possible n (Extend k e l b) = k < n
Possible n (Free k) = k < n
Possible n Return = Unit {0}
Possible n (Say k) = Unit {0}
Possible n Silence = Unit {0}

-- an IA_PD stands in the answer
abbrev pub has_pd : Plan → Bool
has_pd (Offer l) = true
has_pd (Bind l e) = true
has_pd (Extend k e l b) = true
has_pd (Free k) = false
has_pd Return = true
has_pd (Say n) = true
has_pd Silence = false

-- the delegation has zero bits after its length, which is at most 60
pub record Aligned (d : Delegation) : Type 0 where
  pub short : d.length ≤ 60
  pub zeros : zero_after (lease_of d).prefix ≡ true

-- what it offers can be sent
abbrev pub Sendable : Plan → Type 0
Sendable (Offer l) = Aligned l
Sendable (Bind l e) = Aligned l
Sendable (Extend k e l b) = Aligned l
Sendable (Free k) = Unit {0}
Sendable Return = Unit {0}
Sendable (Say n) = n < 65536
Sendable Silence = Unit {0}
