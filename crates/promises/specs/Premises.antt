-- The premises are needed: with one of them changed, and all else as it stands, some steps lead to one prefix in two houses. Each trace
-- is played twice: with the change it ends with a prefix lent twice, and as the rules stand it doesn't.
use Rattle.std.specs.Prelude.{ℕ, zero, suc, ◌+◌, ◌-◌, ◌^◌, ◌≤◌, ◌≡◌, refl, Bool, true, false, cond, not, ◌&&◌, ◌||◌, List, [], ◌∷◌, ◌++◌, leb, ltb, T, Option, None, Some}
use Rattle.std.proofs.Common.{sym, arith, ltb-false}
use Rattle.rules.specs.Words.{all, first}
use Rattle.rules.specs.Prefix.{Prefix, prefix, same_prefix, inside}
use Rattle.rules.specs.Clock.{Moment}
use Rattle.rules.specs.Settings.{Settings}
use Rattle.rules.specs.Table.{Record, area}
use Rattle.rules.specs.Choose.{wanted, tried, or_longer}
use Rattle.rules.specs.Router.{Router, too_soon}
use Rattle.rules.specs.declared.Kind.TheVariants.{Solicit, Request, Release}
use Rattle.laws.specs.Tests.{false-true}
use Rattle.promises.specs.Play.{Premises, standing, World, Event, tick, opens, born, dies, sends, abandons, receives, serves, lending, house, neighbour, played, lent_twice}

-- ---------------------------------------------------------------- the changes

-- other waits since the start, and since the last sending of a Release; a router that has sent none keeps its start there
abbrev waits : ℕ → ℕ → Premises
waits start release = record {
  soon = λ r now. leb now (r.started + start) || (ltb r.started r.freed && leb now (r.freed + release)) || leb now r.began;
  since = standing.since;
  chosen = standing.chosen;
  travel = standing.travel;
}

-- with 60 and 60 they are the rule
same-waits : (a c d t : Bool) → (t ≡ false → c ≡ a) → a || (t && c) || d ≡ a || c || d
same-waits a c d true e = refl
same-waits true c d false e = refl
same-waits false true d false e = absurd (false-true (sym (e refl)))
same-waits false false d false e = refl

waits-stand : (r : Router) (now : Moment) → r.started ≤ r.freed → (waits 60 60).soon r now ≡ too_soon r now
waits-stand r now h =
    same-waits (leb now (r.started + 60)) (leb now (r.freed + 60)) (leb now r.began) (ltb r.started r.freed)
    (λ e. let q : r.freed ≡ r.started = omega (arith, ltb-false r.started r.freed e) in rw q)

-- copies that travel longer
abbrev travels : ℕ → Premises
travels n = record { soon = standing.soon; since = standing.since; chosen = standing.chosen; travel = n }

-- "Counting the lifetime from the arrival of the Reply: the router outlives the box."
abbrev from_arrival : Premises
from_arrival = record { soon = standing.soon; since = λ r now. now; chosen = standing.chosen; travel = standing.travel }

-- "Taking "free" as "no equal prefix": a /58 over a live /60."
abbrev same_only : Prefix → Record → Bool
same_only p r = same_prefix (area r) p

unfoldable walk_same : ℕ → Settings → List Record → ℕ → ℕ → Option ℕ
walk_same zero s rs a x = None
walk_same (suc k) s rs a x = cond (inside (prefix x a) s.pool) (tried (λ y. walk_same k s rs a y) a x (first (same_only (prefix x a)) rs)) None

unfoldable shortest_same : ℕ → Settings → List Record → ℕ → Option Prefix
shortest_same zero s rs a = None
shortest_same (suc k) s rs a =
    or_longer (λ b. shortest_same k s rs b) a (walk_same (2 ^ (a - s.pool.length)) s rs a s.pool.bits)

abbrev not_equal : Premises
not_equal = record {
  soon = standing.soon;
  since = standing.since;
  chosen = λ s rs hint. shortest_same (61 - wanted s hint) s rs (wanted s hint);
  travel = standing.travel;
}

-- ---------------------------------------------------------------- the traces

-- both know the box, which lends for 240 seconds; the house has sent a Request (4), at 62; n is what the neighbour wants
asking : ℕ → List Event
asking n =
    opens (lending 240) ∷ born house 0 ∷ born neighbour n
    ∷ tick 61 ∷ sends house Solicit ∷ serves 0 ∷ receives house 1 ∷ sends neighbour Solicit ∷ serves 2 ∷ receives neighbour 3
    ∷ tick 62 ∷ sends house Request
    ∷ []

-- the neighbour asks at n, with message k, and takes the answer
then_neighbour : Moment → ℕ → List Event
then_neighbour n k = tick n ∷ sends neighbour Request ∷ serves k ∷ receives neighbour (k + 1) ∷ []

-- The house's router dies and is born again in the second of its Request (4). A copy of that arrives x seconds later and binds; the
-- Reply (5) comes x seconds after that, when the new life's own Request (8), which has the same number, waits for one. So the router
-- counts from a moment x seconds later than the box did.
restart : ℕ → List Event
restart x =
    asking 0 ++ (dies house ∷ born house 0 ∷ tick (62 + x) ∷ serves 4
    ∷ tick (61 + (x + x)) ∷ sends house Solicit ∷ serves 6 ∷ receives house 7
    ∷ tick (62 + (x + x)) ∷ sends house Request ∷ receives house 5
    ∷ then_neighbour (62 + x + 240) 9)

-- The house's Release (6) is late: the house asks again (7) and holds before it comes. It frees what the house holds, and the neighbour
-- gets it. This is the accident of the introduction.
late_release : List Event
late_release =
    asking 0 ++ (serves 4 ∷ receives house 5
    ∷ tick 100 ∷ sends house Release ∷ abandons house
    ∷ tick 130 ∷ sends house Request ∷ serves 7 ∷ receives house 8 ∷ serves 6
    ∷ then_neighbour 130 10)

-- the Reply (5) takes 30 seconds; when the box's 240 seconds are over the neighbour asks
slow_reply : List Event
slow_reply = asking 0 ++ (serves 4 ∷ tick 92 ∷ receives house 5 ∷ then_neighbour 302 6)

-- the house has a /60, and the neighbour wants a /58
long_and_short : List Event
long_and_short = asking 58 ++ (serves 4 ∷ receives house 5 ∷ then_neighbour 63 6)

-- ---------------------------------------------------------------- each is needed

data Change : Type 0 where
  needs : Premises → List Event → Change

twice : Option World → Bool
twice None = false
twice (Some w) = lent_twice house neighbour w

is_needed : Change → Bool
is_needed (needs p es) = twice (played p es) && not (twice (played standing es))

changes : List Change
changes =
    -- 58 seconds since the start
    needs (waits 58 60) (restart 30)
    -- 29 seconds since the last sending of a Release
    ∷ needs (waits 60 29) late_release
    -- copies of 31 seconds
    ∷ needs (travels 31) (restart 31)
    -- the lifetime from the Reply's arrival
    ∷ needs from_arrival slow_reply
    -- "free" as "no equal prefix"
    ∷ needs not_equal long_and_short
    ∷ []

premises-needed : T (all is_needed changes)
unfolding played walk_same shortest_same asking then_neighbour restart late_release slow_reply long_and_short twice is_needed changes
premises-needed = tt
