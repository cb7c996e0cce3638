-- The world of demand 3: one box, any number of routers, a network, one clock; and the steps that lead from one moment to the next.
--   Demand 3: "One box, started once with an empty table; any number of routers, no two alive with the same identity; all following our
--   rules on one clock that never goes back. The network may lose, repeat and reorder messages but invents none; each copy
--   arrives within 30 seconds of its sending or never."
use Rattle.std.specs.Prelude.{ℕ, ◌+◌, ◌≤◌, ◌≡◌, cond, List, [], ◌∷◌, Option, None, Some}
use Rattle.rules.specs.Refusals.{done}
use Rattle.rules.specs.Clock.{Moment}
use Rattle.rules.specs.Identity.{Identity, same_identity}
use Rattle.rules.specs.Settings.{Settings}
use Rattle.rules.specs.Table.{Table}
use Rattle.rules.specs.Box.{box_start, box_handle}
use Rattle.rules.specs.Router.{Router, router_start, router_send, router_resend, router_abandon, router_receive}
use Rattle.rules.specs.declared.Kind.{Kind}

-- the routers alive, each under its identity: so no two with the same
abbrev pub Alive : Type 0
Alive = Identity → Option Router

unfoldable pub put : Alive → Identity → Option Router → Alive
put A i o j = cond (same_identity j i) o (A j)

-- what was sent, each message with the moment of its sending; nothing is ever taken out, so a copy may arrive again and in any order
abbrev pub Sent : Type 0
Sent = List (Moment × List ℕ)

-- the message m was sent at t
pub data In (t : Moment) (m : List ℕ) : Sent → Type 0 where
  last : {p : Moment × List ℕ} {S : Sent} → t ≡ p.0 → m ≡ p.1 → In t m (p ∷ S)
  older : {p : Moment × List ℕ} {S : Sent} → In t m S → In t m (p ∷ S)

-- the box's table, once the box has started
abbrev pub Box : Type 0
Box = Option Table

-- Run n B A S: some steps lead to the clock n, the box B, the routers alive A and the messages sent S.
-- A step that is refused changes nothing, so it is none.
pub data Run : Moment → Box → Alive → Sent → Type 0 where
  nobody : {n : Moment} → Run n None (λ i. None) []
  -- the box starts, once
  opens : {n : Moment} {T : Table} {A : Alive} {S : Sent} → Run n None A S → (s : Settings) → box_start s n ≡ done T → Run n (Some T) A S
  tick : {n n' : Moment} {B : Box} {A : Alive} {S : Sent} → Run n B A S → n ≤ n' → Run n' B A S
  -- a router starts, under an identity that no router alive has; a restart is a death and a birth
  born : {n : Moment} {B : Box} {A : Alive} {S : Sent} {r : Router} → Run n B A S
      → (i : Identity) (w : ℕ) → A i ≡ None → router_start i w n ≡ done r → Run n B (put A i (Some r)) S
  dies : {n : Moment} {B : Box} {A : Alive} {S : Sent} → Run n B A S → (i : Identity) → Run n B (put A i None) S
  sends : {n : Moment} {B : Box} {A : Alive} {S : Sent} {r r' : Router} {m : List ℕ} → Run n B A S
      → (i : Identity) (k : Kind) (room : ℕ) → A i ≡ Some r → router_send k r n room ≡ done (r', m) → Run n B (put A i (Some r')) ((n, m) ∷ S)
  resends : {n : Moment} {B : Box} {A : Alive} {S : Sent} {r r' : Router} {m : List ℕ} → Run n B A S
      → (i : Identity) (room : ℕ) → A i ≡ Some r → router_resend r n room ≡ done (r', m) → Run n B (put A i (Some r')) ((n, m) ∷ S)
  abandons : {n : Moment} {B : Box} {A : Alive} {S : Sent} {r r' : Router} → Run n B A S
      → (i : Identity) → A i ≡ Some r → router_abandon r n ≡ done r' → Run n B (put A i (Some r')) S
  -- any copy that is at most 30 seconds old, of any message, to any router alive
  receives : {n : Moment} {B : Box} {A : Alive} {S : Sent} {r r' : Router} {t : Moment} {m : List ℕ} → Run n B A S
      → (i : Identity) → A i ≡ Some r → In t m S → n ≤ t + 30 → router_receive r n m ≡ done r' → Run n B (put A i (Some r')) S
  -- the same to the box, whose answer is sent
  serves : {n : Moment} {T T' : Table} {A : Alive} {S : Sent} {t : Moment} {m a : List ℕ} → Run n (Some T) A S
      → (room : ℕ) → In t m S → n ≤ t + 30 → box_handle T n m room ≡ done (T', a) → Run n (Some T') A ((n, a) ∷ S)
