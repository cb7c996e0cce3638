-- Demand 3's world as a machine: steps as values, played one after another, under rules of which one may be changed.
--   Premises, standing   what a change can be made in; and how it stands in the rules
--   World, Event, step   the world at a moment; one step; the world after it, or none where it is refused
--   play, played         the steps in turn; the same from nothing, to be computed
--   lending, house, neighbour   the box of the traces, and its two lines
--   holding, lent_twice   what a house counts as held; two houses hold what overlaps
use Rattle.std.specs.Prelude.{ℕ, ◌+◌, ◌-◌, ◌*◌, ◌^◌, Bool, false, cond, not, List, [], ◌∷◌, leb, length, get_or, Option, None, Some, slice_get}
use Rattle.rules.specs.Words.{first, part, splice, num, be}
use Rattle.rules.specs.Refusals.{Res, refuse, done, unless, bad_time, little_room}
use Rattle.rules.specs.Prefix.{Prefix, prefix, Lease, overlap, inside, next_place, last64, packed, exclude_bytes, encodable, content_ok, unpacked}
use Rattle.rules.specs.Options.{walk, area_of, scan, check_prefix, check_pd, own, check, options, option, printed}
use Rattle.rules.specs.Message.{Message, listed_at, ia_at, codes, top, read, well_formed, name_of, listed_bytes, ia_bytes, items, print}
use Rattle.rules.specs.Clock.{Moment, Lifetime, plus}
use Rattle.rules.specs.Identity.{Identity, identity, kind_of, identity_rows, row_holds}
use Rattle.rules.specs.Settings.{Settings, good_settings}
use Rattle.rules.specs.Table.{Record, Table, may_stand, give_up, current, good_record, sound}
use Rattle.rules.specs.Choose.{wanted, free, is_place, walk_from, lowest, shortest_from, choose}
use Rattle.rules.specs.Box.{binding, extend, others, gone, is_freed, hint_of, Served, Asked, serve_solicit, serve_request, serve, t1_for, t2_for, ia_for, answer_to, ia_of, asked_by, serving, box_tests, box_start}
use Rattle.rules.specs.Router.{Router, good_lease, sound_router, query, holds, is_open, too_soon, allows, begun, exchange_for, again, closed, awaited, takes, server_after, held_after, with_query, receive_tests, open_of, router_start, router_resend, router_abandon}
use Rattle.rules.specs.World.{Box, Alive, put, Sent}
use Rattle.rules.specs.declared.Kind.{Kind}
use Rattle.rules.specs.declared.Kind.TheVariants.{Solicit, Request, Renew, Rebind, Release}

-- ---------------------------------------------------------------- what can be changed

pub record Premises : Type 0 where
  pub soon : Router → Moment → Bool  -- it is too soon for a new exchange
  pub since : Router → Moment → Moment  -- what a lifetime taken now counts from
  pub chosen : Settings → List Record → Option Prefix → Option Prefix  -- what a new binding gets
  pub travel : ℕ  -- how many seconds a copy may travel

abbrev pub standing : Premises
standing = record { soon = too_soon; since = λ r now. r.began; chosen = choose; travel = 30 }

-- ---------------------------------------------------------------- the three operations that go by them

unfoldable pub send_by : Premises → Kind → Router → Moment → ℕ → Res (Router × List ℕ)
send_by p k r now room =
    unless
    ((9, not (sound_router r)) ∷ (1, bad_time r.last now) ∷ (2, little_room room) ∷ (11, is_open r.exchange) ∷ (12, p.soon r now)
    ∷ (13, not (allows k r now)) ∷ [])
    (done (with_query (begun k r now) (exchange_for k r now)))

-- the router as one whose exchange began at b
abbrev pub began_at : Moment → Router → Router
began_at b r = record {
  me = r.me;
  wanted = r.wanted;
  started = r.started;
  began = b;
  freed = r.freed;
  last = r.last;
  next = r.next;
  server = r.server;
  held = r.held;
  exchange = r.exchange;
}

abbrev pub accept_by : Premises → Router → Moment → Message → Kind → Router
accept_by p r now v k =
    closed r now (server_after k r (Some (get_or v.servers 0 [])))
    (held_after k (began_at (p.since r now) r) now (first takes (ia_of v).listed))

unfoldable pub receive_by : Premises → Router → Moment → List ℕ → Res Router
receive_by p r now m = unless (receive_tests r now m (read m)) (done (accept_by p r now (read m) (open_of r.exchange).kind))

abbrev pub serve_by : Premises → Settings → Moment → Asked → List Record → Kind → Served
serve_by p s now q rs Solicit = serve_solicit s now q rs (binding q.who rs) (p.chosen s rs (hint_of q.listed))
serve_by p s now q rs Request = serve_request s now q rs (binding q.who rs) (p.chosen s rs (hint_of q.listed))
serve_by p s now q rs Renew = serve s now q rs Renew
serve_by p s now q rs Rebind = serve s now q rs Rebind
serve_by p s now q rs Release = serve s now q rs Release

abbrev pub serving_by : Premises → Table → Moment → Message → Served
serving_by p t now v = serve_by p t.settings now (asked_by v) (current now t.records) (kind_of v.kind)

abbrev pub answer_by : Table → Moment → Message → Served → Table × List ℕ
answer_by t now v d = (
  record { settings = t.settings; last = now; records = d.records },
  print (answer_to t.settings v (ia_for t.settings (ia_of v).iaid d.verdict)),
)

unfoldable pub handle_by : Premises → Table → Moment → List ℕ → ℕ → Res (Table × List ℕ)
handle_by p t now m room = unless (box_tests t now m (read m) room) (done (answer_by t now (read m) (serving_by p t now (read m))))

-- ---------------------------------------------------------------- the world and its steps

pub record World : Type 0 where
  pub now : Moment
  pub box : Box
  pub alive : Alive
  pub sent : Sent

abbrev pub empty : World
empty = record { now = 0; box = None; alive = λ i. None; sent = [] }

-- a router's or the box's step with a message names it by its place in the order of sending, from 0
pub data Event : Type 0 where
  tick : Moment → Event  -- the clock comes to that moment
  opens : Settings → Event
  born : Identity → ℕ → Event
  dies : Identity → Event
  sends : Identity → Kind → Event
  resends : Identity → Event
  abandons : Identity → Event
  receives : Identity → ℕ → Event
  serves : ℕ → Event

abbrev pub copy : ℕ → Sent → Option (Moment × List ℕ)
copy k S = slice_get S (length S - (k + 1))

abbrev pub when_done : {A : Type 0} → (A → World) → Res A → Option World
when_done f (refuse n) = None
when_done f (done x) = Some (f x)

abbrev pub when_some : {A B : Type 0} → (A → Option B) → Option A → Option B
when_some f None = None
when_some f (Some x) = f x

abbrev pub when_none : {A B : Type 0} → Option B → Option A → Option B
when_none w None = w
when_none w (Some x) = None

-- the copy can still arrive
abbrev pub arriving : Premises → Moment → (List ℕ → Option World) → Moment × List ℕ → Option World
arriving p now f c = cond (leb now (c.0 + p.travel)) (f c.1) None

module _ (p : Premises) (w : World) where
  abbrev pub router_moved : Identity → Router → World
  router_moved i r = record { now = w.now; box = w.box; alive = put w.alive i (Some r); sent = w.sent }

  abbrev pub router_said : Identity → Router × List ℕ → World
  router_said i x = record { now = w.now; box = w.box; alive = put w.alive i (Some x.0); sent = (w.now, x.1) ∷ w.sent }

  abbrev pub box_said : Table × List ℕ → World
  box_said x = record { now = w.now; box = Some x.0; alive = w.alive; sent = (w.now, x.1) ∷ w.sent }

  unfoldable pub step : Event → Option World
  step (tick n) = cond (leb w.now n) (Some (record { now = n; box = w.box; alive = w.alive; sent = w.sent })) None
  step (opens s) =
      when_none (when_done (λ t. record { now = w.now; box = Some t; alive = w.alive; sent = w.sent }) (box_start s w.now)) w.box
  step (born i n) = when_none (when_done (router_moved i) (router_start i n w.now)) (w.alive i)
  step (dies i) = Some (record { now = w.now; box = w.box; alive = put w.alive i None; sent = w.sent })
  step (sends i k) = when_some (λ r. when_done (router_said i) (send_by p k r w.now 512)) (w.alive i)
  step (resends i) = when_some (λ r. when_done (router_said i) (router_resend r w.now 512)) (w.alive i)
  step (abandons i) = when_some (λ r. when_done (router_moved i) (router_abandon r w.now)) (w.alive i)
  step (receives i c) =
      when_some (λ r. when_some (arriving p w.now (λ m. when_done (router_moved i) (receive_by p r w.now m))) (copy c w.sent)) (w.alive i)
  step (serves c) =
      when_some (λ t. when_some (arriving p w.now (λ m. when_done box_said (handle_by p t w.now m 512))) (copy c w.sent)) w.box

unfoldable pub play : Premises → List Event → World → Option World
play p [] w = Some w
play p (e ∷ es) w = when_some (λ x. play p es x) (step p w e)

-- ---------------------------------------------------------------- the place of the traces

-- a box that lends a /60 of 2001:db8:0:aa00::/56, or more if more is wanted, for so many seconds
unfoldable pub lending : Lifetime → Settings
lending valid = record {
  pool = prefix (0x20010db80000aa00 * 2 ^ 64) 56;
  shortest = 56;
  standard = 60;
  preferred = 120;
  valid = valid;
  exclusion = false;
  own = 0xb0 ∷ 0xb0 ∷ 0xb0 ∷ [];
}

unfoldable pub house : Identity
house = identity (0xa ∷ 0xa ∷ 0xa ∷ []) 1

unfoldable pub neighbour : Identity
neighbour = identity (0xb ∷ 0xb ∷ 0xb ∷ []) 1

-- from nothing; where this unfolds all that the steps compute with does
unfoldable pub played : Premises → List Event → Option World
unfolding part splice num be overlap inside next_place last64 packed exclude_bytes encodable content_ok unpacked walk area_of scan check_prefix check_pd own check options option printed listed_at ia_at codes top read well_formed name_of listed_bytes ia_bytes items print plus identity_rows row_holds good_settings may_stand give_up good_record sound wanted free is_place walk_from lowest shortest_from choose extend others gone is_freed serve t1_for t2_for answer_to serving box_start good_lease sound_router query begun again closed awaited router_start router_resend router_abandon put send_by receive_by handle_by step play lending house neighbour
played p es = play p es empty

-- ---------------------------------------------------------------- what is lent twice

abbrev pub holding : Moment → Option Router → Option Lease
holding now None = None
holding now (Some r) = holds now r.held

abbrev pub shared : Option Lease → Option Lease → Bool
shared None y = false
shared (Some x) None = false
shared (Some x) (Some y) = overlap x.prefix y.prefix

-- both houses count as held what overlaps
abbrev pub lent_twice : Identity → Identity → World → Bool
lent_twice i j w = shared (holding w.now (w.alive i)) (holding w.now (w.alive j))
