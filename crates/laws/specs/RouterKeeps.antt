-- What the router's steps keep: a sound state stays sound, and what it sends is fine.
--   sound-made                             facts make a sound state
--   begun-sound, again-sound, closed-sound a new exchange, the open one again, none
--   number-before, open-some               the number, the exchange that is open
--   query-able                             the message of the open exchange is fine and has at most 344 bytes
use Rattle.std.specs.Prelude.{◌≡◌, refl, Bool, true, false, cond, not, ◌&&◌, ◌||◌, ℕ, ◌≤◌, ◌<◌, ◌^◌, leb, ltb, length, Option, None, Some}
use Rattle.std.proofs.Math.Path.{subst}
use Rattle.std.proofs.lemmas.Bool.{false≢true}
use Rattle.std.proofs.Math.Nat.{mod-lt}
use Rattle.std.proofs.Common.{arith, pow_pos, leb-true, le-leb, lt-ltb}
use Rattle.rules.specs.Prefix.{Lease, lease_encodable, zero_after}
use Rattle.rules.specs.Clock.{Moment, good_end}
use Rattle.rules.specs.Identity.{Duid, is_release, identity_rows}
use Rattle.rules.specs.Router.{Hold, Exchange, Router, known, good_lease, good_server, good_hold, good_sent, wants_server, good_exchange, sound_router, number_after, number_before, servers_of, query, holds, is_held, allows, is_open, exchange_for, begun, again, closed, open_of}
use Rattle.rules.specs.declared.Kind.{Kind}
use Rattle.rules.specs.declared.Kind.TheVariants.{Solicit, Request, Renew, Rebind, Release}
use Rattle.laws.specs.Tests.{both, both-made}
use Rattle.laws.specs.Every.{Every}
use Rattle.laws.specs.Sent.{Sendable, GoodSent, query-sent}
use Rattle.laws.specs.RouterFields.{Sound, sound-facts}
use Rattle.laws.specs.RouterRepresent.{asker-facts}

pub sound-made : (r : Router) → Sound r → sound_router r ≡ true
unfolding sound_router
sound-made r s =
    let a = both-made s.asker (le-leb r.started r.last s.started-last) in
    let b = both-made a (le-leb r.began r.last s.began-last) in
    let c = both-made b (le-leb r.freed r.last s.freed-last) in
    let d = both-made c (lt-ltb r.last (2 ^ 48) s.time) in
    let e = both-made d (lt-ltb r.next (2 ^ 24) s.small) in
    both-made (both-made (both-made e s.server) s.held) s.exchange

-- ---------------------------------------------------------------- a new exchange

-- now for a Release, and the old moment for another
pub moment : (b : Bool) (n f : ℕ) → f ≤ n → (f ≤ cond b n f) × (cond b n f ≤ n)
moment true n f l = omega arith
moment false n f l = omega arith

-- what is held and hasn't ended is good, and has a server
held-good : (s : Option Duid) (n : Moment) (h : Option Hold) → good_hold s h ≡ true → is_held (holds n h) ≡ true
    → (l : Lease) × (holds n h ≡ Some l) × (good_lease l ≡ true) × (known s ≡ true)
held-good s n None g e = absurd (false≢true e)
held-good s n (Some h) g e = by (ltb n h.end) e
  where
    f : (known s ≡ true) × (good_lease h.lease ≡ true)
    f = both (known s) (good_lease h.lease) (both (known s && good_lease h.lease) (good_end h.end) g).0

    by : (b : Bool) → is_held (cond b (Some h.lease) None) ≡ true
        → (l : Lease) × (cond b (Some h.lease) None ≡ Some l) × (good_lease l ≡ true) × (known s ≡ true)
    by true e = (h.lease, refl, f.1, f.0)
    by false e = absurd (false≢true e)

begun-exchange : (k : Kind) (r : Router) (now : Moment) → Sound r → allows k r now ≡ true → good_exchange r.server (Some (exchange_for k r now)) ≡ true
unfolding identity_rows
begun-exchange Solicit r now s a = refl
begun-exchange Request r now s a = rw a
begun-exchange Renew r now s a = let x = held-good r.server now r.held s.held a in rw (x.3, x.1) x.2
begun-exchange Rebind r now s a = let x = held-good r.server now r.held s.held a in rw x.1 x.2
begun-exchange Release r now s a = let x = held-good r.server now r.held s.held a in rw (x.3, x.1) x.2

-- a Release holds nothing
kept-good : (b : Bool) (s : Option Duid) (h : Option Hold) → good_hold s h ≡ true → good_hold s (cond b None h) ≡ true
kept-good true s h g = refl
kept-good false s h g = g

module _ (r : Router) (now : Moment) (good : sound_router r ≡ true) (late : r.last ≤ now) (time : now < 2 ^ 48) where
  abbrev s : Sound r
  s = sound-facts r good

  pub begun-sound : (k : Kind) → allows k r now ≡ true → sound_router (begun k r now) ≡ true
  unfolding begun
  begun-sound k a = sound-made (begun k r now) (record {
    asker = s.asker;
    started-last = omega (arith, s.started-last);
    began-last = omega arith;
    freed-last = (moment (is_release k) now r.freed (omega (arith, s.freed-last))).1;
    time = time;
    small = mod-lt _ (pow_pos 24);
    server = s.server;
    held = kept-good (is_release k) r.server r.held s.held;
    exchange = begun-exchange k r now s a;
  })

  -- ---------------------------------------------------------------- the open exchange again, or none

  pub again-sound : (x : Exchange) → r.exchange ≡ Some x → sound_router (again r now x) ≡ true
  unfolding again
  again-sound x e = sound-made (again r now x) (record {
    asker = s.asker;
    started-last = omega (arith, s.started-last);
    began-last = omega (arith, s.began-last);
    freed-last = (moment (is_release x.kind) now r.freed (omega (arith, s.freed-last))).1;
    time = time;
    small = s.small;
    server = s.server;
    held = s.held;
    exchange = subst (λ o. good_exchange r.server o ≡ true) e s.exchange;
  })

  pub closed-sound : (d : Option Duid) (o : Option Hold) → good_server d ≡ true → good_hold d o ≡ true → sound_router (closed r now d o) ≡ true
  unfolding closed
  closed-sound d o g h = sound-made (closed r now d o) (record {
    asker = s.asker;
    started-last = omega (arith, s.started-last);
    began-last = omega (arith, s.began-last);
    freed-last = omega (arith, s.freed-last);
    time = time;
    small = s.small;
    server = g;
    held = h;
    exchange = refl;
  })

-- ---------------------------------------------------------------- the message of the open exchange

pub number-before : (x : ℕ) → x < 2 ^ 24 → number_before (number_after x) ≡ x
number-before x h = omega arith

pub open-some : (o : Option Exchange) → is_open o ≡ true → o ≡ Some (open_of o)
open-some None e = absurd (false≢true e)
open-some (Some x) e = refl

encodes : (l : Lease) → good_lease l ≡ true → lease_encodable l.prefix l.except ≡ true
unfolding good_lease
encodes l g = (both (lease_encodable l.prefix l.except) (zero_after l.prefix) g).0

sent-good : (k : Kind) (o : Option Lease) → good_sent k o ≡ true → GoodSent o
sent-good k None g = tt
sent-good Solicit (Some l) g = absurd (false≢true g)
sent-good Request (Some l) g = absurd (false≢true g)
sent-good Renew (Some l) g = encodes l g
sent-good Rebind (Some l) g = encodes l g
sent-good Release (Some l) g = encodes l g

server-short : (o : Option Duid) → good_server o ≡ true → Every (λ d. length d ≤ 130) (servers_of o)
server-short None g = tt
server-short (Some d) g = (leb-true _ 130 (both (leb 3 (length d)) (leb (length d) 130) g).1, tt)

pub query-able : (r : Router) → sound_router r ≡ true → (x : Exchange) → r.exchange ≡ Some x → Sendable (query r x) 344
query-able r good x e =
    let s = sound-facts r good in
    let a = asker-facts r s in
    let g : good_exchange r.server (Some x) ≡ true = subst (λ o. good_exchange r.server o ≡ true) e s.exchange in
    let f = both (not (wants_server x.kind) || known r.server) (good_sent x.kind x.sent) g in
    query-sent r x a.0 a.1 (omega arith) (server-short r.server s.server) (sent-good x.kind x.sent f.1)
