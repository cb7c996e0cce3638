-- A router's state by its fields, one after another.
--   Sound, sound-facts    what soundness says, fact by fact; and back
--   lease-size, ..        how long each representation is
--   router_fields          the twelve fields; router_bytes is these, each of its size
use Rattle.std.specs.Prelude.{◌≡◌, refl, true, List, [], ◌∷◌, ℕ, suc, ◌≤◌, ◌<◌, ◌^◌, leb, ltb, length, replicate, Option, None, Some}
use Rattle.std.proofs.Common.{ap, length-append, leb-true, ltb-true}
use Rattle.rules.specs.Words.{be}
use Rattle.rules.specs.Prefix.{Prefix, Lease}
use Rattle.rules.specs.Identity.{Duid}
use Rattle.rules.specs.Router.{Hold, Exchange, Router, good_server, good_hold, good_exchange, good_asker, sound_router}
use Rattle.rules.specs.RouterBytes.{except_bytes, lease_bytes, hold_bytes, duid_bytes, server_bytes, held_bytes, sent_bytes, exchange_bytes, router_bytes}
use Rattle.laws.specs.Tests.{both}
use Rattle.laws.specs.Numbers.{length-be}
use Rattle.laws.specs.Same.{filled-length}
use Rattle.laws.specs.Fields.{Fields}

-- ---------------------------------------------------------------- a sound state

pub record Sound (r : Router) : Type 0 where
  pub asker : good_asker r.me r.wanted ≡ true
  pub started-last : r.started ≤ r.last
  pub began-last : r.began ≤ r.last
  pub freed-last : r.freed ≤ r.last
  pub time : r.last < 2 ^ 48
  pub small : r.next < 2 ^ 24
  pub server : good_server r.server ≡ true
  pub held : good_hold r.server r.held ≡ true
  pub exchange : good_exchange r.server r.exchange ≡ true

pub sound-facts : (r : Router) → sound_router r ≡ true → Sound r
unfolding sound_router
sound-facts r e =
    let a = both _ (good_exchange r.server r.exchange) e in
    let b = both _ (good_hold r.server r.held) a.0 in
    let c = both _ (good_server r.server) b.0 in
    let d = both _ (ltb r.next (2 ^ 24)) c.0 in
    let f = both _ (ltb r.last (2 ^ 48)) d.0 in
    let g = both _ (leb r.freed r.last) f.0 in
    let h = both _ (leb r.began r.last) g.0 in
    let i = both (good_asker r.me r.wanted) (leb r.started r.last) h.0 in
    record {
      asker = i.0;
      started-last = leb-true _ _ i.1;
      began-last = leb-true _ _ h.1;
      freed-last = leb-true _ _ g.1;
      time = ltb-true _ _ f.1;
      small = ltb-true _ _ d.1;
      server = c.1;
      held = b.1;
      exchange = a.1;
    }

-- ---------------------------------------------------------------- sizes

except-size : (o : Option Prefix) → length (except_bytes o) ≡ 17
except-size None = refl
except-size (Some e) = simp (length-append, length-be)

pub lease-size : (l : Lease) → length (lease_bytes l) ≡ 34
unfolding lease_bytes
lease-size l = simp (length-append, length-be, except-size l.except)

pub hold-size : (h : Hold) → length (hold_bytes h) ≡ 42
unfolding hold_bytes
hold-size h = simp (length-append, lease-size h.lease, length-be)

pub duid-size : (d : Duid) → length d ≤ 130 → length (duid_bytes d) ≡ 131
duid-size d h = simp (length-append, length-be, filled-length 130 d h)

pub server-size : (s : Option Duid) → good_server s ≡ true → length (server_bytes s) ≡ 131
server-size None g = refl
server-size (Some d) g = duid-size d (leb-true _ 130 (both (leb 3 (length d)) (leb (length d) 130) g).1)

pub held-size : (o : Option Hold) → length (held_bytes o) ≡ 43
held-size None = refl
held-size (Some h) = ap suc (hold-size h)

pub sent-size : (o : Option Lease) → length (sent_bytes o) ≡ 34
sent-size None = refl
sent-size (Some l) = lease-size l

pub exchange-size : (o : Option Exchange) → length (exchange_bytes o) ≡ 35
exchange-size None = refl
exchange-size (Some x) = ap suc (sent-size x.sent)

-- ---------------------------------------------------------------- the fields

abbrev pub router_fields : Router → List (List ℕ)
router_fields r =
    be 8 r.last
    ∷ be 8 r.started
    ∷ be 8 r.began
    ∷ be 8 r.freed
    ∷ be 4 r.next
    ∷ be 1 r.wanted
    ∷ be 4 r.me.iaid
    ∷ duid_bytes r.me.duid
    ∷ server_bytes r.server
    ∷ held_bytes r.held
    ∷ exchange_bytes r.exchange
    ∷ replicate 3 0
    ∷ []

abbrev pub router_sizes : List ℕ
router_sizes = 8 ∷ 8 ∷ 8 ∷ 8 ∷ 4 ∷ 1 ∷ 4 ∷ 131 ∷ 131 ∷ 43 ∷ 35 ∷ 3 ∷ []

pub router-fields : (r : Router) → length (duid_bytes r.me.duid) ≡ 131 → length (server_bytes r.server) ≡ 131 → Fields (router_bytes r) (router_fields r) router_sizes
unfolding router_bytes
router-fields r d s = record {
  is = refl;
  sizes = simp (length-be, d, s, held-size r.held, exchange-size r.exchange);
}
