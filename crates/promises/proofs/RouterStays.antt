-- A router's sound state stays sound: under a start, a sending, a resending, an abandoning and an acceptance.
use Rattle.std.specs.Prelude.{◌≡◌, Bool, true, false, cond, not, ◌&&◌, ◌||◌, List, [], ◌∷◌, ℕ, ◌<◌, ◌^◌, leb, ltb, get_or, Option, None, Some}
use Rattle.std.proofs.Math.Path.{refl}
use Rattle.std.proofs.Common.{sym, ap, ◌∙◌, arith, pow_pos}
use Rattle.std.proofs.lemmas.Option.{none-some}
use Rattle.std.proofs.lemmas.Bool.{not-false}
use Rattle.rules.specs.Words.{all, same_bytes, any, first}
use Rattle.rules.specs.Refusals.{done}
use Rattle.rules.specs.Prefix.{zero_after}
use Rattle.rules.specs.Message.{Listed, read}
use Rattle.rules.specs.Clock.{Moment, plus, good_end}
use Rattle.rules.specs.Identity.{Duid, Identity, good_duid, identity_rows, stands}
use Rattle.rules.specs.Box.{ia_of, start_tests}
use Rattle.rules.specs.Router.{Hold, Exchange, Router, known, good_lease, good_server, good_hold, good_sent, wants_server, good_exchange, good_asker, sound_router, servers_of, from_server, awaited, takes, held_until, taken, held_after, server_after, accept, open_of, send_tests, resend_tests, abandon_tests, receive_tests, router_start, router_send, router_resend, router_abandon, router_receive}
use Rattle.rules.specs.declared.Kind.{Kind}
use Rattle.rules.specs.declared.Kind.TheVariants.{Solicit, Request, Renew, Rebind, Release}
use Rattle.laws.specs.Tests.{both, both-made}
use Rattle.laws.specs.Every.{Every}
use Rattle.laws.specs.Kinds.{one-stands}
use Rattle.laws.specs.Refusals.{unless-done, in-time, one, two}
use Rattle.laws.specs.Round.{FineListed}
use Rattle.laws.specs.Told.{read-fine, ia-of-fine}
use Rattle.laws.specs.Sound.{plus-good}
use Rattle.laws.specs.RouterFields.{Sound, sound-facts}
use Rattle.laws.specs.RouterKeeps.{sound-made, begun-sound, again-sound, closed-sound, open-some}
use Rattle.promises.proofs.Routers.{Awaited, awaited-facts, awaited-open}

-- ---------------------------------------------------------------- start, send, resend, abandon

pub started-sound : (i : Identity) (w : ℕ) (n : Moment) (r : Router) → router_start i w n ≡ done r → sound_router r ≡ true
unfolding router_start
started-sound i w n r e =
    let a = unless-done (start_tests (good_asker i w) n) e in
    one (λ r. sound_router r ≡ true) a.1 (sound-made _ (record {
      asker = not-false _ a.0.0;
      started-last = omega arith;
      began-last = omega arith;
      freed-last = omega arith;
      time = (in-time 0 n a.0.1.0).1;
      small = pow_pos 24;
      server = refl;
      held = refl;
      exchange = refl;
    }))

pub sent-sound : (k : Kind) (r r' : Router) (n : Moment) (room : ℕ) (m : List ℕ) → router_send k r n room ≡ done (r', m) → sound_router r' ≡ true
unfolding router_send
sent-sound k r r' n room m e =
    let a = unless-done (send_tests k r n room) e in
    let p = a.0 in
    let t = in-time r.last n p.1.0 in
    two (λ q l. sound_router q ≡ true) a.1 (begun-sound r n (not-false _ p.0) t.0 t.1 k (not-false _ p.1.1.1.1.1.0))

pub resent-sound : (r r' : Router) (n : Moment) (room : ℕ) (m : List ℕ) → router_resend r n room ≡ done (r', m) → sound_router r' ≡ true
unfolding router_resend
resent-sound r r' n room m e =
    let a = unless-done (resend_tests r n room) e in
    let p = a.0 in
    let t = in-time r.last n p.1.0 in
    two (λ q l. sound_router q ≡ true) a.1 (again-sound r n (not-false _ p.0) t.0 t.1 (open_of r.exchange) (open-some r.exchange (not-false _ p.1.1.1.0)))

pub abandoned-sound : (r r' : Router) (n : Moment) → router_abandon r n ≡ done r' → sound_router r' ≡ true
unfolding router_abandon
abandoned-sound r r' n e =
    let a = unless-done (abandon_tests r n) e in
    let p = a.0 in
    let t = in-time r.last n p.1.0 in
    let s = sound-facts r (not-false _ p.0) in
    one (λ q. sound_router q ≡ true) a.1 (closed-sound r n (not-false _ p.0) t.0 t.1 r.server r.held s.server s.held)

-- ---------------------------------------------------------------- receive

-- the Server ID of a message that is awaited
told-good : (k : Kind) (s : Option Duid) (l : List Duid) → from_server k s l ≡ true → good_duid (get_or l 0 []) ≡ true
told-good k s l h =
    let a = both (stands true l && all good_duid l) (not (wants_server k) || all (λ d. any (same_bytes d) (servers_of s)) l) h in
    let b = both (stands true l) (all good_duid l) a.0 in
    (one-stands good_duid l b.0 b.1).1

-- the prefix that is taken
first_taken : (l : List Listed) {y : Listed} → Every FineListed l → first takes l ≡ Some y → FineListed y × (takes y ≡ true)
first_taken [] f e = absurd (none-some _ e)
first_taken (x ∷ l) {y} f e = by (takes x) refl e (first_taken l f.1)
  where
    by : (b : Bool) → takes x ≡ b → cond b (Some x) (first takes l) ≡ Some y → (first takes l ≡ Some y → FineListed y × (takes y ≡ true)) → FineListed y × (takes y ≡ true)
    by true q e g = let w : x ≡ y = cc in (rw (← w) f.0, rw (← w) q)
    by false q e g = g e

until-good : (s : Option Duid) (n t : Moment) (y : Listed) → known s ≡ true → t < 2 ^ 48 → FineListed y → takes y ≡ true → good_hold s (held_until n y.lease (plus t y.valid)) ≡ true
unfolding good_lease
until-good s n t y k l f h = by (ltb n (plus t y.valid))
  where
    z : zero_after y.lease.prefix ≡ true
    z = (both (ltb 0 y.valid && leb y.preferred y.valid) (zero_after y.lease.prefix) h).1

    by : (b : Bool) → good_hold s (cond b (Some (record { lease = y.lease; end = plus t y.valid })) None) ≡ true
    by true = both-made (both-made k (both-made f.encodes z)) (plus-good t y.valid l (omega (arith, f.valid)))
    by false = refl

taken-good : (s : Option Duid) (n t : Moment) (l : List Listed) → known s ≡ true → t < 2 ^ 48 → Every FineListed l → good_hold s (taken n t (first takes l)) ≡ true
taken-good s n t l k h f = by (first takes l) refl
  where
    by : (o : Option Listed) → first takes l ≡ o → good_hold s (taken n t o) ≡ true
    by None e = refl
    by (Some y) e = let g = first_taken l f e in until-good s n t y k h g.0 g.1

-- what is held has a server, whichever
other-server : (s : Option Duid) (d : Duid) (h : Option Hold) → good_hold s h ≡ true → good_hold (Some d) h ≡ true
other-server s d None g = refl
other-server s d (Some h) g =
    let a = both (known s && good_lease h.lease) (good_end h.end) g in
    both-made (both (known s) (good_lease h.lease) a.0).1 a.1

-- an exchange that wants a server has it
wanted-known : (s : Option Duid) (x : Exchange) → good_exchange s (Some x) ≡ true → wants_server x.kind ≡ true → known s ≡ true
wanted-known s x g w = rw w at (both (not (wants_server x.kind) || known s) (good_sent x.kind x.sent) g).0

module _ (r : Router) (n : Moment) (m : List ℕ) (good : Sound r) (x : Exchange) (is : r.exchange ≡ Some x) (a : Awaited r m x) where
  abbrev d : Duid
  d = get_or (read m).servers 0 []

  listed : Every FineListed (ia_of (read m)).listed
  listed = (ia-of-fine (read m) (read-fine m a.formed)).listed

  soon : r.began < 2 ^ 48
  soon = omega (arith, good.began-last, good.time)

  has : good_exchange r.server (Some x) ≡ true
  has = rw is at good.exchange

  server-after : (k : Kind) → good_server (server_after k r (Some d)) ≡ true
  server-after Solicit = told-good x.kind r.server (read m).servers a.told-by
  server-after Request = good.server
  server-after Renew = good.server
  server-after Rebind = told-good x.kind r.server (read m).servers a.told-by
  server-after Release = good.server

  held_after_lem : (k : Kind) → x.kind ≡ k → good_hold (server_after k r (Some d)) (held_after k r n (first takes (ia_of (read m)).listed)) ≡ true
  unfolding identity_rows
  held_after_lem Solicit q = other-server r.server d r.held good.held
  held_after_lem Request q = taken-good r.server n r.began (ia_of (read m)).listed (wanted-known r.server x has (ap wants_server q)) soon listed
  held_after_lem Renew q = taken-good r.server n r.began (ia_of (read m)).listed (wanted-known r.server x has (ap wants_server q)) soon listed
  held_after_lem Rebind q = taken-good (Some d) n r.began (ia_of (read m)).listed refl soon listed
  held_after_lem Release q = good.held

pub received-sound : (r r' : Router) (n : Moment) (m : List ℕ) → router_receive r n m ≡ done r' → sound_router r' ≡ true
unfolding router_receive accept
received-sound r r' n m e =
    let p = unless-done (receive_tests r n m (read m)) e in
    let g = not-false _ p.0.0 in
    let t = in-time r.last n p.0.1.0 in
    let w = not-false _ p.0.1.1.0 in
    let x = open_of r.exchange in
    let o = open-some r.exchange (awaited-open r m r.exchange w) in
    let a = awaited-facts r m x (sym (ap (awaited r m (read m)) o) ∙ w) in
    one (λ q. sound_router q ≡ true) p.1
    (closed-sound r n g t.0 t.1 _ _ (server-after r n m (sound-facts r g) x o a x.kind) (held_after_lem r n m (sound-facts r g) x o a x.kind refl))
