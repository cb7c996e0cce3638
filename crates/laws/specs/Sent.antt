-- What the box and the router send is fine and short, from what a sound table or state knows.
--   GoodOffer, GoodReturn, GoodVerdict   what the box may say of an IA_PD
--   GoodSent                             the prefix that a router may send
--   answer-sent, query-sent              then the answer, the router's message, is fine and has at most 442, 344 bytes
use Rattle.std.specs.Prelude.{◌≡◌, Bool, true, false, cond, ℕ, ◌*◌, ◌/◌, ◌^◌, ◌≤◌, ◌<◌, eqb, length, Option, None, Some}
use Rattle.std.proofs.Math.Path.{refl}
use mathlib.Core.List.{List, [], ◌∷◌}
use Rattle.std.proofs.Common.{mod-lt, arith, le-leb, lt-ltb, pow_pos}
use Rattle.std.proofs.Math.Dec.{lit≤}
use Rattle.rules.specs.Prefix.{prefix, Lease, lease, lease_encodable}
use Rattle.rules.specs.Message.{Listed, Ia, Message, print}
use Rattle.rules.specs.Clock.{for_ever}
use Rattle.rules.specs.Identity.{Duid, kind_of, is_release}
use Rattle.rules.specs.Settings.{Settings}
use Rattle.rules.specs.Box.{Verdict, offer, return, say, success, silence, t1_for, t2_for, ia_for, answer_to}
use Rattle.rules.specs.Router.{Router, Exchange, listing, lists, servers_of, wants_server, query}
use Rattle.laws.specs.Tests.{both-made}
use Rattle.laws.specs.Every.{Every}
use Rattle.laws.specs.Round.{FineListed, FineIa, Fine}
use Rattle.laws.specs.Told.{answer-fine}
use Rattle.laws.specs.Sizes.{UpTo, encodable-upto, Bare, offer-most, return-most, say-most, ask-most, Addressed, answer-size, status-size, query-size}

-- what is sent reads back, and fits every buffer and message
pub record Sendable (v : Message) (n : ℕ) : Type 0 where
  pub fine : Fine v
  pub size : length (print v) ≤ n

-- ---------------------------------------------------------------- the box

pub record GoodOffer (l : Lease) : Type 0 where
  pub encodes : lease_encodable l.prefix l.except ≡ true
  pub least : 32 ≤ l.prefix.length
  pub except : UpTo 64 l.except

pub record GoodReturn (xs : List Listed) : Type 0 where
  pub fine : Every FineListed xs
  pub bare : Every Bare xs
  pub few : length xs ≤ 4

-- b is whether it answers a Release, which lists no prefix
abbrev pub GoodVerdict : Bool → Verdict → Type 0
GoodVerdict b (offer l xs) = (b ≡ false) × GoodOffer l × GoodReturn xs
GoodVerdict b (return xs) = (b ≡ false) × GoodReturn xs
GoodVerdict b (say k) = Unit {0}
GoodVerdict b success = Unit {0}
GoodVerdict b silence = Unit {0}

cond-fits : (b : Bool) (p q : ℕ) → p < 2 ^ 32 → q < 2 ^ 32 → cond b p q < 2 ^ 32
cond-fits true p q h g = h
cond-fits false p q h g = g

verdict-fine : (s : Settings) (i : ℕ) (b : Bool) (d : Verdict) → s.preferred < 2 ^ 32 → s.valid < 2 ^ 32 → i < 2 ^ 32 → GoodVerdict b d
    → Every FineIa (ia_for s i d)
unfolding t1_for t2_for
verdict-fine s i b (offer l xs) p w li g =
    let t = cond-fits (eqb s.preferred for_ever) for_ever (s.preferred / 2) (omega arith) (omega arith) in
    let u = cond-fits (eqb s.preferred for_ever) for_ever (s.preferred * 4 / 5) (omega arith) (omega arith) in
    (record { iaid = li; t1 = t; t2 = u; listed = (record { preferred = p; valid = w; encodes = g.1.encodes }, g.2.fine) }, tt)
verdict-fine s i b (return xs) p w li g = (record { iaid = li; t1 = pow_pos 32; t2 = pow_pos 32; listed = g.1.fine }, tt)
verdict-fine s i b (say k) p w li g = (record { iaid = li; t1 = pow_pos 32; t2 = pow_pos 32; listed = tt }, tt)
verdict-fine s i b success p w li g = tt
verdict-fine s i b silence p w li g = tt

at_most_one : {A : Type 0} (b : Bool) (x : A) → length (cond b (x ∷ []) []) ≤ 1
at_most_one true x = lit≤ tt
at_most_one false x = lit≤ tt

module _ (s : Settings) (v : Message) (i : ℕ) (one : length v.clients ≤ 1) (c : Every (λ d. length d ≤ 130) v.clients) (o : length s.own ≤ 130) where
  addressed : (is : List Ia) → Addressed (answer_to s v is)
  unfolding answer_to
  addressed is = record { client = one; server = lit≤ tt; clients = c; servers = (o, tt) }

  verdict-size : (d : Verdict) → GoodVerdict (is_release (kind_of v.kind)) d → length (print (answer_to s v (ia_for s i d))) ≤ 442
  unfolding answer_to
  verdict-size (offer l xs) g =
      let is = ia_for s i (offer l xs) in
      answer-size (answer_to s v is) (addressed is) (lit≤ tt) refl (rw g.0)
      (offer-most _ _ xs refl refl g.1.least g.1.except refl g.2.bare g.2.few, tt)
  verdict-size (return xs) g =
      let is = ia_for s i (return xs) in
      let a : Ia = record { iaid = i; t1 = 0; t2 = 0; listed = xs; statuses = [] } in
      answer-size (answer_to s v is) (addressed is) (lit≤ tt) refl (rw g.0) (omega (arith, return-most a refl g.1.bare g.1.few), tt)
  verdict-size (say k) g =
      let is = ia_for s i (say k) in
      omega (arith, status-size (answer_to s v is) (addressed is) (lit≤ tt) refl (at_most_one (is_release (kind_of v.kind)) 0) (say-most _ refl (lit≤ tt), tt))
  verdict-size success g = omega (arith, status-size (answer_to s v []) (addressed []) (lit≤ tt) refl (at_most_one (is_release (kind_of v.kind)) 0) tt)
  verdict-size silence g = omega (arith, status-size (answer_to s v []) (addressed []) (lit≤ tt) refl (at_most_one (is_release (kind_of v.kind)) 0) tt)

  pub answer-sent : s.preferred < 2 ^ 32 → s.valid < 2 ^ 32 → i < 2 ^ 32 → Fine v → (d : Verdict) → GoodVerdict (is_release (kind_of v.kind)) d
      → Sendable (answer_to s v (ia_for s i d)) 442
  answer-sent p w li f d g =
      record { fine = answer-fine s v (ia_for s i d) f (verdict-fine s i (is_release (kind_of v.kind)) d p w li g); size = verdict-size d g }

-- ---------------------------------------------------------------- the router

abbrev pub GoodSent : Option Lease → Type 0
GoodSent None = Unit {0}
GoodSent (Some l) = lease_encodable l.prefix l.except ≡ true

-- one prefix at most, with zero lifetimes
pub record Listing (xs : List Listed) : Type 0 where
  pub fine : Every FineListed xs
  pub short : Every (λ x. UpTo 128 x.lease.except × (x.statuses ≡ [])) xs
  pub one : length xs ≤ 1

listing-good : (l : Lease) → lease_encodable l.prefix l.except ≡ true → Listing (listing l)
listing-good l h = record {
  fine = (record { preferred = pow_pos 32; valid = pow_pos 32; encodes = h }, tt);
  short = ((encodable-upto l.prefix l.except h, refl), tt);
  one = lit≤ tt;
}

lists-good : (n : ℕ) (o : Option Lease) → n ≤ 128 → GoodSent o → Listing (lists n o)
lists-good n (Some l) h g = listing-good l g
lists-good n None h g = by (eqb n 0)
  where
    by : (b : Bool) → Listing (cond b [] (listing (lease (prefix 0 n) None)))
    by true = record { fine = tt; short = tt; one = lit≤ tt }
    by false = listing-good (lease (prefix 0 n) None) (both-made (le-leb n 128 h) (lt-ltb 0 (2 ^ 128) (pow_pos 128)))

server-short : (b : Bool) (o : Option Duid) → Every (λ d. length d ≤ 130) (servers_of o) → Every (λ d. length d ≤ 130) (cond b (servers_of o) [])
server-short true o h = h
server-short false o h = tt

server-one : (b : Bool) (o : Option Duid) → length (cond b (servers_of o) []) ≤ 1
server-one true None = lit≤ tt
server-one true (Some d) = lit≤ tt
server-one false o = lit≤ tt

pub query-sent : (r : Router) (x : Exchange) → length r.me.duid ≤ 130 → r.me.iaid < 2 ^ 32 → r.wanted ≤ 128
    → Every (λ d. length d ≤ 130) (servers_of r.server) → GoodSent x.sent → Sendable (query r x) 344
unfolding query
query-sent r x c li w s g =
    let l = lists-good r.wanted x.sent w g in
    let d : Addressed (query r x) = record {
      client = lit≤ tt;
      server = server-one (wants_server x.kind) r.server;
      clients = (c, tt);
      servers = server-short (wants_server x.kind) r.server s;
    } in
    record {
      fine = record { number = mod-lt _ (pow_pos 24); ias = (record { iaid = li; t1 = pow_pos 32; t2 = pow_pos 32; listed = l.fine }, tt) };
      size = query-size (query r x) d (lit≤ tt) refl (ask-most _ refl l.short l.one, tt);
    }
