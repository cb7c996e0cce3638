-- A sound router's state is read back from its representation, whole; and one field put in changes that field alone.
--   ..-read              what the bytes at a place say where they are the representation of something good
--   router-length, router-round, router-sound-bytes
--   router-put           a field put in at its place is the state with that field changed
use Rattle.std.specs.Prelude.{◌≡◌, true, not, ◌&&◌, ◌||◌, ℕ, suc, ◌+◌, ◌-◌, ◌*◌, ◌%◌, ◌≤◌, ◌<◌, ◌^◌, eqb, leb, ltb, get_or, take, set, replicate, Option, None, Some}
use Rattle.std.proofs.Math.Path.{refl, ap}
use Rattle.std.proofs.Common.{sym, ◌∙◌, subst, add-zero, mod-eq_of_lt, arith}
use Rattle.std.proofs.lemmas.Bool.{false≢true}
use mathlib.Core.List.{List, [], ◌∷◌, ◌++◌, append-nil}
use Rattle.std.proofs.Math.ListN.{length}
use Rattle.std.proofs.Math.Seq.{take_all}
use borrow.Author.Tests.{ne_eqb, leb-true, le-leb, ltb-true}
use Rattle.rules.specs.Words.{part, splice, filled, same_bytes, num, be, num_at}
use Rattle.rules.specs.Prefix.{Prefix, prefix, front, zero_after, fits, encodable, inside, Lease, lease_encodable}
use Rattle.rules.specs.Clock.{good_end}
use Rattle.rules.specs.Identity.{Duid, identity, good_duid, good_identity, kind_of, type_of}
use Rattle.rules.specs.Router.{Hold, Exchange, Router, known, good_lease, good_server, good_hold, good_sent, wants_server, good_exchange, sound_router}
use Rattle.rules.specs.RouterBytes.{except_bytes, lease_bytes, hold_bytes, duid_bytes, server_bytes, held_bytes, sent_bytes, exchange_bytes, router_bytes, some_if, lease_of, hold_of, duid_at, exchange_of, router_of, sound_router_bytes}
use Rattle.rules.specs.declared.Kind.{Kind}
use Rattle.rules.specs.declared.Kind.TheVariants.{Solicit, Request, Renew, Rebind, Release}
use Rattle.laws.specs.Tests.{both, both-made}
use Rattle.laws.specs.Parts.{part-part, part-mid}
use Rattle.laws.specs.Numbers.{length-be, num-be-fits}
use Rattle.laws.specs.Prefix.{inside-fits}
use Rattle.laws.specs.Kinds.{bytes-true, bytes-refl}
use Rattle.laws.specs.Stands.{Stands, stands-all, stands-num, stands_after, stands-head, stands-tail}
use Rattle.laws.specs.Represent.{end_fits}
use Rattle.laws.specs.Flat.{be-one}
use Rattle.laws.specs.Fields.{sum, Fields, fields-length, field-change, field_at}
use Rattle.laws.specs.RouterFields.{Sound, sound-facts, lease-size, hold-size, sent-size, duid-size, server-size, router_fields, router_sizes, router-fields}

-- ---------------------------------------------------------------- a delegation

-- an excluded prefix with an encoding has 128 bits, and a length above 0
except-fits : (p e : Prefix) → fits p ≡ true → encodable p e ≡ true → (e.bits < 2 ^ 128) × (e.length ≤ 128) × (0 < e.length)
unfolding encodable inside
except-fits p e f h =
    let a = both _ (zero_after e) h in
    let b = both _ (eqb (front e.bits p.length) (front p.bits p.length)) a.0 in
    let c = both (ltb p.length e.length) (leb e.length 128) b.0 in
    let lt = ltb-true p.length e.length c.0 in
    (inside-fits e p f (both-made (le-leb p.length e.length (omega arith)) b.1), leb-true e.length 128 c.1, omega arith)

module _ (l : Lease) (good : good_lease l ≡ true) (z : List ℕ) where
  abbrev m : List ℕ
  m = lease_bytes l ++ z

  encodes : lease_encodable l.prefix l.except ≡ true
  unfolding good_lease
  encodes = (both (lease_encodable l.prefix l.except) (zero_after l.prefix) good).0

  lease-fits : fits l.prefix ≡ true
  lease-fits = by l.except encodes
    where
      by : (o : Option Prefix) → lease_encodable l.prefix o ≡ true → fits l.prefix ≡ true
      by None h = h
      by (Some e) h = (both (fits l.prefix) (encodable l.prefix e) h).0

  except-read : (o : Option Prefix) → lease_encodable l.prefix o ≡ true → Stands m 17 (except_bytes o) → some_if (num_at m 33 1) (prefix (num_at m 17 16) (num_at m 33 1)) ≡ o
  unfolding be
  except-read None h s = rw (stands-num 1 0 [] (stands-tail (replicate 16 0) (be 1 0 ++ []) s refl) (omega arith))
  except-read (Some e) h s =
      let f = except-fits l.prefix e lease-fits (both (fits l.prefix) (encodable l.prefix e) h).1 in
      let t = stands_after 16 e.bits (be 1 e.length) s refl in
      rw (stands-num 16 e.bits (be 1 e.length) s f.0, stands-num 1 e.length [] t (omega arith), ne_eqb e.length 0 (λ q. omega arith))

  pub lease-round : lease_of (lease_bytes l ++ z) ≡ l
  unfolding lease_of lease_bytes
  lease-round =
      let p = l.prefix in
      let f = both (leb p.length 128) (ltb p.bits (2 ^ 128)) lease-fits in
      let s0 = stands-head (lease_bytes l) z (stands-all m) in
      let s16 = stands_after 16 p.bits _ s0 refl in
      let s17 = stands_after 1 p.length _ s16 refl in
      rw (stands-num 16 p.bits _ s0 (ltb-true _ _ f.1), stands-num 1 p.length _ s16 (omega (arith, leb-true p.length 128 f.0)), except-read l.except encodes s17)

lease-whole : (l : Lease) → good_lease l ≡ true → lease_of (lease_bytes l) ≡ l
lease-whole l g = ap lease_of (sym (append-nil (lease_bytes l))) ∙ lease-round l g []

-- ---------------------------------------------------------------- a hold, an exchange

hold-round : (h : Hold) → good_lease h.lease ≡ true → good_end h.end ≡ true → hold_of (hold_bytes h) ≡ h
unfolding hold_of hold_bytes be
hold-round h g e =
    let m = lease_bytes h.lease ++ be 8 h.end in
    let s = stands-tail (lease_bytes h.lease) (be 8 h.end) {q = 34} (stands-all m) (omega (arith, lease-size h.lease)) in
    let n : num_at m 34 8 ≡ h.end = stands-num 8 h.end [] s (end_fits h.end e) in
    λ j. record { lease = lease-round h.lease g (be 8 h.end) j; end = n j }

exchange-round : (k : Kind) (o : Option Lease) → good_sent k o ≡ true → some_if (type_of k) (exchange_of (kind_of (type_of k)) (lease_of (sent_bytes o))) ≡ Some (record { kind = k; sent = o })
exchange-round Solicit None g = refl
exchange-round Solicit (Some l) g = absurd (false≢true g)
exchange-round Request None g = refl
exchange-round Request (Some l) g = absurd (false≢true g)
exchange-round Renew None g = absurd (false≢true g)
exchange-round Renew (Some l) g = rw (lease-whole l g)
exchange-round Rebind None g = absurd (false≢true g)
exchange-round Rebind (Some l) g = rw (lease-whole l g)
exchange-round Release None g = absurd (false≢true g)
exchange-round Release (Some l) g = rw (lease-whole l g)

pub type-byte : (k : Kind) → type_of k < 256
type-byte Solicit = omega arith
type-byte Request = omega arith
type-byte Renew = omega arith
type-byte Rebind = omega arith
type-byte Release = omega arith

-- ---------------------------------------------------------------- at a place

byte-read : (x : ℕ) (l : List ℕ) → x < 256 → num_at (x ∷ l) 0 1 ≡ x
unfolding num part
byte-read x l h = omega arith

module _ (b : List ℕ) (at : ℕ) where
  -- where the bytes from `at` are e, so are its parts
  inner : (w i n : ℕ) (e : List ℕ) → part at w b ≡ e → i + n ≤ w → part (at + i) n b ≡ part i n e
  inner w i n e q h = sym (part-part i n at w b h) ∙ ap (part i n) q

  pub inner-byte : (w x : ℕ) (e : List ℕ) → part at w b ≡ x ∷ e → 1 ≤ w → x < 256 → num_at b at 1 ≡ x
  inner-byte w x e q h l =
      ap (λ k. num_at b k 1) (sym (add-zero at)) ∙ ap (λ k. num k % 256) (inner w 0 1 (x ∷ e) q h) ∙ byte-read x e l

  -- and what stands behind a byte
  pub inner-rest : (x n : ℕ) (e : List ℕ) → part at (suc n) b ≡ x ∷ e → length e ≡ n → part (at + 1) n b ≡ e
  unfolding part
  inner-rest x n e q h = inner (suc n) 1 n (x ∷ e) q (omega arith) ∙ take_all n e (omega arith)

  duid-read : (d : Duid) → length d ≤ 130 → part at 131 b ≡ duid_bytes d → (num_at b at 1 ≡ length d) × (duid_at b at ≡ d)
  unfolding filled
  duid-read d h q =
      let n = length d in
      let e : num_at b at 1 ≡ n = inner-byte 131 n (filled 130 d) (q ∙ ap (λ k. k ++ filled 130 d) (be-one n (omega arith))) (omega arith) (omega arith) in
      (e, ap (λ k. part (at + 1) k b) e ∙ inner 131 1 n (duid_bytes d) q (omega arith) ∙ part-mid 1 n (be 1 n) d (replicate (130 - n) 0) (length-be 1 n) refl)

  server-read : (s : Option Duid) → good_server s ≡ true → part at 131 b ≡ server_bytes s → some_if (num_at b at 1) (duid_at b at) ≡ s
  server-read None g q = rw (inner-byte 131 0 (replicate 130 0) q (omega arith) (omega arith))
  server-read (Some d) g q =
      let f = both (leb 3 (length d)) (leb (length d) 130) g in
      let m = leb-true 3 (length d) f.0 in
      let r = duid-read d (leb-true (length d) 130 f.1) q in
      rw (r.1, r.0, ne_eqb (length d) 0 (λ z. omega arith))

  pub held-read : (s : Option Duid) (o : Option Hold) → good_hold s o ≡ true → part at 43 b ≡ held_bytes o → some_if (num_at b at 1) (hold_of (part (at + 1) 42 b)) ≡ o
  held-read s None g q = rw (inner-byte 43 0 (replicate 42 0) q (omega arith) (omega arith))
  held-read s (Some h) g q =
      let a = both (known s && good_lease h.lease) (good_end h.end) g in
      let l = (both (known s) (good_lease h.lease) a.0).1 in
      rw (inner-byte 43 1 (hold_bytes h) q (omega arith) (omega arith), inner-rest 1 42 (hold_bytes h) q (hold-size h), hold-round h l a.1)

  exchange-read : (s : Option Duid) (o : Option Exchange) → good_exchange s o ≡ true → part at 35 b ≡ exchange_bytes o
      → some_if (num_at b at 1) (exchange_of (kind_of (num_at b at 1)) (lease_of (part (at + 1) 34 b))) ≡ o
  exchange-read s None g q = rw (inner-byte 35 0 (replicate 34 0) q (omega arith) (omega arith))
  exchange-read s (Some x) g q =
      let k = x.kind in
      let a = both (not (wants_server k) || known s) (good_sent k x.sent) g in
      rw (inner-byte 35 (type_of k) (sent_bytes x.sent) q (omega arith) (type-byte k), inner-rest (type_of k) 34 (sent_bytes x.sent) q (sent-size x.sent))
      (exchange-round k x.sent a.1)

-- ---------------------------------------------------------------- a state

pub asker-facts : (r : Router) → Sound r → (length r.me.duid ≤ 130) × (r.me.iaid < 2 ^ 32) × (r.wanted ≤ 64)
asker-facts r f =
    let d = r.me.duid in
    let a = both (good_identity r.me) (leb r.wanted 64) f.asker in
    let i = both (good_duid d) (ltb r.me.iaid (2 ^ 32)) a.0 in
    (leb-true _ 130 (both (leb 3 (length d)) (leb (length d) 130) i.0).1, ltb-true _ _ i.1, leb-true _ _ a.1)

pub sound-fields : (r : Router) → Sound r → Fields (router_bytes r) (router_fields r) router_sizes
sound-fields r f = router-fields r (duid-size r.me.duid (asker-facts r f).0) (server-size r.server f.server)

-- a field that is a number
field-num : {b : List ℕ} {fs : List (List ℕ)} {ws : List ℕ} → Fields b fs ws → (i n x : ℕ) → i < length fs → get_or ws i 0 ≡ n → get_or fs i [] ≡ be n x → x < 2 ^ (8 * n) → num_at b (sum (take i ws)) n ≡ x
field-num {b} {fs} {ws} f i n x h w e l =
    let q : part (sum (take i ws)) n b ≡ be n x = ap (λ k. part (sum (take i ws)) k b) (sym w) ∙ field_at f i h ∙ e in
    ap (λ k. num k % 2 ^ (8 * n)) q ∙ ap (λ k. k % 2 ^ (8 * n)) (num-be-fits n x l) ∙ mod-eq_of_lt l

module _ (r : Router) (good : sound_router r ≡ true) where
  s : Sound r
  s = sound-facts r good

  abbrev b : List ℕ
  b = router_bytes r

  f : Fields (router_bytes r) (router_fields r) router_sizes
  f = sound-fields r s

  pub router-length : length (router_bytes r) ≡ 384
  router-length = fields-length f

  pub router-round : router_of (router_bytes r) ≡ r
  unfolding router_of
  router-round =
      let a = asker-facts r s in
      let l : num_at b 0 8 ≡ r.last = field-num f 0 8 r.last (omega arith) refl refl (omega (arith, s.time)) in
      let st : num_at b 8 8 ≡ r.started = field-num f 1 8 r.started (omega arith) refl refl (omega (arith, s.time, s.started-last)) in
      let bg : num_at b 16 8 ≡ r.began = field-num f 2 8 r.began (omega arith) refl refl (omega (arith, s.time, s.began-last)) in
      let fr : num_at b 24 8 ≡ r.freed = field-num f 3 8 r.freed (omega arith) refl refl (omega (arith, s.time, s.freed-last)) in
      let nx : num_at b 32 4 ≡ r.next = field-num f 4 4 r.next (omega arith) refl refl (omega (arith, s.small)) in
      let wa : num_at b 36 1 ≡ r.wanted = field-num f 5 1 r.wanted (omega arith) refl refl (omega (arith, a.2)) in
      let ia : num_at b 37 4 ≡ r.me.iaid = field-num f 6 4 r.me.iaid (omega arith) refl refl a.1 in
      let du : duid_at b 41 ≡ r.me.duid = (duid-read b 41 r.me.duid a.0 (field_at f 7 (omega arith))).1 in
      let se = server-read b 172 r.server s.server (field_at f 8 (omega arith)) in
      let he = held-read b 303 r.server r.held s.held (field_at f 9 (omega arith)) in
      let ex = exchange-read b 346 r.server r.exchange s.exchange (field_at f 10 (omega arith)) in
      λ j. record {
        me = identity (du j) (ia j);
        wanted = wa j;
        started = st j;
        began = bg j;
        freed = fr j;
        last = l j;
        next = nx j;
        server = se j;
        held = he j;
        exchange = ex j;
      }

  -- so the representation of a sound state is sound
  pub router-bytes-sound : sound_router_bytes (router_bytes r) ≡ true
  unfolding sound_router_bytes
  router-bytes-sound = rw (router-round, good, bytes-refl (router_bytes r))

-- and a sound array is the representation of the state that it says
pub router-sound-bytes : (b : List ℕ) → sound_router_bytes b ≡ true → (sound_router (router_of b) ≡ true) × (router_bytes (router_of b) ≡ b)
unfolding sound_router_bytes
router-sound-bytes b h = let a = both (sound_router (router_of b)) (same_bytes (router_bytes (router_of b)) b) h in (a.0, bytes-true _ _ a.1)

-- ---------------------------------------------------------------- a field put in

-- lent bytes that are a sound state's are its fields
pub lent-fields : (b : List ℕ) → sound_router_bytes b ≡ true → Fields b (router_fields (router_of b)) router_sizes
lent-fields b h =
    let a = router-sound-bytes b h in
    subst (λ m. Fields m (router_fields (router_of b)) router_sizes) a.1 (sound-fields (router_of b) (sound-facts (router_of b) a.0))

pub lent_length : (b : List ℕ) → sound_router_bytes b ≡ true → length b ≡ 384
lent_length b h = fields-length (lent-fields b h)

-- bytes that are a state's fields are its representation
pub fields-router : (r : Router) {b : List ℕ} {ws : List ℕ} → Fields b (router_fields r) ws → b ≡ router_bytes r
unfolding router_bytes
fields-router r f = f.is

-- one field put in at its place: `router_sizes` gives its size, the sum of those before it its place
--   0 last time, 2 latest beginning, 3 last sending of a Release, 4 next number, 8 server, 9 hold, 10 exchange
pub router-put : (r s : Router) → sound_router r ≡ true → (i : ℕ) (y : List ℕ) → i < 12 → length y ≡ get_or router_sizes i 0 → set (router_fields r) i y ≡ router_fields s
    → splice (sum (take i router_sizes)) y (router_bytes r) ≡ router_bytes s
router-put r s good i y h q e =
    let f = field-change (sound-fields r (sound-facts r good)) i y h q in
    fields-router s (subst (λ l. Fields (splice (sum (take i router_sizes)) y (router_bytes r)) l router_sizes) e f)
