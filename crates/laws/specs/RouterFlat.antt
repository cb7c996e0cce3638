-- Soundness of a router's state as code tests it: one flat test of the lent bytes, the same as `sound_router_bytes`.
--   lease_in, server_in, held_in, exchange_in   a delegation, the server, the hold, the exchange, each at its place
--   ..-field                                the same as a good one whose representation the bytes are
--   flat_router, flat-router                 the state, in its bytes
--   way-.., duid-.., exchange-..            what code returns is the test, by the way that it takes
use Rattle.std.specs.Prelude.{◌≡◌, Bool, not, ◌&&◌, ◌||◌, leb, ltb, drop, replicate, Option, None, Some}
use Rattle.std.proofs.Math.Path.{refl, sym, ap}
use Rattle.std.proofs.Common.{◌∙◌, subst, length-drop}
use Rattle.std.proofs.Math.Bool.{true, false, cond, and-true, and-false, and_comm}
use mathlib.Core.List.{List, [], ◌∷◌, ◌++◌}
use Prim.Native.Nat.{ℕ, suc, ◌+◌, ◌-◌, ◌*◌, ◌≤◌, ◌<◌, ◌^◌, min}
use Rattle.std.proofs.Math.Nat.{add-zero}
use native.Mathlib.Omega.{arith}
use Rattle.std.proofs.Math.Dec.{eqb}
use Rattle.std.proofs.Math.ListN.{length, get_or, length-take}
use Rattle.std.proofs.Math.Seq.{take-take}
use borrow.Author.Tests.{eqb-true, eqb-false, ne_eqb, leb-true, le-leb, lt-leb, lt-ltb}
use Rattle.rules.specs.Words.{all, part, filled, same_bytes, num, be, num_at}
use Rattle.rules.specs.Prefix.{Prefix, prefix, zero_after, fits, encodable, Lease, lease, lease_encodable}
use Rattle.rules.specs.Clock.{good_end}
use Rattle.rules.specs.Identity.{Duid, good_duid, good_identity, served, kind_of, type_of, identity_rows}
use Rattle.rules.specs.Router.{Exchange, good_lease, known, good_server, good_hold, good_exchange, sound_router}
use Rattle.rules.specs.RouterBytes.{except_bytes, lease_bytes, hold_bytes, duid_bytes, server_bytes, held_bytes, exchange_bytes, router_bytes, some_if, lease_of, hold_of, duid_at, exchange_of, router_of, sound_router_bytes}
use Rattle.rules.specs.declared.Kind.{Kind}
use Rattle.rules.specs.declared.Kind.TheVariants.{Solicit, Request, Renew, Rebind, Release}
use Rattle.laws.specs.Tests.{both, neither, same_test}
use Rattle.laws.specs.Parts.{length_part, drop-part, part-cons, part-part}
use Rattle.laws.specs.Numbers.{Bytes, bytes-part, num_at-fits, num_at-is, num-lt}
use Rattle.laws.specs.Kinds.{bytes-refl, served-type}
use Rattle.laws.specs.Same.{same_bool, same-zeros, same_number, same-split}
use Rattle.laws.specs.Fields.{fields-same}
use Rattle.laws.specs.RouterFields.{sound-facts, lease-size, duid-size, router_fields, router_sizes, router-fields}
use Rattle.laws.specs.Flat.{duid_in, be-one, duid-filled}

-- ---------------------------------------------------------------- the flat test

-- a delegation's prefix, and its excluded one, in the 34 bytes from `at`
abbrev pub prefix_in : ℕ → List ℕ → Prefix
prefix_in at b = prefix (num (part at 16 b)) (num_at b (at + 16) 1)

-- the excluded prefix has an encoding, or is none and all zero
unfoldable pub except_in : ℕ → List ℕ → Bool
except_in at b = cond (eqb (num_at b (at + 33) 1) 0) (all (eqb 0) (part (at + 17) 17 b)) (encodable (prefix_in at b) (prefix (num (part (at + 17) 16 b)) (num_at b (at + 33) 1)))

unfoldable pub lease_in : ℕ → List ℕ → Bool
lease_in at b = leb (num_at b (at + 16) 1) 128 && except_in at b && zero_after (prefix_in at b)

unfoldable pub server_in : List ℕ → Bool
server_in b = cond (eqb (num_at b 172 1) 0) (all (eqb 0) (part 172 131 b)) (duid_in 173 (num_at b 172 1) b)

-- the flag is 0 and zeros follow, or it is 1, a server is known, and a hold follows
unfoldable pub held_in : List ℕ → Bool
held_in b =
    cond (eqb (num_at b 303 1) 0) (all (eqb 0) (part 303 43 b))
    (eqb (num_at b 303 1) 1 && not (eqb (num_at b 172 1) 0) && lease_in 304 b && good_end (num_at b 338 8))

-- which types want a server, which send a delegation, which none
abbrev pub wants : ℕ → Bool
wants k = eqb k 3 || eqb k 5 || eqb k 8

abbrev pub sends : ℕ → Bool
sends k = eqb k 5 || eqb k 6 || eqb k 8

abbrev pub sends_none : ℕ → Bool
sends_none k = eqb k 0 || eqb k 1 || eqb k 3

unfoldable pub exchange_in : List ℕ → Bool
exchange_in b =
    cond (wants (num_at b 346 1) && eqb (num_at b 172 1) 0) false
    (cond (sends (num_at b 346 1)) (lease_in 347 b) (sends_none (num_at b 346 1) && all (eqb 0) (part 347 34 b)))

unfoldable pub numbers_in : List ℕ → Bool
numbers_in b =
    leb (num_at b 36 1) 64 && leb (num_at b 8 8) (num_at b 0 8) && leb (num_at b 16 8) (num_at b 0 8) && leb (num_at b 24 8) (num_at b 0 8)
    && ltb (num_at b 0 8) (2 ^ 48) && ltb (num_at b 32 4) (2 ^ 24)

unfoldable pub flat_router : List ℕ → Bool
flat_router b = numbers_in b && duid_in 42 (num_at b 41 1) b && server_in b && held_in b && exchange_in b && all (eqb 0) (part 381 3 b)

-- ---------------------------------------------------------------- inside a part

module _ (b : List ℕ) where
  -- one field after another: x beside the first n bytes of a part, and what follows beside the rest
  same-part : (x y : List ℕ) (at n w : ℕ) → length x ≡ n → n ≤ w → at + w ≤ length b → same_bytes (x ++ y) (part at w b) ≡ same_bytes x (part at n b) && same_bytes y (part (at + n) (w - n) b)
  unfolding part
  same-part x y at n w e h l =
      same-split x y (part at w b) n e (rw (length_part at w b l) h)
      ∙ rw (drop-part n w at b, take-take n w (drop at b) h)

  same-read-part : (x y : List ℕ) (at n w : ℕ) → x ≡ part at n b → n ≤ w → at + w ≤ length b → same_bytes (x ++ y) (part at w b) ≡ same_bytes y (part (at + n) (w - n) b)
  same-read-part x y at n w e h l =
      same-part x y at n w (ap length e ∙ length_part at n b (omega arith)) h l ∙ rw (e, bytes-refl (part at n b))

  -- a number in a part is that number in place
  pub num-part : (at w i n : ℕ) → i + n ≤ w → num_at (part at w b) i n ≡ num_at b (at + i) n
  num-part at w i n h = rw (part-part i n at w b h)

module _ (b : List ℕ) (y : Bytes b) where
  be-part : (at n : ℕ) → at + n ≤ length b → be n (num (part at n b)) ≡ part at n b
  be-part at n h = ap (be n) (sym (num_at-is b at n y h)) ∙ same_number b at n y h

  -- a byte in front of a part
  first_byte : (at n : ℕ) → at + suc n ≤ length b → part at (suc n) b ≡ num_at b at 1 ∷ part (at + 1) n b
  unfolding part
  first_byte at n h =
      let o : part at 1 b ≡ num_at b at 1 ∷ [] = sym (same_number b at 1 y (omega arith)) ∙ be-one (num_at b at 1) (num_at-fits b at 1) in
      let e : get_or b at 0 ≡ num_at b at 1 = ap (λ l. get_or l 0 0) (sym (part-cons at 0 b 0 (omega arith)) ∙ o) in
      part-cons at n b 0 (omega arith) ∙ ap (λ x. x ∷ part (at + 1) n b) e

  zeros-in : (at n : ℕ) → at + n ≤ length b → same_bytes (replicate n 0) (part at n b) ≡ all (eqb 0) (part at n b)
  zeros-in at n h = same-zeros n (part at n b) (length_part at n b h)

-- ---------------------------------------------------------------- a delegation

-- a delegation that is read in place
abbrev pub lease_at : List ℕ → ℕ → Lease
lease_at b at = lease (prefix_in at b) (some_if (num_at b (at + 33) 1) (prefix (num (part (at + 17) 16 b)) (num_at b (at + 33) 1)))

module _ (b : List ℕ) (y : Bytes b) (at : ℕ) where
  abbrev x : ℕ
  x = num_at b (at + 33) 1

  abbrev p : Prefix
  p = prefix_in at b

  abbrev e : Prefix
  e = prefix (num (part (at + 17) 16 b)) x

  num-whole : (w i n : ℕ) → i + n ≤ w → at + w ≤ length b → num_at (part at w b) i n ≡ num (part (at + i) n b)
  num-whole w i n h l = num-part b at w i n h ∙ num_at-is b (at + i) n y (omega arith)

  pub lease-read : (w : ℕ) → 34 ≤ w → at + w ≤ length b → lease_of (part at w b) ≡ lease_at b at
  unfolding lease_of
  lease-read w h l = rw (num-whole w 0 16 (omega arith) l, num-part b at w 16 1 (omega arith), num-whole w 17 16 (omega arith) l, num-part b at w 33 1 (omega arith), add-zero at)

  fits_in : at + 34 ≤ length b → fits (prefix_in at b) ≡ leb (num_at b (at + 16) 1) 128
  fits_in h =
      let l : num (part at 16 b) < 2 ^ 128 = subst (λ k. num (part at 16 b) < 2 ^ (8 * k)) (length_part at 16 b (omega arith)) (num-lt (part at 16 b) (bytes-part at 16 b y)) in
      rw (lt-ltb (num (part at 16 b)) (2 ^ 128) l, and-true)

  -- the bytes are the representation of what they say
  lease-same : at + 34 ≤ length b → same_bytes (lease_bytes (lease_at b at)) (part at 34 b) ≡ same_bytes (except_bytes (some_if x e)) (part (at + 17) 17 b)
  unfolding lease_bytes
  lease-same h =
      let q : at + 16 + 1 ≡ at + 17 = omega arith in
      same-read-part b (be 16 (num (part at 16 b))) _ at 16 34 (be-part b y at 16 (omega arith)) (omega arith) h
      ∙ same-read-part b (be 1 (num_at b (at + 16) 1)) _ (at + 16) 1 18 (same_number b (at + 16) 1 y (omega arith)) (omega arith) (omega arith)
      ∙ ap (λ k. same_bytes (except_bytes (some_if x e)) (part k 17 b)) q

  lease-field : at + 34 ≤ length b → good_lease (lease_at b at) && same_bytes (lease_bytes (lease_at b at)) (part at 34 b) ≡ lease_in at b
  unfolding good_lease lease_in except_in
  lease-field h = rw (lease-same h) (by (eqb x 0) refl)
    where
      tested : (f c z : Bool) → f && z && c ≡ f && c && z
      tested true c z = and_comm z c
      tested false c z = refl

      by : (t : Bool) → eqb x 0 ≡ t
          → lease_encodable p (cond t None (Some e)) && zero_after p && same_bytes (except_bytes (cond t None (Some e))) (part (at + 17) 17 b)
          ≡ leb (num_at b (at + 16) 1) 128 && cond t (all (eqb 0) (part (at + 17) 17 b)) (encodable p e) && zero_after p
      by true q = rw (fits_in h, zeros-in b y (at + 17) 17 (omega arith)) (tested (leb (num_at b (at + 16) 1) 128) (all (eqb 0) (part (at + 17) 17 b)) (zero_after p))
      by false q =
          let i : at + 17 + 16 ≡ at + 33 = omega arith in
          let s : same_bytes (be 16 (num (part (at + 17) 16 b)) ++ be 1 x) (part (at + 17) 17 b) ≡ true =
          same-read-part b (be 16 (num (part (at + 17) 16 b))) (be 1 x) (at + 17) 16 17 (be-part b y (at + 17) 16 (omega arith)) (omega arith) (omega arith)
          ∙ ap (λ k. same_bytes (be 1 x) (part k 1 b)) i ∙ ap (same_bytes (be 1 x)) (sym (same_number b (at + 33) 1 y (omega arith))) ∙ bytes-refl (be 1 x) in
          rw (fits_in h, s, and-true)

-- ---------------------------------------------------------------- a DUID behind its length

module _ (b : List ℕ) (y : Bytes b) (at : ℕ) (h : at + 131 ≤ length b) where
  abbrev n : ℕ
  n = num_at b at 1

  duid-length : n ≤ 130 → length (duid_at b at) ≡ n
  duid-length few = length_part (at + 1) n b (omega arith)

  -- a DUID that is cut of the bytes is short where its length is
  pub duid-short : at + 132 ≤ length b → length (duid_at b at) ≤ 130 → n ≤ 130
  unfolding part
  duid-short m k =
      let e : length (duid_at b at) ≡ min n (length b - (at + 1)) = length-take n (drop (at + 1) b) ∙ ap (min n) (length-drop (at + 1) b) in
      omega arith

  duid-field : n ≤ 130 → good_duid (duid_at b at) && same_bytes (duid_bytes (duid_at b at)) (part at 131 b) ≡ duid_in (at + 1) n b
  duid-field few =
      let l = duid-length few in
      let s : same_bytes (be 1 n ++ filled 130 (duid_at b at)) (part at 131 b) ≡ all (eqb 0) (part (at + 1 + n) (130 - n) b) =
      same-read-part b (be 1 n) (filled 130 (duid_at b at)) at 1 131 (same_number b at 1 y (omega arith)) (omega arith) h ∙ duid-filled b (at + 1) n (omega arith) few in
      rw (l, s)

-- ---------------------------------------------------------------- the server, the hold, the exchange

pub known-if : (n : ℕ) (d : Duid) → known (some_if n d) ≡ not (eqb n 0)
known-if n d = by (eqb n 0)
  where
    by : (t : Bool) → known (cond t None (Some d)) ≡ not t
    by true = refl
    by false = refl

-- an exchange by its type k, where n is the length of the server's DUID and e what follows the type
module _ (n : ℕ) (s : Option Duid) (l : Lease) (e : List ℕ) (q : known s ≡ not (eqb n 0)) (h : length e ≡ 34) where
  abbrev exchange_good : ℕ → Option Exchange → Bool
  exchange_good k o = good_exchange s o && same_bytes (exchange_bytes o) (k ∷ e)

  abbrev exchange_test : ℕ → Bool
  exchange_test k = cond (wants k && eqb n 0) false (cond (sends k) (good_lease l && same_bytes (lease_bytes l) e) (sends_none k && all (eqb 0) e))

  with-server : (g c : Bool) → known s && g && c ≡ cond (eqb n 0) false (g && c)
  with-server g c = rw q (by (eqb n 0))
    where
      by : (t : Bool) → not t && g && c ≡ cond t false (g && c)
      by true = refl
      by false = refl

  exchange-kind : (d : Kind) → exchange_good (type_of d) (Some (exchange_of d l)) ≡ exchange_test (type_of d)
  unfolding identity_rows
  exchange-kind Solicit = same-zeros 34 e h
  exchange-kind Request = with-server true (same_bytes (replicate 34 0) e) ∙ rw (same-zeros 34 e h)
  exchange-kind Renew = with-server (good_lease l) (same_bytes (lease_bytes l) e)
  exchange-kind Rebind = refl
  exchange-kind Release = with-server (good_lease l) (same_bytes (lease_bytes l) e)

  exchange-test : (k : ℕ) → exchange_good k (some_if k (exchange_of (kind_of k) l)) ≡ exchange_test k
  exchange-test k = by (eqb k 0) refl (served k) refl
    where
      by : (z : Bool) → eqb k 0 ≡ z → (t : Bool) → served k ≡ t → exchange_good k (cond z None (Some (exchange_of (kind_of k) l))) ≡ exchange_test k
      by true z t v = let w = eqb-true k 0 z in rw w (same-zeros 34 e h)
      by false z true v = let w = served-type k v in subst (λ j. exchange_good j (Some (exchange_of (kind_of k) l)) ≡ exchange_test j) (sym w) (exchange-kind (kind_of k))
      by false z false v =
          let a = neither (eqb k 1 || eqb k 3 || eqb k 5 || eqb k 6) (eqb k 8) v in
          let b = neither (eqb k 1 || eqb k 3 || eqb k 5) (eqb k 6) a.0 in
          let c = neither (eqb k 1 || eqb k 3) (eqb k 5) b.0 in
          let d = neither (eqb k 1) (eqb k 3) c.0 in
          let m : eqb 8 k ≡ false = ne_eqb 8 k (λ i. eqb-false k 8 a.1 (sym i)) in
          rw (d.0, d.1, c.1, b.1, a.1, z, m) (and-false (good_exchange s (Some (exchange_of Release l))))

-- tests of a hold in another order
hold-order : (k g t f c : Bool) → k && g && t && (f && c) ≡ f && k && (g && c) && t
hold-order k g t false c = and-false (k && g && t)
hold-order k g t true false = rw (and-false (k && g && t), and-false g, and-false k)
hold-order k g t true true = rw (and-true (k && g && t), and-true g)

-- and those of a state: N of its numbers, each other test beside the bytes that it is about
state-order : (N S H X c s h x z : Bool) → N && S && H && X && (c && (s && (h && (x && (z && true))))) ≡ N && c && (S && s) && (H && h) && (X && x) && z
state-order false S H X c s h x z = refl
state-order true S H X false s h x z = and-false (S && H && X)
state-order true false H X true s h x z = refl
state-order true true H X true false h x z = and-false (H && X)
state-order true true false X true true h x z = refl
state-order true true true X true true false x z = and-false X
state-order true true true false true true true x z = refl
state-order true true true true true true true x z = ap (λ t. x && t) (and-true z)

-- its own DUID's test g goes beside c, and i is true
first-order : (g i w p q r t n S H X c R : Bool) → i ≡ true
    → g && i && w && p && q && r && t && n && S && H && X && (c && R) ≡ w && p && q && r && t && n && S && H && X && (g && c && R)
first-order true i w p q r t n S H X c R e = rw e
first-order false i w p q r t n S H X c R e = sym (and-false (w && p && q && r && t && n && S && H && X))

module _ (b : List ℕ) (y : Bytes b) (l : length b ≡ 384) where
  server-field : num_at b 172 1 ≤ 130
      → good_server (some_if (num_at b 172 1) (duid_at b 172)) && same_bytes (server_bytes (some_if (num_at b 172 1) (duid_at b 172))) (part 172 131 b) ≡ server_in b
  unfolding server_in
  server-field few = by (eqb (num_at b 172 1) 0)
    where
      by : (t : Bool) → good_server (cond t None (Some (duid_at b 172))) && same_bytes (server_bytes (cond t None (Some (duid_at b 172)))) (part 172 131 b)
          ≡ cond t (all (eqb 0) (part 172 131 b)) (duid_in 173 (num_at b 172 1) b)
      by true = zeros-in b y 172 131 (omega arith)
      by false = duid-field b y 172 (omega arith) few

  hold-read : hold_of (part 304 42 b) ≡ record { lease = lease_at b 304; end = num_at b 338 8 }
  unfolding hold_of
  hold-read = rw (lease-read b y 304 42 (omega arith) (omega arith), num-part b 304 42 34 8 (omega arith))

  hold-same : same_bytes (hold_bytes (record { lease = lease_at b 304; end = num_at b 338 8 })) (part 304 42 b) ≡ same_bytes (lease_bytes (lease_at b 304)) (part 304 34 b)
  unfolding hold_bytes
  hold-same =
      same-part b (lease_bytes (lease_at b 304)) (be 8 (num_at b 338 8)) 304 34 42 (lease-size (lease_at b 304)) (omega arith) (omega arith)
      ∙ rw (same_number b 338 8 y (omega arith), bytes-refl (part 338 8 b), and-true)

  held-field : (s : Option Duid) → known s ≡ not (eqb (num_at b 172 1) 0)
      → good_hold s (some_if (num_at b 303 1) (hold_of (part 304 42 b))) && same_bytes (held_bytes (some_if (num_at b 303 1) (hold_of (part 304 42 b)))) (part 303 43 b) ≡ held_in b
  unfolding held_in
  held-field s q = rw hold-read (by (eqb (num_at b 303 1) 0))
    where
      o : eqb 1 (num_at b 303 1) ≡ eqb (num_at b 303 1) 1
      o = same_test 1 (num_at b 303 1) (num_at b 303 1) 1 sym sym

      by : (t : Bool) → good_hold s (cond t None (Some (record { lease = lease_at b 304; end = num_at b 338 8 })))
          && same_bytes (held_bytes (cond t None (Some (record { lease = lease_at b 304; end = num_at b 338 8 })))) (part 303 43 b)
          ≡ cond t (all (eqb 0) (part 303 43 b)) (eqb (num_at b 303 1) 1 && not (eqb (num_at b 172 1) 0) && lease_in 304 b && good_end (num_at b 338 8))
      by true = zeros-in b y 303 43 (omega arith)
      by false =
          rw (first_byte b y 303 42 (omega arith), hold-same, o, q, ← lease-field b y 304 (omega arith))
          (hold-order (not (eqb (num_at b 172 1) 0)) (good_lease (lease_at b 304)) (good_end (num_at b 338 8)) (eqb (num_at b 303 1) 1) (same_bytes (lease_bytes (lease_at b 304)) (part 304 34 b)))

  exchange-field : (s : Option Duid) → known s ≡ not (eqb (num_at b 172 1) 0)
      → good_exchange s (some_if (num_at b 346 1) (exchange_of (kind_of (num_at b 346 1)) (lease_of (part 347 34 b))))
      && same_bytes (exchange_bytes (some_if (num_at b 346 1) (exchange_of (kind_of (num_at b 346 1)) (lease_of (part 347 34 b))))) (part 346 35 b) ≡ exchange_in b
  unfolding exchange_in
  exchange-field s q =
      rw (lease-read b y 347 34 (omega arith) (omega arith), first_byte b y 346 34 (omega arith), ← lease-field b y 347 (omega arith))
      (exchange-test (num_at b 172 1) s (lease_at b 347) (part 347 34 b) q (length_part 347 34 b (omega arith)) (num_at b 346 1))

  read_same : (at n : ℕ) → at + n ≤ length b → same_bytes (be n (num_at b at n)) (part at n b) ≡ true
  read_same at n h = rw (same_number b at n y h) (bytes-refl (part at n b))

  server-length : num_at b 172 1 ≤ 130 → length (server_bytes (some_if (num_at b 172 1) (duid_at b 172))) ≡ 131
  server-length few = by (eqb (num_at b 172 1) 0)
    where
      by : (t : Bool) → length (server_bytes (cond t None (Some (duid_at b 172)))) ≡ 131
      by true = refl
      by false = duid-size (duid_at b 172) (rw (duid-length b y 172 (omega arith) few) few)

  -- the bytes are the representation of what they say: four fields can say it in another way
  router-same : num_at b 41 1 ≤ 130 → num_at b 172 1 ≤ 130 → same_bytes (router_bytes (router_of b)) b
      ≡ same_bytes (duid_bytes (duid_at b 41)) (part 41 131 b) && (same_bytes (server_bytes (some_if (num_at b 172 1) (duid_at b 172))) (part 172 131 b)
      && (same_bytes (held_bytes (router_of b).held) (part 303 43 b) && (same_bytes (exchange_bytes (router_of b).exchange) (part 346 35 b) && (all (eqb 0) (part 381 3 b) && true))))
  unfolding router_of
  router-same few few2 =
      let f = router-fields (router_of b) (duid-size (duid_at b 41) (rw (duid-length b y 41 (omega arith) few) few)) (server-length few2) in
      ap (λ m. same_bytes m b) f.is ∙ fields-same (router_fields (router_of b)) router_sizes b f.sizes (sym l)
      ∙ rw (read_same 0 8 (omega arith), read_same 8 8 (omega arith), read_same 16 8 (omega arith), read_same 24 8 (omega arith))
      (rw (read_same 32 4 (omega arith), read_same 36 1 (omega arith), read_same 37 4 (omega arith), zeros-in b y 381 3 (omega arith)))

  abbrev server : Option Duid
  server = some_if (num_at b 172 1) (duid_at b 172)

  router-test : num_at b 41 1 ≤ 130 → num_at b 172 1 ≤ 130 → sound_router_bytes b ≡ flat_router b
  unfolding sound_router_bytes flat_router sound_router numbers_in router_of
  router-test few few2 =
      let r = router_of b in
      let k = known-if (num_at b 172 1) (duid_at b 172) in
      let g = good_duid (duid_at b 41) in
      let c = same_bytes (duid_bytes (duid_at b 41)) (part 41 131 b) in
      let S = good_server server in
      let s = same_bytes (server_bytes server) (part 172 131 b) in
      let H = good_hold server r.held in
      let h = same_bytes (held_bytes r.held) (part 303 43 b) in
      let X = good_exchange server r.exchange in
      let x = same_bytes (exchange_bytes r.exchange) (part 346 35 b) in
      let z = all (eqb 0) (part 381 3 b) in
      ap (λ o. sound_router r && o) (router-same few few2)
      ∙ first-order g (ltb (num_at b 37 4) (2 ^ 32)) (leb (num_at b 36 1) 64) (leb (num_at b 8 8) (num_at b 0 8)) (leb (num_at b 16 8) (num_at b 0 8)) (leb (num_at b 24 8) (num_at b 0 8))
      (ltb (num_at b 0 8) (2 ^ 48)) (ltb (num_at b 32 4) (2 ^ 24)) S H X c (s && (h && (x && (z && true)))) (lt-ltb (num_at b 37 4) (2 ^ 32) (num_at-fits b 37 4))
      ∙ state-order (numbers_in b) S H X (g && c) s h x z
      ∙ rw (duid-field b y 41 (omega arith) few, server-field few2, held-field server k, exchange-field server k)

  sound-short : sound_router_bytes b ≡ true → (num_at b 41 1 ≤ 130) × (num_at b 172 1 ≤ 130)
  unfolding sound_router_bytes router_of
  sound-short h =
      let f = sound-facts (router_of b) (both (sound_router (router_of b)) _ h).0 in
      let a = both (good_identity (router_of b).me) (leb (num_at b 36 1) 64) f.asker in
      let d = both (good_duid (duid_at b 41)) (ltb (num_at b 37 4) (2 ^ 32)) a.0 in
      let short : (at : ℕ) → at + 132 ≤ length b → good_duid (duid_at b at) ≡ true → num_at b at 1 ≤ 130 =
      λ at m g. duid-short b y at (omega arith) m (leb-true _ 130 (both (leb 3 (length (duid_at b at))) (leb (length (duid_at b at)) 130) g).1) in
      (short 41 (omega arith) d.0, by (eqb (num_at b 172 1) 0) refl f.server (short 172 (omega arith)))
    where
      by : (t : Bool) → eqb (num_at b 172 1) 0 ≡ t → good_server (cond t None (Some (duid_at b 172))) ≡ true → (good_duid (duid_at b 172) ≡ true → num_at b 172 1 ≤ 130) → num_at b 172 1 ≤ 130
      by true e g s = let z = eqb-true (num_at b 172 1) 0 e in omega arith
      by false e g s = s g

  flat-short : flat_router b ≡ true → (num_at b 41 1 ≤ 130) × (num_at b 172 1 ≤ 130)
  unfolding flat_router server_in
  flat-short h =
      let a = both _ (all (eqb 0) (part 381 3 b)) h in
      let c = both _ (exchange_in b) a.0 in
      let d = both _ (held_in b) c.0 in
      let e = both _ (server_in b) d.0 in
      let f = both (numbers_in b) (duid_in 42 (num_at b 41 1) b) e.0 in
      (short 41 f.1, by (eqb (num_at b 172 1) 0) refl e.1)
    where
      short : (at : ℕ) → duid_in (at + 1) (num_at b at 1) b ≡ true → num_at b at 1 ≤ 130
      short at g = leb-true _ 130 (both (leb 3 (num_at b at 1)) (leb (num_at b at 1) 130) (both _ (all (eqb 0) (part (at + 1 + num_at b at 1) (130 - num_at b at 1) b)) g).0).1

      by : (t : Bool) → eqb (num_at b 172 1) 0 ≡ t → cond t (all (eqb 0) (part 172 131 b)) (duid_in 173 (num_at b 172 1) b) ≡ true → num_at b 172 1 ≤ 130
      by true e g = let z = eqb-true (num_at b 172 1) 0 e in omega arith
      by false e g = short 172 g

  pub flat-router : sound_router_bytes b ≡ flat_router b
  flat-router = same_bool (sound_router_bytes b) (flat_router b)
      (λ h. let s = sound-short h in sym (router-test s.0 s.1) ∙ h)
      (λ h. let s = flat-short h in router-test s.0 s.1 ∙ h)

-- ---------------------------------------------------------------- as code tests it, return by return

-- the way that a test takes
pub way-true : {A : Type 0} (t : Bool) (a b : A) {z : A} → t ≡ true → z ≡ a → z ≡ cond t a b
way-true t a b h e = rw h e

pub way-false : {A : Type 0} (t : Bool) (a b : A) {z : A} → t ≡ false → z ≡ b → z ≡ cond t a b
way-false t a b h e = rw h e

module _ (at n : ℕ) (b : List ℕ) where
  pub duid-over : 130 < n → false ≡ duid_in at n b
  duid-over h = rw (lt-leb n 130 h, and-false (leb 3 n))

  pub duid-tested : {z : Bool} → n ≤ 130 → z ≡ all (eqb 0) (part (at + n) (130 - n) b) → leb 3 n && z ≡ duid_in at n b
  duid-tested h e = rw (le-leb n 130 h, and-true (leb 3 n), e)

-- k and n are what code reads: the exchange's type, the length of the server's DUID
module _ (b : List ℕ) {k n : ℕ} (ek : k ≡ num_at b 346 1) (en : n ≡ num_at b 172 1) where
  pub exchange-alone : wants k && eqb n 0 ≡ true → false ≡ exchange_in b
  unfolding exchange_in
  exchange-alone h = rw (← ek, ← en, h)

  pub exchange-sends : {z : Bool} → wants k && eqb n 0 ≡ false → sends k ≡ true → z ≡ lease_in 347 b → z ≡ exchange_in b
  unfolding exchange_in
  exchange-sends h g e = rw (← ek, ← en, h, g) e

  pub exchange-bare : {z : Bool} → wants k && eqb n 0 ≡ false → sends k ≡ false → z ≡ all (eqb 0) (part 347 34 b) → sends_none k && z ≡ exchange_in b
  unfolding exchange_in
  exchange-bare h g e = rw (← ek, ← en, h, g, e)
