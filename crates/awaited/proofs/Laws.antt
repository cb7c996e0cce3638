-- Each part of `awaited` as code tests it.
use mathlib.Core.Path.{◌≡◌, refl, sym, ap, ◌∙◌}
use mathlib.Core.Bool.{Bool, true, false, cond, not, ◌&&◌, ◌||◌, and-true, and_assoc, or-false}
use mathlib.Core.List.{List, map}
use Rattle.std.specs.Prelude.{None, Some}
use Prim.Native.Nat.{ℕ, ◌+◌, ◌-◌, ◌%◌, ◌≤◌}
use native.Mathlib.Omega.{arith}
use native.Mathlib.Nat.{add-sub_cancel_left}
use borrow.Author.Tests.{ne_eqb, eqb-true, eqb-false, leb-true, ltb-false, not-true, not-false}
use lib.Dec.{eqb, leb, ltb}
use lib.ListN.{length, get_or, take, drop, length-map}
use Rattle.rules.specs.Words.{all, any, part, same_bytes, num_at}
use Rattle.rules.specs.Options.{Area, area_of, options, count, spot}
use Rattle.rules.specs.Refusals.{wrong_size}
use Rattle.rules.specs.Message.{Message, status_at, listed_at, ia_at, top, read, well_formed}
use Rattle.rules.specs.Identity.{Duid, good_duid, served, kind_of, type_of, answer_type, is_release, identity_rows, stands}
use Rattle.rules.specs.Router.{wants_server, servers_of, number_before, good_ia, good_ias, says6, no_prefix, may_offer, from_server, awaited}
use Rattle.rules.specs.RouterBytes.{some_if, duid_at, router_of}
use Rattle.rules.specs.declared.Kind.{Kind}
use Rattle.rules.specs.declared.Kind.TheVariants.{Solicit, Request, Renew, Rebind, Release}
use Rattle.rules.specs.declared.Spot.{Spot}
use Rattle.laws.specs.Tests.{both, neither}
use Rattle.laws.specs.Parts.{length_part}
use Rattle.laws.specs.Same.{same_bool, other_length}
use Rattle.laws.specs.Kinds.{served-type, bytes-true, bytes-refl}
use Rattle.laws.specs.Steps.{any-map}
use Rattle.laws.specs.RouterChange.{release-type}
use Rattle.heard.specs.Heard.{only_of}
use Rattle.heard.specs.Facts.{only_at, only-nothing}
use Rattle.awaited.specs.Parts.{DuidIn, answers_to, pd_says6}
use Rattle.awaited.specs.Facts.{open_as, exchange-is}

-- ---------------------------------------------------------------- the type and the number

answered : (k a : ℕ) → (eqb k 1 && eqb a 2) || (not (eqb k 1) && eqb a 7) ≡ eqb a (answer_type (kind_of k))
answered k a = by (eqb k 1) (eqb k 3) (eqb k 5) (eqb k 6)
  where
    by : (x y z w : Bool) → (x && eqb a 2) || (not x && eqb a 7) ≡ eqb a (answer_type (cond x Solicit (cond y Request (cond z Renew (cond w Rebind Release)))))
    by true y z w = or-false (eqb a 2)
    by false true z w = refl
    by false false true w = refl
    by false false false true = refl
    by false false false false = refl

pub answer-read : (b m : List ℕ) (k : ℕ) {x y a : ℕ} → x ≡ num_at b 32 4 → y ≡ num_at m 1 3 → a ≡ get_or m 0 0
    → ((eqb k 1 && eqb a 2) || (not (eqb k 1) && eqb a 7)) && eqb y ((x + 16777215) % 16777216) ≡ answers_to (kind_of k) (router_of b).next (read m)
unfolding answers_to router_of read
answer-read b m k {x} {y} {a} ex ey ea = rw (← ex, ← ey, ← ea, answered k a)

-- ---------------------------------------------------------------- a DUID of the state

module _ (b m : List ℕ) (at s n : ℕ) (d : DuidIn b at) (w : s + n ≤ length m) {x : ℕ} (ex : x ≡ num_at b at 1) where
  long : length (duid_at b at) ≡ x
  long = length_part (at + 1) (num_at b at 1) b (omega arith) ∙ sym ex

  pub duid-other : (x ≡ n → ⊥) → false ≡ same_bytes (duid_at b at) (part s n m)
  duid-other h = sym (other_length (duid_at b at) (part s n m) (λ q. h (sym long ∙ q ∙ length_part s n m w)))

  pub duid-same : {r : Bool} → x ≡ n → r ≡ same_bytes (part (at + 1) (length (take (s + n - s) (drop s m))) b) (take (s + n - s) (drop s m)) → r ≡ same_bytes (duid_at b at) (part s n m)
  unfolding part
  duid-same q e = e ∙ rw (add-sub_cancel_left, length_part s n m w, ← ex, q)

-- ---------------------------------------------------------------- the Client ID

module _ (b m : List ℕ) where
  pub client-one : {r : Bool} {p s n : ℕ} → only_of 1 m ≡ Some (spot p s n) → r ≡ same_bytes (duid_at b 41) (part s n m)
      → r ≡ stands true (read m).clients && all (same_bytes (router_of b).me.duid) (read m).clients
  unfolding read router_of
  client-one h g = rw (only_at 1 m h, and-true, ← g)

  pub client-other : only_of 1 m ≡ None → false ≡ stands true (read m).clients && all (same_bytes (router_of b).me.duid) (read m).clients
  unfolding read
  client-other h = rw (length-map, ne_eqb (count 1 (top m)) 1 (only-nothing 1 m h))

-- ---------------------------------------------------------------- the Server ID

bytes-swap : (x y : List ℕ) → same_bytes x y ≡ same_bytes y x
bytes-swap x y = same_bool (same_bytes x y) (same_bytes y x) (λ h. rw (bytes-true x y h) (bytes-refl y)) (λ h. rw (bytes-true y x h) (bytes-refl x))

-- the types that want no Server ID
unwanted : (k : ℕ) → not (wants_server (kind_of k)) ≡ eqb k 1 || eqb k 6
unfolding identity_rows
unwanted k = by (eqb k 1) (eqb k 3) refl (eqb k 5) refl (eqb k 6) refl
  where
    apart : (i : ℕ) → eqb k i ≡ true → (i ≡ 6 → ⊥) → false ≡ eqb k 6
    apart i e h = sym (ne_eqb k 6 (λ q. h (sym (eqb-true k i e) ∙ q)))

    by : (x y : Bool) → eqb k 3 ≡ y → (z : Bool) → eqb k 5 ≡ z → (w : Bool) → eqb k 6 ≡ w
        → not (wants_server (cond x Solicit (cond y Request (cond z Renew (cond w Rebind Release))))) ≡ x || eqb k 6
    by true y e z f w g = refl
    by false true e z f w g = apart 3 e (λ q. omega arith)
    by false false e true f w g = apart 5 f (λ q. omega arith)
    by false false e false f true g = sym g
    by false false e false f false g = sym g

-- a DUID that isn't empty is the known one where it is what stands in the state
known_same : (b : List ℕ) (d : Duid) → 3 ≤ length d → any (same_bytes d) (servers_of (some_if (num_at b 172 1) (duid_at b 172))) ≡ same_bytes (duid_at b 172) d
unfolding part
known_same b d h = by (eqb (num_at b 172 1) 0) refl
  where
    by : (t : Bool) → eqb (num_at b 172 1) 0 ≡ t → any (same_bytes d) (servers_of (cond t None (Some (duid_at b 172)))) ≡ same_bytes (duid_at b 172) d
    by true e =
        let z = eqb-true (num_at b 172 1) 0 e in
        let l : length (duid_at b 172) ≡ 0 = ap (λ n. length (part 173 n b)) z in
        sym (other_length (duid_at b 172) d (λ q. omega arith))
    by false e = or-false (same_bytes d (duid_at b 172)) ∙ bytes-swap d (duid_at b 172)

server-tests : (g w : Bool) {r c : Bool} → (g ≡ true → c ≡ r) → g && (w || r) ≡ true && (g && true) && (w || (c && true))
server-tests true w {c = c} h = rw (← h refl, and-true c)
server-tests false w h = refl

module _ (b m : List ℕ) (k : ℕ) where
  pub server-one : {r : Bool} {p s n : ℕ} → s + n ≤ length m → only_of 2 m ≡ Some (spot p s n) → r ≡ same_bytes (duid_at b 172) (part s n m)
      → leb 3 n && leb n 130 && (eqb k 1 || eqb k 6 || r) ≡ from_server (kind_of k) (router_of b).server (read m).servers
  unfolding read router_of
  server-one {r} {s = s} {n = n} w h g =
      let d = part s n m in
      let l = length_part s n m w in
      ap (λ j. leb 3 j && leb j 130 && (eqb k 1 || eqb k 6 || r)) (sym l)
      ∙ rw (only_at 2 m h, g, ← unwanted k)
      (server-tests (good_duid d) (not (wants_server (kind_of k))) (λ q. known_same b d (leb-true 3 (length d) (both (leb 3 (length d)) (leb (length d) 130) q).0)))

  pub server-other : only_of 2 m ≡ None → false ≡ from_server (kind_of k) (router_of b).server (read m).servers
  unfolding read
  server-other h = rw (length-map, ne_eqb (count 2 (top m)) 1 (only-nothing 2 m h))

-- ---------------------------------------------------------------- the IA_PD

pub pd-read : (b m : List ℕ) (o : Spot) {i x y z : ℕ} → i ≡ num_at b 37 4 → x ≡ num_at m o.start 4 → y ≡ num_at m (o.start + 4) 4 → z ≡ num_at m (o.start + 8) 4
    → eqb x i && not (ltb z y && ltb 0 z) ≡ good_ia (router_of b).me.iaid (ia_at m (Some o))
unfolding router_of ia_at
pd-read b m o ei ex ey ez = rw (← ei, ← ex, ← ey, ← ez)

-- ---------------------------------------------------------------- NoPrefixAvail

pub prefix-says : (m : List ℕ) (p : Spot) {r : Bool} → r ≡ any (eqb 6) (map (status_at m) (options 13 (area_of m (p.start + 25) (p.start + p.len)))) → r ≡ says6 (listed_at m (Some p)).statuses
unfolding listed_at
prefix-says m p e = e

module _ (m : List ℕ) (o : Spot) where
  abbrev pub inner : Area
  inner = area_of m (o.start + 12) (o.start + o.len)

  pub listed-says : any (λ f. says6 (listed_at m f).statuses) (options 26 inner) ≡ any (λ x. says6 x.statuses) (ia_at m (Some o)).listed
  unfolding ia_at
  listed-says = sym (any-map (λ x. says6 x.statuses) (listed_at m) (options 26 inner))

  pub says-read : {x y z : Bool} → x ≡ any (eqb 6) (map (status_at m) (options 13 (area_of m 4 (length m)))) → y ≡ any (eqb 6) (map (status_at m) (options 13 inner))
      → z ≡ any (λ x. says6 x.statuses) (ia_at m (Some o)).listed → x || (y || z) ≡ says6 (read m).statuses || pd_says6 (ia_at m (Some o))
  unfolding read top ia_at pd_says6
  says-read ex ey ez = rw (ex, ey, ez)

-- ---------------------------------------------------------------- the IA_PD and the offer together

offer-type : (d : Kind) (v : Message) → may_offer d v ≡ not (eqb (type_of d) 1) || not (no_prefix v)
offer-type Solicit v = refl
offer-type Request v = refl
offer-type Renew v = refl
offer-type Rebind v = refl
offer-type Release v = refl

module _ (b m : List ℕ) (k : ℕ) where
  abbrev offered : Bool
  offered = good_ias (kind_of k) (router_of b).me.iaid (read m).ias && may_offer (kind_of k) (read m)

  pub offer-release : k ≡ 8 → true ≡ offered
  offer-release e = rw e

  module _ (sv : served k ≡ true) (o : k ≡ 8 → ⊥) where
    kept : is_release (kind_of k) ≡ false
    kept = release-type (kind_of k) ∙ ap (λ n. eqb n 8) (sym (served-type k sv)) ∙ ne_eqb k 8 o

    offers : (v : Message) → may_offer (kind_of k) v ≡ not (eqb k 1) || not (no_prefix v)
    offers v = offer-type (kind_of k) v ∙ ap (λ n. not (eqb n 1) || not (no_prefix v)) (sym (served-type k sv))

    pub offer-one : (o : Spot) {g x : Bool} → only_of 25 m ≡ Some o → g ≡ good_ia (router_of b).me.iaid (ia_at m (Some o))
        → x ≡ says6 (read m).statuses || pd_says6 (ia_at m (Some o)) → g && (not (eqb k 1) || not x) ≡ offered
    unfolding read pd_says6
    offer-one o h eg ex = rw (kept, offers (read m), only_at 25 m h, eg, ex, and-true, or-false (pd_says6 (ia_at m (Some o))))

    pub offer-other : only_of 25 m ≡ None → false ≡ offered
    unfolding read
    offer-other h = rw (kept, length-map, ne_eqb (count 25 (top m)) 1 (only-nothing 25 m h))

-- ---------------------------------------------------------------- the whole

tests_order : (a c d e f g h i : Bool) → a ≡ true → c && d && (e && f) && g && (h && i) ≡ a && c && d && e && f && g && h && i
tests_order a c d e f g h i q = rw q (simp and_assoc)

module _ (b m : List ℕ) {k : ℕ} (ek : k ≡ num_at b 346 1) {x : Bool} (ex : x ≡ not (wrong_size m) && well_formed m) where
  abbrev wanted : Bool
  wanted = awaited (router_of b) m (read m) (router_of b).exchange

  pub passed : eqb k 0 || not x ≡ false → (k ≡ 0 → ⊥) × (4 ≤ length m) × (well_formed m ≡ true)
  passed h =
      let n = neither (eqb k 0) (not x) h in
      let f = both (not (wrong_size m)) (well_formed m) (sym ex ∙ not-false x n.1) in
      (eqb-false k 0 n.0, ltb-false (length m) 4 (neither (ltb (length m) 4) (ltb 1232 (length m)) (not-true _ f.0)).0, f.1)

  pub not-awaited : eqb k 0 || not x ≡ true → false ≡ wanted
  unfolding awaited
  not-awaited h = by (eqb k 0) h ∙ sym (ap (awaited (router_of b) m (read m)) (exchange-is b ek))
    where
      by : (t : Bool) → t || not x ≡ true → false ≡ awaited (router_of b) m (read m) (cond t None (Some (open_as b k)))
      by true h = refl
      by false h = rw (← ex, not-true x h)

  pub is-awaited : {p q u w : Bool} → eqb k 0 || not x ≡ false → p ≡ answers_to (kind_of k) (router_of b).next (read m)
      → q ≡ stands true (read m).clients && all (same_bytes (router_of b).me.duid) (read m).clients
      → u ≡ from_server (kind_of k) (router_of b).server (read m).servers
      → w ≡ good_ias (kind_of k) (router_of b).me.iaid (read m).ias && may_offer (kind_of k) (read m)
      → p && q && u && w ≡ wanted
  unfolding awaited answers_to
  is-awaited h ep eq eu ew =
      let v = read m in
      let r = router_of b in
      let n = neither (eqb k 0) (not x) h in
      let o : (router_of b).exchange ≡ Some (open_as b k) = exchange-is b ek ∙ rw n.0 in
      rw (ep, eq, eu, ew)
      (tests_order (not (wrong_size m) && well_formed m) (eqb v.kind (answer_type (kind_of k))) (eqb v.number (number_before r.next))
      (stands true v.clients) (all (same_bytes r.me.duid) v.clients) (from_server (kind_of k) r.server v.servers)
      (good_ias (kind_of k) r.me.iaid v.ias) (may_offer (kind_of k) v) (sym ex ∙ not-false x n.1))
      ∙ sym (ap (awaited r m v) o)
