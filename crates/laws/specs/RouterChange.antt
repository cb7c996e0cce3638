-- What code writes into a router's state is the state that the rules name: for each change, its writes one after another.
--   fresh, start-fresh      a fresh router; what a start that isn't refused leaves
--   server_given, hold_given  the server to remember, or the known one where none is given; a new hold
--   onto, ..-written        writes, one after another
--   begin-.., again-.., close-made, accept-.., start-made, hold-..   the writes of each change, by the way that code takes
use Rattle.std.specs.Prelude.{◌≡◌, Bool, cond, ◌||◌, List, [], ◌∷◌, ◌++◌, map, ℕ, ◌+◌, ◌%◌, ◌≤◌, ◌<◌, ◌^◌, length, take, drop, set, replicate, Option, None, Some}
use Rattle.std.proofs.Math.Path.{refl, sym, ap}
use Rattle.std.proofs.Common.{◌∙◌, subst, arith, take-take}
use Rattle.std.proofs.Math.Bool.{true, false, or_assoc}
use Rattle.std.proofs.lemmas.Bool.{false≢true}
use Rattle.std.proofs.Math.Dec.{eqb, leb}
use Rattle.std.proofs.Math.Seq.{take_at}
use borrow.Author.Tests.{ne_eqb, leb-true, leb-false, lt-ltb, le-ltb}
use Rattle.rules.specs.Words.{part, splice, filled, num, be, num_at}
use Rattle.rules.specs.Refusals.{done, unless}
use Rattle.rules.specs.Prefix.{prefix, lease}
use Rattle.rules.specs.Clock.{Moment}
use Rattle.rules.specs.Identity.{Duid, Identity, identity, kind_of, type_of, is_release}
use Rattle.rules.specs.Box.{start_tests}
use Rattle.rules.specs.Router.{Hold, Exchange, Router, good_asker, number_after, holds, carries, is_open, exchange_for, begun, again, closed, router_start, open_of}
use Rattle.rules.specs.RouterBytes.{lease_bytes, hold_bytes, duid_bytes, held_bytes, sent_bytes, exchange_bytes, router_bytes, some_if, lease_of, hold_of, router_of, sound_router_bytes}
use Rattle.rules.specs.declared.Kind.{Kind}
use Rattle.rules.specs.declared.Kind.TheVariants.{Solicit, Request, Renew, Rebind, Release}
use Rattle.laws.specs.Tests.{neither}
use Rattle.laws.specs.Parts.{splice-splice, splice_all}
use Rattle.laws.specs.Numbers.{length-be, be-num}
use Rattle.laws.specs.Bits.{Sixteen}
use Rattle.laws.specs.Flat.{be-one}
use Rattle.laws.specs.Fields.{Fields, field_put, field_at}
use Rattle.laws.specs.RouterFields.{lease-size, hold-size, duid-size, held-size, exchange-size, router_fields, router_sizes}
use Rattle.laws.specs.RouterFlat.{num-part}
use Rattle.laws.specs.RouterRepresent.{type-byte, inner-byte, inner-rest, lent-fields, fields-router}

-- ---------------------------------------------------------------- what the changes leave

-- "A fresh or restarted router holds nothing and knows no server."
abbrev pub fresh : Identity → ℕ → Moment → Router
fresh i n now = record {
  me = i;
  wanted = n;
  started = now;
  began = now;
  freed = now;
  last = now;
  next = 0;
  server = None;
  held = None;
  exchange = None;
}

pub start-fresh : (i : Identity) (n : ℕ) (now : Moment) → router_start i n now ≡ unless (start_tests (good_asker i n) now) (done (fresh i n now))
unfolding router_start
start-fresh i n now = refl

-- the server that is given, or where its DUID is empty the one that is known
abbrev pub server_given : Option Duid → Duid → Option Duid
server_given s d = cond (eqb (length d) 0) s (Some d)

-- a prefix p of length a, without e of length b where that isn't 0, until `end`
abbrev pub hold_given : ℕ → ℕ → ℕ → ℕ → Moment → Hold
hold_given p a e b end = record { lease = lease (prefix p a) (some_if b (prefix e b)); end = end }

-- ---------------------------------------------------------------- writes, one after another

pub onto : (j : ℕ) (y : List ℕ) {c d e : List ℕ} → c ≡ e → d ≡ splice j y c → d ≡ splice j y e
onto j y p q = q ∙ ap (splice j y) p

-- a byte, and what follows it
pub byte-written : (t s : List ℕ) (at k : ℕ) {c d : List ℕ} → k < 256 → at ≤ length t → c ≡ splice at (be 1 k) t → d ≡ splice (at + 1) s c → d ≡ splice at (k ∷ s) t
byte-written t s at k lt h p q =
    onto (at + 1) s (p ∙ ap (λ l. splice at l t) (be-one k lt)) q ∙ splice-splice at (at + 1) (k ∷ []) s t refl h

-- a DUID behind its length, with zeros after it
pub duid-written : (t d : List ℕ) (at : ℕ) {b c : List ℕ} → at ≤ length t → b ≡ splice at (be 1 (length d)) t → c ≡ splice (at + 1) (filled 130 d) b → c ≡ splice at (duid_bytes d) t
duid-written t d at h p q =
    onto (at + 1) (filled 130 d) p q ∙ splice-splice at (at + 1) (be 1 (length d)) (filled 130 d) t (ap (λ n. at + n) (sym (length-be 1 (length d)))) h

-- ---------------------------------------------------------------- what is read of the state

-- the kind by its type
pub release-type : (d : Kind) → is_release d ≡ eqb (type_of d) 8
release-type Solicit = refl
release-type Request = refl
release-type Renew = refl
release-type Rebind = refl
release-type Release = refl

carries-none : (d : Kind) → carries d None ≡ None
carries-none Solicit = refl
carries-none Request = refl
carries-none Renew = refl
carries-none Rebind = refl
carries-none Release = refl

-- the open exchange by its type
pub open-type : (b : List ℕ) (o : Option Exchange) → part 346 35 b ≡ exchange_bytes o → is_open o ≡ true → (Some (open_of o) ≡ o) × (num_at b 346 1 ≡ type_of (open_of o).kind)
open-type b None q h = absurd (false≢true h)
open-type b (Some x) q h = (refl, inner-byte b 346 35 (type_of x.kind) (sent_bytes x.sent) q (omega arith) (type-byte x.kind))

module _ (b : List ℕ) (sound : sound_router_bytes b ≡ true) (time : ℕ) where
  abbrev r : Router
  r = router_of b

  abbrev fields : Fields b (router_fields (router_of b)) router_sizes
  fields = lent-fields b sound

  -- the delegation that a message of type k carries; n and t are what code reads, the flag of the hold and its end
  module _ (k : ℕ) {n t : ℕ} (en : n ≡ num_at b 303 1) (et : t ≡ num_at b 338 8) where
    abbrev carries_none : Bool
    carries_none = eqb k 1 || eqb k 3 || eqb n 0 || leb t time

    end_read : num_at (part 304 42 b) 34 8 ≡ t
    end_read = num-part b 304 42 34 8 (omega arith) ∙ sym et

    held-not : eqb n 0 || leb t time ≡ true → holds time r.held ≡ None
    unfolding router_of hold_of
    held-not h = rw (← en, end_read) (by (eqb n 0) h)
      where
        by : (z : Bool) → z || leb t time ≡ true → holds time (cond z None (Some (record { lease = lease_of (part 304 42 b); end = t }))) ≡ None
        by true h = refl
        by false h = rw (le-ltb time t (leb-true t time h))

    pub carried_none : carries_none ≡ true → replicate 34 0 ≡ sent_bytes (carries (kind_of k) (holds time r.held))
    carried_none h = by (eqb k 1) (eqb k 3) (simp or_assoc at h)
      where
        by : (x y : Bool) → x || (y || (eqb n 0 || leb t time)) ≡ true
            → replicate 34 0 ≡ sent_bytes (carries (cond x Solicit (cond y Request (cond (eqb k 5) Renew (cond (eqb k 6) Rebind Release)))) (holds time r.held))
        by true y h = refl
        by false true h = refl
        by false false h = rw (held-not h, carries-none (cond (eqb k 5) Renew (cond (eqb k 6) Rebind Release)))

    pub carried-held : carries_none ≡ false → part 304 34 b ≡ sent_bytes (carries (kind_of k) (holds time r.held))
    unfolding router_of hold_of hold_bytes part
    carried-held h =
        let x = neither (eqb k 1 || eqb k 3 || eqb n 0) (leb t time) h in
        let y = neither (eqb k 1 || eqb k 3) (eqb n 0) x.0 in
        let z = neither (eqb k 1) (eqb k 3) y.0 in
        let l = lease_of (part 304 42 b) in
        let q : part 303 43 b ≡ 1 ∷ hold_bytes (hold_of (part 304 42 b)) = field_at fields 9 (omega arith) ∙ rw (← en, y.1) in
        let e : part 304 42 b ≡ lease_bytes l ++ be 8 (num_at (part 304 42 b) 34 8) = inner-rest b 303 1 42 _ q (hold-size (hold_of (part 304 42 b))) in
        let w : part 304 34 b ≡ lease_bytes l = sym (take-take 34 42 (drop 304 b) (omega arith)) ∙ ap (take 34) e ∙ take_at (lease_bytes l) _ 34 (lease-size l) in
        rw (← en, y.1, end_read, lt-ltb time t (leb-false t time x.1), z.0, z.1) (w ∙ by (eqb k 5) (eqb k 6))
      where
        by : (f g : Bool) → lease_bytes (lease_of (part 304 42 b)) ≡ sent_bytes (carries (cond f Renew (cond g Rebind Release)) (Some (lease_of (part 304 42 b))))
        by true g = refl
        by false true = refl
        by false false = refl

  -- ---------------------------------------------------------------- a new exchange

  -- s is the delegation that it carries, n the number that it takes
  module _ (k : Kind) (n : ℕ) (s : List ℕ) (en : n ≡ num_at b 32 4) (es : s ≡ sent_bytes (carries k (holds time r.held))) where
    abbrev dated : List ℕ
    dated = splice 32 (be 4 ((n + 1) % 2 ^ 24)) (splice 16 (be 8 time) (splice 0 (be 8 time) b))

    abbrev open_fields : List (List ℕ)
    open_fields = set (set (set (set (router_fields r) 0 (be 8 time)) 2 (be 8 time)) 4 (be 4 (number_after r.next))) 10 (exchange_bytes (Some (exchange_for k r time)))

    begin-fields : {d : List ℕ} → d ≡ splice 346 (type_of k ∷ s) dated → Fields d open_fields router_sizes
    unfolding router_of
    begin-fields e =
        let x = exchange_for k r time in
        let f0 = field_put fields 0 (be 8 time) (omega arith) (length-be 8 time) refl in
        let f2 = field_put f0 2 (be 8 time) (omega arith) (length-be 8 time) refl in
        let f4 = field_put f2 4 (be 4 (number_after r.next)) (omega arith) (length-be 4 (number_after r.next)) refl in
        field_put f4 10 (exchange_bytes (Some x)) (omega arith) (exchange-size (Some x))
        (e ∙ (λ j. splice 346 (type_of k ∷ es j) (splice 32 (be 4 ((en j + 1) % 2 ^ 24)) (splice 16 (be 8 time) (splice 0 (be 8 time) b)))))

    pub begin-kept : {c d : List ℕ} → is_release k ≡ false → c ≡ dated → d ≡ splice 346 (type_of k ∷ s) c → d ≡ router_bytes (begun k r time)
    unfolding begun
    begin-kept h p q = rw h (fields-router _ (begin-fields (onto 346 (type_of k ∷ s) p q)))

    pub begin-freed : {c d e : List ℕ} → is_release k ≡ true → c ≡ dated → d ≡ splice 346 (type_of k ∷ s) c → e ≡ splice 303 (replicate 43 0) (splice 24 (be 8 time) d)
        → e ≡ router_bytes (begun k r time)
    unfolding begun
    begin-freed h p q u =
        let f3 = field_put (begin-fields (onto 346 (type_of k ∷ s) p q)) 3 (be 8 time) (omega arith) (length-be 8 time) refl in
        rw h (fields-router _ (field_put f3 9 (replicate 43 0) (omega arith) refl u))

  -- ---------------------------------------------------------------- the open exchange again, or closed

  module _ (op : is_open r.exchange ≡ true) where
    abbrev x : Exchange
    x = open_of r.exchange

    again-fields : Fields (splice 0 (be 8 time) b) (set (set (router_fields r) 0 (be 8 time)) 10 (exchange_bytes (Some x))) router_sizes
    again-fields =
        let f = field_put fields 0 (be 8 time) (omega arith) (length-be 8 time) refl in
        let e = (open-type b r.exchange (field_at fields 10 (omega arith)) op).0 in
        subst (λ o. Fields (splice 0 (be 8 time) b) (set (set (router_fields r) 0 (be 8 time)) 10 (exchange_bytes o)) router_sizes) (sym e) f

    pub again_kept : {c : List ℕ} → is_release x.kind ≡ false → c ≡ splice 0 (be 8 time) b → c ≡ router_bytes (again r time x)
    unfolding again
    again_kept h e = rw h (e ∙ fields-router _ again-fields)

    pub again-freed : {c d : List ℕ} → is_release x.kind ≡ true → c ≡ splice 0 (be 8 time) b → d ≡ splice 24 (be 8 time) c → d ≡ router_bytes (again r time x)
    unfolding again
    again-freed h p q = rw h (fields-router _ (field_put again-fields 3 (be 8 time) (omega arith) (length-be 8 time) (onto 24 (be 8 time) p q)))

  abbrev finished : List ℕ → List ℕ
  finished c = splice 346 (replicate 35 0) (splice 0 (be 8 time) c)

  pub close-made : {c : List ℕ} → c ≡ finished b → c ≡ router_bytes (closed r time r.server r.held)
  unfolding closed
  close-made e =
      let f = field_put fields 0 (be 8 time) (omega arith) (length-be 8 time) refl in
      fields-router _ (field_put f 10 (replicate 35 0) (omega arith) refl e)

  -- ---------------------------------------------------------------- an acceptance

  -- h is what is held afterwards, in its bytes
  module _ {h : List ℕ} (o : Option Hold) (eh : h ≡ held_bytes o) where
    accept-fields : {p q : List ℕ} → p ≡ splice 303 h b → q ≡ finished p → Fields q (set (set (set (router_fields r) 9 (held_bytes o)) 0 (be 8 time)) 10 (replicate 35 0)) router_sizes
    accept-fields u w =
        let f9 = field_put fields 9 (held_bytes o) (omega arith) (held-size o) (u ∙ ap (λ l. splice 303 l b) eh) in
        let f0 = field_put f9 0 (be 8 time) (omega arith) (length-be 8 time) refl in
        field_put f0 10 (replicate 35 0) (omega arith) refl w

    pub accept-kept : {p q : List ℕ} (d : Duid) → length d ≡ 0 → p ≡ splice 303 h b → q ≡ finished p → q ≡ router_bytes (closed r time (server_given r.server d) o)
    unfolding closed
    accept-kept d z u w = rw z (fields-router _ (accept-fields u w))

    pub accept-told : {p q v : List ℕ} (d : Duid) → (length d ≡ 0 → ⊥) → length d ≤ 130 → p ≡ splice 303 h b → q ≡ finished p → v ≡ splice 172 (duid_bytes d) q
        → v ≡ router_bytes (closed r time (server_given r.server d) o)
    unfolding closed
    accept-told d z m u w e = rw (ne_eqb (length d) 0 z) (fields-router _ (field_put (accept-fields u w) 8 (duid_bytes d) (omega arith) (duid-size d m) e))

-- ---------------------------------------------------------------- a start

abbrev pub stamped : ℕ → List ℕ → List ℕ
stamped time b = splice 24 (be 8 time) (splice 16 (be 8 time) (splice 8 (be 8 time) (splice 0 (be 8 time) b)))

pub start-made : (b d : List ℕ) (iaid wanted time : ℕ) {p q u v w : List ℕ} → length b ≡ 384 → length d ≤ 130 → p ≡ splice 0 (replicate 384 0) b → q ≡ stamped time p
    → u ≡ splice 36 (be 1 wanted) q → v ≡ splice 37 (be 4 iaid) u → w ≡ splice 41 (duid_bytes d) v → w ≡ router_bytes (fresh (identity d iaid) wanted time)
unfolding be
start-made b d iaid wanted time {p} l m ep eq eu ev ew =
    let z : Fields p (map (λ n. replicate n 0) router_sizes) router_sizes = record { is = ep ∙ splice_all (replicate 384 0) b (sym l); sizes = refl } in
    let f0 = field_put z 0 (be 8 time) (omega arith) (length-be 8 time) refl in
    let f1 = field_put f0 1 (be 8 time) (omega arith) (length-be 8 time) refl in
    let f2 = field_put f1 2 (be 8 time) (omega arith) (length-be 8 time) refl in
    let f3 = field_put f2 3 (be 8 time) (omega arith) (length-be 8 time) eq in
    let f5 = field_put f3 5 (be 1 wanted) (omega arith) (length-be 1 wanted) eu in
    let f6 = field_put f5 6 (be 4 iaid) (omega arith) (length-be 4 iaid) ev in
    fields-router _ (field_put f6 7 (duid_bytes d) (omega arith) (duid-size d m) ew)

-- ---------------------------------------------------------------- a hold

-- what is held stands in its bytes
pub held_bytes_lem : (b : List ℕ) → sound_router_bytes b ≡ true → part 303 43 b ≡ held_bytes (router_of b).held
held_bytes_lem b h = field_at (lent-fields b h) 9 (omega arith)

sixteen-be : (q : List ℕ) → Sixteen q → be 16 (num q) ≡ q
sixteen-be q s = ap (λ n. be n (num q)) (sym s.long) ∙ be-num q s.bytes

-- its flag, its prefix with its length, the excluded one with its length, its end
abbrev hold_sizes : List ℕ
hold_sizes = 1 ∷ 16 ∷ 1 ∷ 16 ∷ 1 ∷ 8 ∷ []

module _ (p : List ℕ) (a b end : ℕ) {c d u v : List ℕ} (s : Sixteen p)
    (ec : c ≡ splice 0 (be 1 1) (replicate 43 0)) (ed : d ≡ splice 1 p c) (eu : u ≡ splice 17 (be 1 a) d) (ev : v ≡ splice 35 (be 8 end) u) where
  hold-fields : Fields v (be 1 1 ∷ be 16 (num p) ∷ be 1 a ∷ replicate 16 0 ∷ replicate 1 0 ∷ be 8 end ∷ []) hold_sizes
  hold-fields =
      let z : Fields (replicate 43 0) (map (λ n. replicate n 0) hold_sizes) hold_sizes = record { is = refl; sizes = refl } in
      let f0 = field_put z 0 (be 1 1) (omega arith) (length-be 1 1) ec in
      let f1 = field_put f0 1 (be 16 (num p)) (omega arith) (length-be 16 (num p)) (ed ∙ ap (λ l. splice 1 l c) (sym (sixteen-be p s))) in
      let f2 = field_put f1 2 (be 1 a) (omega arith) (length-be 1 a) eu in
      field_put f2 5 (be 8 end) (omega arith) (length-be 8 end) ev

  pub hold-bare : (e : List ℕ) → b ≡ 0 → v ≡ held_bytes (Some (hold_given (num p) a (num e) b end))
  unfolding be hold_bytes lease_bytes
  hold-bare e z = rw z hold-fields.is

  pub hold-less : (e : List ℕ) {w : List ℕ} → Sixteen e → (b ≡ 0 → ⊥) → w ≡ splice 34 (be 1 b) (splice 18 e v) → w ≡ held_bytes (Some (hold_given (num p) a (num e) b end))
  unfolding be hold_bytes lease_bytes
  hold-less e t z q =
      let f3 = field_put hold-fields 3 (be 16 (num e)) (omega arith) (length-be 16 (num e)) (ap (λ l. splice 18 l v) (sym (sixteen-be e t))) in
      rw (ne_eqb b 0 z) (field_put f3 4 (be 1 b) (omega arith) (length-be 1 b) q).is
