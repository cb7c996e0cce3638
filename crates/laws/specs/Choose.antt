-- Laws of the choice: what it gives is free, aligned, in the pool and of a good length; the walk for one length gives the lowest
-- free place, and gives none only where none is free; so the choice gives none only where no /60 is free.
use Rattle.std.specs.Prelude.{◌≡◌, Bool, cond, List, ◌⊎◌, eqb, leb, ltb, length, Option, None, Some}
use Rattle.std.proofs.Math.Path.{refl, ap, subst}
use Rattle.std.proofs.Common.{sym, ◌∙◌, inl, inr, one-mul, mul-le-mul_right, div-lt_iff_lt-mul, pow_pos}
use Rattle.std.proofs.Math.Bool.{true, false, not}
use Rattle.std.proofs.lemmas.Option.{none-some}
use Prim.Native.Nat.{ℕ, zero, suc, ◌+◌, ◌-◌, ◌*◌, ◌/◌, ◌%◌, ◌^◌, ◌≤◌, ◌<◌}
use Rattle.std.proofs.Math.Nat.{suc-mul, add-mul, zero-mul, div-eq_of_lt-le, div-add-mod', mod-lt}
use native.Mathlib.Omega.{arith}
use borrow.Author.Tests.{eq-eqb, eqb-true, leb-true, leb-false, le-leb, ltb-false, not-true}
use Rattle.rules.specs.Words.{all, first}
use Rattle.rules.specs.Prefix.{Prefix, prefix, size, zero_after, overlap, inside, last_of, next_place}
use Rattle.rules.specs.Settings.{Settings}
use Rattle.rules.specs.Table.{Record, area}
use Rattle.rules.specs.Choose.{wanted, hits, free, is_place, within, walk_from, lowest, or_longer, shortest_from, otherwise, unless_full, choose}
use Rattle.laws.specs.Tests.{both, both-made, false-true, lt-or-ge}
use Rattle.laws.specs.Loops.{first-none, first-all, all-sub}
use Rattle.laws.specs.Prefix.{size-split, whole, finer, overlap-wider, inside-longer, next-zero, past-above, past}

-- ---------------------------------------------------------------- places in the pool

-- a place is in the pool exactly where it is among its addresses
module _ (pool : Prefix) (x a : ℕ) (zp : zero_after pool ≡ true) (le : pool.length ≤ a) where
  abbrev s : ℕ
  s = size pool.length

  start : pool.bits / s * s ≡ pool.bits
  start = whole pool.bits s (eqb-true (pool.bits % s) 0 zp)

  pub in-pool→ : inside (prefix x a) pool ≡ true → (pool.bits ≤ x) × (x < pool.bits + s)
  unfolding inside
  in-pool→ e =
      let b = both (leb pool.length a) (eqb (x / s) (pool.bits / s)) e in
      let q : x / s ≡ pool.bits / s = eqb-true (x / s) (pool.bits / s) b.1 in
      let m : x / s * s ≡ pool.bits / s * s = ap (λ (k : ℕ). k * s) q in
      let w = start in
      let d = div-add-mod' x s in
      let l = mod-lt x (pow_pos (128 - pool.length)) in
      (omega arith, omega arith)

  pub in-pool← : pool.bits ≤ x → x < pool.bits + s → inside (prefix x a) pool ≡ true
  unfolding inside
  in-pool← h g =
      let w = start in
      let m : (pool.bits / s + 1) * s ≡ pool.bits / s * s + s = add-mul (pool.bits / s) 1 s ∙ ap (λ (k : ℕ). pool.bits / s * s + k) (one-mul s) in
      let lo : pool.bits / s * s ≤ x = omega arith in
      let hi : x < (pool.bits / s + 1) * s = omega arith in
      both-made (le-leb pool.length a le) (eq-eqb (x / s) (pool.bits / s) (div-eq_of_lt-le s lo hi))

-- two aligned places are a size apart
pub apart : (x y a : ℕ) → zero_after (prefix x a) ≡ true → zero_after (prefix y a) ≡ true → x < y → x + size a ≤ y
apart x y a zx zy h =
    let t = size a in
    let u : x / t * t ≡ x = whole x t (eqb-true (x % t) 0 zx) in
    let v : y / t * t ≡ y = whole y t (eqb-true (y % t) 0 zy) in
    let g : x < y / t * t = omega arith in
    let c : x / t < y / t = (div-lt_iff_lt-mul (pow_pos (128 - a))).1 g in
    let c' : x / t + 1 ≤ y / t = omega arith in
    let r : (x / t + 1) * t ≤ y / t * t = mul-le-mul_right t c' in
    let m : (x / t + 1) * t ≡ x / t * t + t = add-mul (x / t) 1 t ∙ ap (λ (k : ℕ). x / t * t + k) (one-mul t) in
    omega arith

-- ---------------------------------------------------------------- free

pub free-none : (rs : List Record) (p : Prefix) → first (hits p) rs ≡ None → free rs p ≡ true
unfolding free
free-none rs p e = first-none (hits p) rs e

pub free_all : (rs : List Record) (p : Prefix) → free rs p ≡ true → all (λ r. not (hits p r)) rs ≡ true
unfolding free
free_all rs p f = f

-- the records' areas have zero bits after their lengths
abbrev pub Aligned : List Record → Type 0
Aligned rs = all (λ r. zero_after (area r)) rs ≡ true

-- ---------------------------------------------------------------- the walk for one length

-- a place that the walk may give
pub record Place (s : Settings) (rs : List Record) (a x : ℕ) : Type 0 where
  pub aligned : zero_after (prefix x a) ≡ true
  pub in-pool : inside (prefix x a) s.pool ≡ true
  pub is_free : free rs (prefix x a) ≡ true

module _ (s : Settings) (rs : List Record) (a : ℕ) where
  pub walk-place : (k x : ℕ) {y : ℕ} → zero_after (prefix x a) ≡ true → walk_from k s rs a x ≡ Some y → Place s rs a y
  unfolding walk_from
  walk-place zero x {y} z e = absurd (none-some y e)
  walk-place (suc k) x {y} z e = by (inside (prefix x a) s.pool) refl (first (hits (prefix x a)) rs) refl e (λ w v d. walk-place k w v d)
    where
      by : (b : Bool) → inside (prefix x a) s.pool ≡ b → (f : Option Record) → first (hits (prefix x a)) rs ≡ f
          → within (λ w. walk_from k s rs a w) rs a x b ≡ Some y
          → ((w : ℕ) → zero_after (prefix w a) ≡ true → walk_from k s rs a w ≡ Some y → Place s rs a y) → Place s rs a y
      by false i f q e more = absurd (none-some y e)
      by true i None q e more =
          let w : Some x ≡ Some y = rw q at e in
          let v : x ≡ y = cc in
          rw (← v) (record { aligned = z; in-pool = i; is_free = free-none rs (prefix x a) q })
      by true i (Some r) q e more = more (next_place (last_of (area r)) a) (next-zero (last_of (area r)) a) (rw q at e)

  -- from a place x on nothing free is passed over: what the walk gives is no higher than a free place y, and it gives something
  -- where y is among the next k places
  module _ (zp : zero_after s.pool ≡ true) (le : s.pool.length ≤ a) (al : Aligned rs) (y : ℕ) (p : Place s rs a y) where
    pub walk-below : (k x : ℕ) → zero_after (prefix x a) ≡ true → s.pool.bits ≤ x → x ≤ y → y < x + k * size a
        → (z : ℕ) × (walk_from k s rs a x ≡ Some z) × (z ≤ y)
    unfolding walk_from
    walk-below zero x z lo xy h = absurd (omega (arith, zero-mul (size a)))
    walk-below (suc k) x z lo xy h = by (inside (prefix x a) s.pool) refl (first (hits (prefix x a)) rs) refl (λ w v i j l. walk-below k w v i j l)
      where
        by : (b : Bool) → inside (prefix x a) s.pool ≡ b → (f : Option Record) → first (hits (prefix x a)) rs ≡ f
            → ((w : ℕ) → zero_after (prefix w a) ≡ true → s.pool.bits ≤ w → w ≤ y → y < w + k * size a → (z : ℕ) × (walk_from k s rs a w ≡ Some z) × (z ≤ y))
            → (z : ℕ) × (within (λ w. walk_from k s rs a w) rs a x b ≡ Some z) × (z ≤ y)
        by false i f q more =
            let e = in-pool→ s.pool y a zp le p.in-pool in
            absurd (false-true (sym i ∙ in-pool← s.pool x a zp le lo (omega arith)))
        by true i None q more = rw q (x, refl, xy)
        by true i (Some r) q more =
            let w = next_place (last_of (area r)) a in
            let zw = next-zero (last_of (area r)) a in
            let hit = first-all (hits (prefix x a)) (λ r. zero_after (area r)) rs q al in
            let up : x < w = past-above (area r) x a hit.1 z hit.0 in
            let far : x + size a ≤ w = apart x w a z zw up in
            let m : suc k * size a ≡ k * size a + size a = suc-mul k (size a) in
            rw q (more w zw (omega arith) (beyond r q hit (lt-or-ge y w)) (omega arith))
          where
            beyond : (r : Record) → first (hits (prefix x a)) rs ≡ Some r → (overlap (area r) (prefix x a) ≡ true) × (zero_after (area r) ≡ true)
                → (y < next_place (last_of (area r)) a) ⊎ (next_place (last_of (area r)) a ≤ y) → next_place (last_of (area r)) a ≤ y
            beyond r q hit (inl l) =
                let o = past (area r) x a hit.1 z hit.0 y p.aligned xy l in
                let f = first-all (hits (prefix x a)) (λ r. not (hits (prefix y a) r)) rs q (free_all rs (prefix y a) p.is_free) in
                absurd (false-true (sym (not-true _ f.1) ∙ o))
            beyond r q hit (inr g) = g

-- ---------------------------------------------------------------- the lowest place of one length

module _ (s : Settings) (rs : List Record) (a : ℕ) (zp : zero_after s.pool ≡ true) (le : s.pool.length ≤ a) (a128 : a ≤ 128) where
  first-place : zero_after (prefix s.pool.bits a) ≡ true
  first-place = eq-eqb _ _ (finer s.pool.bits s.pool.length a le (eqb-true _ 0 zp))

  -- the pool has 2 ^ (a - P) places of length a
  pub places : size s.pool.length ≡ 2 ^ (a - s.pool.length) * size a
  places =
      let e : (128 - s.pool.length) - (128 - a) ≡ a - s.pool.length = omega arith in
      size-split s.pool.length a le ∙ ap (λ (k : ℕ). 2 ^ k * size a) e

  pub lowest-place : {x : ℕ} → lowest s rs a ≡ Some x → Place s rs a x
  unfolding lowest
  lowest-place e = walk-place s rs a (2 ^ (a - s.pool.length)) s.pool.bits first-place e

  -- a free place has the lowest one at or below it
  pub lowest-below : Aligned rs → (y : ℕ) → Place s rs a y → (z : ℕ) × (lowest s rs a ≡ Some z) × (z ≤ y)
  unfolding lowest
  lowest-below al y p =
      let e = in-pool→ s.pool y a zp le p.in-pool in
      let q = places in
      walk-below s rs a zp le al y p (2 ^ (a - s.pool.length)) s.pool.bits first-place (omega arith) e.0 (omega arith)

  pub lowest-none : Aligned rs → lowest s rs a ≡ None → (y : ℕ) → Place s rs a y → ⊥
  lowest-none al e y p = let w = lowest-below al y p in none-some _ (sym e ∙ w.1)

-- ---------------------------------------------------------------- the choice

-- nothing is chosen where the table is full
pub choose-room : (s : Settings) (rs : List Record) (hint : Option Prefix) {p : Prefix} → choose s rs hint ≡ Some p → length rs < 256
unfolding choose
choose-room s rs hint {p} e = by (leb 256 (length rs)) refl e
  where
    by : (b : Bool) → leb 256 (length rs) ≡ b → unless_full s rs hint b ≡ Some p → length rs < 256
    by true q e = absurd (none-some p e)
    by false q e = leb-false 256 (length rs) q

-- what a choice may be
pub record Chosen (s : Settings) (rs : List Record) (p : Prefix) : Type 0 where
  pub least : s.shortest ≤ p.length
  pub most : p.length ≤ 60
  pub place : Place s rs p.length p.bits

-- what the choice asks of the settings
pub record Lengths (s : Settings) : Type 0 where
  pub aligned : zero_after s.pool ≡ true
  pub pool-shortest : s.pool.length ≤ s.shortest
  pub shortest-standard : s.shortest ≤ s.standard
  pub standard-60 : s.standard ≤ 60

pub wanted-least : (s : Settings) → Lengths s → (hint : Option Prefix) → (s.shortest ≤ wanted s hint) × (wanted s hint ≤ 60)
unfolding wanted
wanted-least s g None = (g.shortest-standard, g.standard-60)
wanted-least s g (Some p) = by (eqb p.length 0) (ltb p.length s.shortest) refl (ltb 60 p.length) refl
  where
    by : (a b : Bool) → ltb p.length s.shortest ≡ b → (c : Bool) → ltb 60 p.length ≡ c
        → (s.shortest ≤ cond a s.standard (cond b s.shortest (cond c 60 p.length))) × (cond a s.standard (cond b s.shortest (cond c 60 p.length)) ≤ 60)
    by true b h c k = (g.shortest-standard, g.standard-60)
    by false true h c k = omega (arith, g.shortest-standard, g.standard-60)
    by false false h true k = omega (arith, g.shortest-standard, g.standard-60)
    by false false h false k = omega (arith, ltb-false p.length s.shortest h, ltb-false 60 p.length k)

module _ (s : Settings) (rs : List Record) (g : Lengths s) where
  pub shortest-chosen : (k a : ℕ) {p : Prefix} → s.shortest ≤ a → a + k ≤ 61 → shortest_from k s rs a ≡ Some p → Chosen s rs p
  unfolding shortest_from
  shortest-chosen zero a {p} h l e = absurd (none-some p e)
  shortest-chosen (suc k) a {p} h l e = by (lowest s rs a) refl e (λ d. shortest-chosen k (a + 1) (omega arith) (omega arith) d)
    where
      by : (f : Option ℕ) → lowest s rs a ≡ f → or_longer (λ b. shortest_from k s rs b) a f ≡ Some p
          → (shortest_from k s rs (a + 1) ≡ Some p → Chosen s rs p) → Chosen s rs p
      by None q e more = more e
      by (Some x) q e more =
          let w : prefix x a ≡ p = cc in
          subst (Chosen s rs) w (record { least = h; most = omega arith; place = lowest-place s rs a g.aligned (omega (arith, g.pool-shortest)) (omega arith) q })

  pub shortest-none : (k a b : ℕ) → a ≤ b → b < a + k → shortest_from k s rs a ≡ None → lowest s rs b ≡ None
  unfolding shortest_from
  shortest-none zero a b h l e = absurd (omega arith)
  shortest-none (suc k) a b h l e = by (lowest s rs a) refl e (lt-or-ge a b) (λ m d. shortest-none k (a + 1) b m (omega arith) d)
    where
      by : (f : Option ℕ) → lowest s rs a ≡ f → or_longer (λ c. shortest_from k s rs c) a f ≡ None → (a < b) ⊎ (b ≤ a)
          → (a + 1 ≤ b → shortest_from k s rs (a + 1) ≡ None → lowest s rs b ≡ None) → lowest s rs b ≡ None
      by None q e (inl m) more = more (omega arith) e
      by None q e (inr m) more = let w : b ≡ a = omega arith in rw w q
      by (Some x) q e m more = absurd (none-some _ (sym e))

  place-chosen : (p : Prefix) → is_place s rs (Some p) ≡ true → Chosen s rs p
  unfolding is_place
  place-chosen p e =
      let a = both _ (free rs p) e in
      let b = both _ (inside p s.pool) a.0 in
      let c = both _ (zero_after p) b.0 in
      let d = both _ (leb p.length 60) c.0 in
      let f = both (not (eqb p.bits 0)) (leb s.shortest p.length) d.0 in
      record { least = leb-true _ _ f.1; most = leb-true _ _ d.1; place = record { aligned = c.1; in-pool = b.1; is_free = a.1 } }

  pub choose-chosen : (hint : Option Prefix) {p : Prefix} → choose s rs hint ≡ Some p → Chosen s rs p
  unfolding choose
  choose-chosen hint {p} e = full (leb 256 (length rs)) e
    where
      walked : (b : Bool) (h : Option Prefix) → is_place s rs h ≡ b → otherwise s rs h b ≡ Some p → Chosen s rs p
      walked true None q e = absurd (none-some p e)
      walked true (Some x) q e = let w : x ≡ p = cc in rw (← w) (place-chosen x q)
      walked false h q e =
          let w = wanted-least s g h in
          shortest-chosen (61 - wanted s h) (wanted s h) w.0 (omega arith) e

      full : (b : Bool) → unless_full s rs hint b ≡ Some p → Chosen s rs p
      full true e = absurd (none-some p e)
      full false e = walked (is_place s rs hint) hint refl e

  -- a place of a shorter length has one of length 60 at its beginning
  chosen-60 : (p : Prefix) → Chosen s rs p → Place s rs 60 p.bits
  unfolding free
  chosen-60 p c = record {
    aligned = eq-eqb _ _ (finer p.bits p.length 60 c.most (eqb-true _ 0 c.place.aligned));
    in-pool = inside-longer p s.pool 60 c.most c.place.in-pool;
    is_free = all-sub (λ r. not (hits p r)) (λ r. not (hits (prefix p.bits 60) r)) narrower rs c.place.is_free;
  }
    where
      narrower : (r : Record) → not (overlap (area r) p) ≡ true → not (overlap (area r) (prefix p.bits 60)) ≡ true
      narrower r n = by (overlap (area r) (prefix p.bits 60)) refl
        where
          by : (b : Bool) → overlap (area r) (prefix p.bits 60) ≡ b → not b ≡ true
          by true q = absurd (false-true (sym (not-true _ n) ∙ overlap-wider (area r) p 60 c.most q))
          by false q = refl

  -- nothing is chosen exactly where no /60 is free or the table is full
  pub choose-none : (hint : Option Prefix) → Aligned rs → choose s rs hint ≡ None → ((y : ℕ) → Place s rs 60 y → ⊥) ⊎ (256 ≤ length rs)
  unfolding choose is_place
  choose-none hint al e = full (leb 256 (length rs)) refl e
    where
      walked : (b : Bool) (h : Option Prefix) → is_place s rs h ≡ b → otherwise s rs h b ≡ None → (y : ℕ) → Place s rs 60 y → ⊥
      walked true None q e y p = false-true q
      walked true (Some x) q e y p = none-some x (sym e)
      walked false h q e y p =
          let w = wanted-least s g h in
          lowest-none s rs 60 g.aligned (omega (arith, g.pool-shortest, g.shortest-standard, g.standard-60)) (omega arith) al
          (shortest-none (61 - wanted s h) (wanted s h) 60 w.1 (omega arith) e) y p

      full : (b : Bool) → leb 256 (length rs) ≡ b → unless_full s rs hint b ≡ None → ((y : ℕ) → Place s rs 60 y → ⊥) ⊎ (256 ≤ length rs)
      full true q e = inr (leb-true _ _ q)
      full false q e = inl (walked (is_place s rs hint) hint refl e)

  pub none-chosen : (hint : Option Prefix) → ((y : ℕ) → Place s rs 60 y → ⊥) ⊎ (256 ≤ length rs) → choose s rs hint ≡ None
  unfolding choose
  none-chosen hint (inl h) = by (choose s rs hint) refl
    where
      by : (c : Option Prefix) → choose s rs hint ≡ c → choose s rs hint ≡ None
      by None q = q
      by (Some p) q = absurd (h p.bits (chosen-60 p (choose-chosen hint q)))
  none-chosen hint (inr h) = rw (le-leb 256 (length rs) h)
