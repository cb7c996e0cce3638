-- The walk's turns and the choice's tests, over what code has.
use Rattle.std.proofs.Common.{◌≡◌, refl, sym, ap, ◌∙◌, subst, Bool, true, false, List, ℕ, ◌+◌, ◌-◌, ◌*◌, ◌/◌, ◌%◌, ◌^◌, ◌≤◌, ◌<◌, leb, length, Option, None, Some, is_some, not, arith, pow_mono}
use borrow.Author.Tests.{leb-true}
use Rattle.rules.specs.Words.{first, from}
use Rattle.rules.specs.Prefix.{Prefix, prefix, size, zero_after}
use Rattle.rules.specs.Settings.{Settings}
use Rattle.rules.specs.Table.{Record, area}
use Rattle.rules.specs.TableBytes.{record_at}
use Rattle.rules.specs.Choose.{wanted, wanted_for, hits, free, is_place, lowest, shortest_from, choose}
use Rattle.laws.specs.Loops.{from-length, first_place, at, first-place, place-passes, all-at}
use Rattle.laws.specs.Prefix.{half-front}
use Rattle.laws.specs.Choose.{Lengths, wanted-least}
use Rattle.laws.specs.Choosing.{free-nothing, free-at, same-shortest, same_place, hint-place, choose-full, choose-unasked, choose-asked, choose-other}
use Rattle.laws.specs.Places.{last_place, Walking, walk_start, walk-free, walk_up, walk-on, walk-full, half_place}
use Rattle.prefix.specs.Upper.{upper}
use Rattle.choose.specs.Choice.{chooser, settings_by, hint_of, Walkable}
use Rattle.choose.specs.declared.chooser.Chooser.{Chooser}
use Rattle.choose.specs.declared.hint.Hint.{Hint}

-- the number of a place of at most 60 bits has a next one
pub next_fits : (k a : ℕ) → k < 2 ^ a → a ≤ 60 → k + 1 < 2 ^ 64
next_fits k a h l = let m : 2 ^ a ≤ 2 ^ 60 = pow_mono l in omega arith

abbrev recs : List ℕ → ℕ → List Record
recs l n = from (record_at l) 0 n

-- free by whether one overlaps
pub free-is : (l : List ℕ) (n : ℕ) (p : Prefix) (r : Option ℕ) (b : Bool) → r ≡ first_place (hits p) (recs l n) 0 → is_some r ≡ not b → b ≡ free (recs l n) p
free-is l n p None true e q = sym (free-nothing (record_at l) n p (sym e))
free-is l n p None false e q = cc
free-is l n p (Some i) true e q = cc
free-is l n p (Some i) false e q = sym (free-at (record_at l) n p (sym e))

-- ---------------------------------------------------------------- the walk

module _ {l : List ℕ} {n pool width a : ℕ} (w : Walkable l n pool width × (width ≤ a) × (a ≤ 60)) where
  abbrev bare : Settings
  bare = chooser pool width 0 0

  pub start : Walking bare (recs l n) a (pool / 2 ^ (64 - a))
  start = subst (Walking bare (recs l n) a) (half-front pool a (omega arith)) (walk_start bare (recs l n) a w.0.zeros w.1 (omega arith))

  module _ {last k x : ℕ} (e : (last ≡ last_place (upper pool width) a) × (last < 2 ^ a)) (g : Walking bare (recs l n) a k) (ex : x ≡ k * 2 ^ (64 - a) % 2 ^ 64)
      (r : Option ℕ) (er : r ≡ first_place (hits (upper x a)) (recs l n) 0) where
    place-x : x * 2 ^ 64 ≡ k * size a
    place-x = ap (λ (y : ℕ). y * 2 ^ 64) ex ∙ half_place k a (omega arith) (omega (arith, g.high))

    tried : first (hits (prefix (k * size a) a)) (recs l n) ≡ at (record_at l) r
    tried = ap (λ (y : ℕ). first (hits (prefix y a)) (recs l n)) (sym place-x) ∙ first-place (record_at l) (hits (upper x a)) n 0 ∙ ap (at (record_at l)) (sym er)

    pub untaken : r ≡ None → Some (x * 2 ^ 64) ≡ lowest bare (recs l n) a
    untaken q = ap Some place-x ∙ sym (walk-free bare (recs l n) a w.0.zeros w.1 k g (tried ∙ ap (at (record_at l)) q))

    module _ {i : ℕ} (q : r ≡ Some i) where
      passed : (0 ≤ i) × (i < 0 + n) × (hits (upper x a) (record_at l i) ≡ true)
      passed = place-passes (record_at l) (hits (upper x a)) n 0 i (sym er ∙ q)

      pub taken : (i < n) × (zero_after (area (record_at l i)) ≡ true) × ((area (record_at l i)).length ≤ 60)
      taken =
          let p = passed in (
            omega arith,
            all-at (record_at l) (λ r. zero_after (area r)) n 0 i p.0 p.1 w.0.aligned,
            leb-true _ _ (all-at (record_at l) (λ r. leb (area r).length 60) n 0 i p.0 p.1 w.0.short),
          )

      hit : first (hits (prefix (k * size a) a)) (recs l n) ≡ Some (record_at l i)
      hit = tried ∙ ap (at (record_at l)) q

      module _ {k' : ℕ} (ek : k' ≡ last_place (area (record_at l i)) a + 1) where
        pub full : last < k' → None ≡ lowest bare (recs l n) a
        full h = sym (walk-full bare (recs l n) a w.0.zeros w.1 k g w.0.aligned (record_at l i) hit (omega (arith, e.0)))

        pub on : k' ≤ last → Walking bare (recs l n) a k'
        on h = rw ek (walk-on bare (recs l n) a w.0.zeros w.1 k g w.0.aligned (record_at l i) hit (omega (arith, e.0)))

        pub less : k' ≤ last → last - k' < last - k
        less h = omega (arith, walk_up bare (recs l n) a w.0.zeros w.1 k g w.0.aligned (record_at l i) hit)

-- ---------------------------------------------------------------- the choice

module _ (c : Chooser) where
  abbrev set : Settings
  set = settings_by c

  abbrev mine : List Record
  mine = recs c.t.now c.n

  -- what the walk asks, and what the functions of numbers give
  pub walks : Walkable c.t.now c.n c.pool.upper c.pool.length
  walks = record { few = c.few; room = c.room; some = c.some; zeros = c.zeros; aligned = c.aligned; short = c.short }

  pub by-walk : {o : Option Prefix} (m k : ℕ) → o ≡ shortest_from m (chooser c.pool.upper c.pool.length 0 0) mine k → o ≡ shortest_from m set mine k
  by-walk m k e = e ∙ same-shortest (chooser c.pool.upper c.pool.length 0 0) set mine refl m k

  pub by-place : {b : Bool} (h : Option Prefix) → b ≡ is_place (chooser c.pool.upper c.pool.length c.shortest 0) mine h → b ≡ is_place set mine h
  by-place h e = e ∙ same_place (chooser c.pool.upper c.pool.length c.shortest 0) set mine refl refl h

  -- the length that is looked for first is no shorter than the pool's
  pub wide_enough : (n : ℕ) {w : ℕ} → w ≡ wanted_for set n → c.pool.length ≤ w
  unfolding wanted
  wide_enough n e =
      let g : Lengths set = record { aligned = c.zeros; pool-shortest = c.pool_shortest; shortest-standard = c.shortest_standard; standard-60 = c.standard_60 } in
      let h = wanted-least set g (Some (prefix 0 n)) in
      rw e (omega (arith, h.0))

  pub none_left : (h : Option Prefix) → 256 ≤ c.n → None ≡ choose set mine h
  none_left h e = sym (choose-full set mine h (rw (from-length (record_at c.t.now) c.n 0) e))

  module _ (few : c.n < 256) where
    room : length mine < 256
    room = rw (from-length (record_at c.t.now) c.n 0) few

    pub unasked : {o : Option Prefix} → o ≡ shortest_from (61 - c.standard) set mine c.standard → o ≡ choose set mine None
    unasked e = e ∙ sym (choose-unasked set mine room)

    module _ (h : Hint) {b : Bool} (eb : b ≡ is_place set mine (Some (hint_of h))) where
      pub asked : h.low < 2 ^ 64 → b ≡ true → Some (upper h.high h.length) ≡ choose set mine (Some (hint_of h))
      asked f t =
          let p = sym eb ∙ t in
          sym (choose-asked set mine room (hint_of h) p ∙ ap Some (hint-place set mine h.high h.low h.length f p))

      pub other : {o : Option Prefix} {w : ℕ} → b ≡ false → w ≡ wanted_for set h.length → o ≡ shortest_from (61 - w) set mine w → o ≡ choose set mine (Some (hint_of h))
      other {w = w} t ew e = e ∙ ap (λ (k : ℕ). shortest_from (61 - k) set mine k) ew ∙ sym (choose-other set mine room (hint_of h) (sym eb ∙ t))
