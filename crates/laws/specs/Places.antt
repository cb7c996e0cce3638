-- The walk by the numbers of its places: place k of length a is the one from address k * size a on.
--   last_place         the last place of a length that a prefix reaches into
--   Walking           what is still to be walked from place k on gives what the whole walk gives
--   walk-...          its start; a place that is free; one that is taken, with the next one past it in the pool or not
--   half-...          the numbers of places by the upper half of the bits
use Rattle.std.specs.Prelude.{◌≡◌, refl, Bool, true, false, List, Option, None, Some}
use Rattle.std.proofs.Common.{sym, ◌∙◌, subst, one-mul, mul_assoc, div-lt_iff_lt-mul, le-div_iff_mul-le, pow-add, shr_lt, shr-shr, shl_exact, eq-eqb, eqb-true}
use Rattle.std.proofs.Math.Path.{ap}
use Prim.Native.Nat.{ℕ, zero, suc, ◌+◌, ◌-◌, ◌*◌, ◌/◌, ◌%◌, ◌^◌, ◌≤◌, ◌<◌}
use Rattle.std.proofs.Math.Nat.{add-mul, mul-le-mul_right, mul-mod_left}
use native.Mathlib.Omega.{arith}
use Rattle.std.proofs.Math.Pow.{pow_pos, high}
use Rattle.rules.specs.Words.{first}
use Rattle.rules.specs.Prefix.{Prefix, prefix, size, zero_after, inside, last_of, next_place}
use Rattle.rules.specs.Settings.{Settings}
use Rattle.rules.specs.Table.{Record, area}
use Rattle.rules.specs.Choose.{hits, tried, walk_from, lowest}
use Rattle.laws.specs.Loops.{first-all}
use Rattle.laws.specs.Prefix.{whole, finer, overlap→, half-size}
use Rattle.laws.specs.Halves.{zero-upper}
use Rattle.laws.specs.Choose.{in-pool→, in-pool←, Aligned, places}

abbrev pub last_place : Prefix → ℕ → ℕ
last_place p a = last_of p / size a

-- ---------------------------------------------------------------- the walk

pub record Walking (s : Settings) (rs : List Record) (a k : ℕ) : Type 0 where
  pub fuel : ℕ
  pub enough : last_place s.pool a < k + fuel
  pub rest : walk_from fuel s rs a (k * size a) ≡ lowest s rs a
  pub low : s.pool.bits ≤ k * size a
  pub high : k ≤ last_place s.pool a

module _ (s : Settings) (rs : List Record) (a : ℕ) (zp : zero_after s.pool ≡ true) (le : s.pool.length ≤ a) where
  pub walk_start : a ≤ 128 → Walking s rs a (s.pool.bits / size a)
  unfolding lowest
  walk_start a128 =
      let b = s.pool.bits in
      let k = b / size a in
      let n = 2 ^ (a - s.pool.length) in
      let w : k * size a ≡ b = whole b (size a) (finer b s.pool.length a le (eqb-true _ 0 zp)) in
      let q : size s.pool.length ≡ n * size a = places s rs a zp le a128 in
      let p = pow_pos (128 - s.pool.length) in
      let d : (k + n) * size a ≡ k * size a + n * size a = add-mul k n (size a) in
      let g : last_of s.pool < (k + n) * size a = omega arith in
      let f : k * size a ≤ last_of s.pool = omega arith in
      record {
        fuel = n;
        enough = (div-lt_iff_lt-mul (pow_pos (128 - a))).1 g;
        rest = ap (λ (x : ℕ). walk_from n s rs a x) w;
        low = omega arith;
        high = (le-div_iff_mul-le (pow_pos (128 - a))).1 f;
      }

  module _ (k : ℕ) (w : Walking s rs a k) where
    in-pool : inside (prefix (k * size a) a) s.pool ≡ true
    in-pool =
        let h : k * size a ≤ last_of s.pool = (le-div_iff_mul-le (pow_pos (128 - a))).0 w.high in
        let p = pow_pos (128 - s.pool.length) in
        in-pool← s.pool (k * size a) a zp le w.low (omega arith)

    -- one try at place k
    try : {f : Option Record} → first (hits (prefix (k * size a) a)) rs ≡ f
        → (m : ℕ) × (last_place s.pool a < k + suc m) × (tried (λ y. walk_from m s rs a y) a (k * size a) f ≡ lowest s rs a)
    unfolding walk_from
    try {f} e = by w.fuel w.enough w.rest
      where
        by : (n : ℕ) → last_place s.pool a < k + n → walk_from n s rs a (k * size a) ≡ lowest s rs a
            → (m : ℕ) × (last_place s.pool a < k + suc m) × (tried (λ y. walk_from m s rs a y) a (k * size a) f ≡ lowest s rs a)
        by zero h q = absurd (omega (arith, w.high))
        by (suc m) h q = (m, h, rw (in-pool, e) at q)

    pub walk-free : first (hits (prefix (k * size a) a)) rs ≡ None → lowest s rs a ≡ Some (k * size a)
    walk-free e = sym (try e).2

    module _ (al : Aligned rs) (r : Record) (e : first (hits (prefix (k * size a) a)) rs ≡ Some r) where
      pub walk_up : k < last_place (area r) a + 1
      walk_up =
          let hit = first-all (hits (prefix (k * size a) a)) (λ r. zero_after (area r)) rs e al in
          let o = overlap→ (area r) (prefix (k * size a) a) hit.1 (eq-eqb _ _ (mul-mod_left k (size a))) hit.0 in
          let p = pow_pos (128 - (area r).length) in
          let h : k * size a ≤ last_of (area r) = omega arith in
          let g : k ≤ last_place (area r) a = (le-div_iff_mul-le (pow_pos (128 - a))).1 h in
          omega arith

      pub walk-on : last_place (area r) a + 1 ≤ last_place s.pool a → Walking s rs a (last_place (area r) a + 1)
      unfolding next_place
      walk-on h =
          let t = try e in
          let u : k < last_place (area r) a + 1 = walk_up in
          let m : k * size a ≤ (last_place (area r) a + 1) * size a = mul-le-mul_right (size a) (omega arith) in
          record { fuel = t.0; enough = omega (arith, t.1); rest = t.2; low = omega (arith, w.low); high = h }

      pub walk-full : last_place s.pool a < last_place (area r) a + 1 → lowest s rs a ≡ None
      unfolding next_place walk_from
      walk-full h = by (try e).0 (try e).2
        where
          n : ℕ
          n = last_place (area r) a + 1

          outside : (b : Bool) → inside (prefix (n * size a) a) s.pool ≡ b → b ≡ false
          outside true q =
              let i = in-pool→ s.pool (n * size a) a zp le q in
              let g : n * size a ≤ last_of s.pool = omega arith in
              let l : n ≤ last_place s.pool a = (le-div_iff_mul-le (pow_pos (128 - a))).1 g in
              absurd (omega arith)
          outside false q = refl

          by : (m : ℕ) → walk_from m s rs a (n * size a) ≡ lowest s rs a → lowest s rs a ≡ None
          by zero q = sym q
          by (suc m) q = sym (rw (outside (inside (prefix (n * size a) a) s.pool) refl) at q)

-- ---------------------------------------------------------------- by the upper half

-- as many ones as 64 bits have after the first b
ones : (b : ℕ) → b ≤ 64 → (2 ^ 64 - 1) / 2 ^ b ≡ 2 ^ (64 - b) - 1
ones b h =
    let w = 2 ^ (64 - b) in
    let k : 64 ≡ 64 - b + b = omega arith in
    let e : 2 ^ 64 ≡ w * 2 ^ b = ap (λ (i : ℕ). 2 ^ i) k ∙ pow-add 2 (64 - b) b in
    let p = pow_pos (64 - b) in
    let q = pow_pos b in
    let v : w ≡ w - 1 + 1 = omega arith in
    let d : w * 2 ^ b ≡ (w - 1) * 2 ^ b + 2 ^ b = ap (λ (i : ℕ). i * 2 ^ b) v ∙ add-mul (w - 1) 1 (2 ^ b) ∙ ap (λ (i : ℕ). (w - 1) * 2 ^ b + i) (one-mul (2 ^ b)) in
    let f : 2 ^ 64 - 1 ≡ (w - 1) * 2 ^ b + (2 ^ b - 1) = omega arith in
    ap (λ (x : ℕ). x / 2 ^ b) f ∙ high (w - 1) b (omega arith)

module _ (p b : ℕ) (b64 : b ≤ 64) where
  -- the last address of a prefix, in upper halves
  half-end : last_of (prefix (p * 2 ^ 64) b) ≡ (p + (2 ^ 64 - 1) / 2 ^ b) * 2 ^ 64 + (2 ^ 64 - 1)
  half-end =
      let o = ones b b64 in
      let h = half-size b b64 in
      let z = pow_pos (64 - b) in
      omega arith

  pub half-last : (a : ℕ) → a ≤ 64 → (p + (2 ^ 64 - 1) / 2 ^ b) / 2 ^ (64 - a) ≡ last_place (prefix (p * 2 ^ 64) b) a
  half-last a a64 =
      let e : 64 + (64 - a) ≡ 128 - a = omega arith in
      let x = last_of (prefix (p * 2 ^ 64) b) in
      let h : x / 2 ^ 64 ≡ p + (2 ^ 64 - 1) / 2 ^ b = ap (λ (y : ℕ). y / 2 ^ 64) half-end ∙ high (p + (2 ^ 64 - 1) / 2 ^ b) 64 (omega arith) in
      ap (λ (y : ℕ). y / 2 ^ (64 - a)) (sym h) ∙ shr-shr x 64 (64 - a) ∙ ap (λ (k : ℕ). x / 2 ^ k) e

  -- it fits 64 bits
  pub half-fits : p < 2 ^ 64 → zero_after (prefix (p * 2 ^ 64) b) ≡ true → p + (2 ^ 64 - 1) / 2 ^ b < 2 ^ 64
  half-fits l z =
      let w = 2 ^ (64 - b) in
      let k : 64 ≡ b + (64 - b) = omega arith in
      let e : 2 ^ 64 ≡ 2 ^ b * w = ap (λ (i : ℕ). 2 ^ i) k ∙ pow-add 2 b (64 - b) in
      let v : p / w * w ≡ p = whole p w (eqb-true _ 0 (sym (zero-upper p b b64) ∙ z)) in
      let g : p < 2 ^ b * w = omega arith in
      let c : p / w < 2 ^ b = (div-lt_iff_lt-mul (pow_pos (64 - b))).1 g in
      let m : (p / w + 1) * w ≤ 2 ^ b * w = mul-le-mul_right w (omega arith) in
      let d : (p / w + 1) * w ≡ p / w * w + w = add-mul (p / w) 1 w ∙ ap (λ (i : ℕ). p / w * w + i) (one-mul w) in
      let o = ones b b64 in
      let q = pow_pos (64 - b) in
      omega arith

-- place k in upper halves, where a bits hold k
module _ (k a : ℕ) (a64 : a ≤ 64) where
  pub half-number : k < 2 ^ 64 → k / 2 ^ (64 - a) < 2 ^ a
  half-number l = let e : 64 ≡ a + (64 - a) = omega arith in shr_lt a (64 - a) (subst (λ (i : ℕ). k < 2 ^ i) e l)

  pub half_place : k < 2 ^ a → k * 2 ^ (64 - a) % 2 ^ 64 * 2 ^ 64 ≡ k * size a
  half_place l =
      ap (λ (x : ℕ). x * 2 ^ 64) (shl_exact a (64 - a) 64 l (omega arith))
      ∙ mul_assoc k (2 ^ (64 - a)) (2 ^ 64) ∙ ap (λ (x : ℕ). k * x) (sym (half-size a a64))
