-- Laws of sixteen bytes whose lower half is zero, and of the last /64 of a delegation by its upper half.
use Rattle.std.specs.Prelude.{◌≡◌, true, ◌&&◌, ◌++◌, ℕ, ◌+◌, ◌-◌, ◌*◌, ◌/◌, ◌%◌, ◌^◌, ◌≤◌, ◌<◌, eqb, drop, replicate}
use Rattle.std.proofs.Common.{sym, ◌∙◌, subst, mod-eq_of_lt, one-mul, shr_lt, eqb-true}
use Rattle.std.proofs.Math.Path.{ap}
use native.Mathlib.Omega.{arith}
use Rattle.std.proofs.Math.Nat.{mul-mod_left}
use Rattle.std.proofs.Math.Arith.{digits_lt}
use Rattle.std.proofs.Math.Pow.{pow_pos, pow-lt, split}
use Rattle.std.proofs.lemmas.Nat.{shl-shr}
use Rattle.rules.specs.Words.{num, be, splice}
use Rattle.rules.specs.Prefix.{prefix, size, zero_after, last64}
use Rattle.laws.specs.Numbers.{length-be, num-be-fits}
use Rattle.laws.specs.Bits.{power, num-append}
use Rattle.laws.specs.Halves.{split-test, zero-upper}
use Rattle.laws.specs.Prefix.{half-size}

-- eight bytes in front of zeros
pub upper-bytes : (p : ℕ) → p < 2 ^ 64 → num (splice 0 (be 8 p) (replicate 16 0)) ≡ p * 2 ^ 64
unfolding splice num be
upper-bytes p h =
    ap (λ (n : ℕ). num (be 8 p ++ drop n (replicate 16 0))) (length-be 8 p)
    ∙ num-append (be 8 p) (replicate 8 0)
    ∙ ap (λ (x : ℕ). x * 2 ^ 64 + 0) (num-be-fits 8 p h)
    ∙ omega arith

-- x by its halves h and l
pub upper-test : (x p : ℕ) {h l : ℕ} → h ≡ x / 2 ^ 64 → l ≡ x % 2 ^ 64 → eqb h p && eqb l 0 ≡ eqb x (p * 2 ^ 64)
upper-test x p eh el = rw (eh, el) (sym (split-test x (p * 2 ^ 64) 64 ∙ rw (shl-shr p 64, mul-mod_left p (2 ^ 64))))

module _ (p a : ℕ) (h : a ≤ 64) where
  pub last-upper : last64 (prefix (p * 2 ^ 64) a) ≡ prefix ((p + (2 ^ (64 - a) - 1)) * 2 ^ 64) 64
  unfolding last64
  last-upper =
      let k = 2 ^ (64 - a) in
      let w = pow_pos (64 - a) in
      let e : p * 2 ^ 64 + (size a - size 64) ≡ (p + (k - 1)) * 2 ^ 64 = ap (λ (s : ℕ). p * 2 ^ 64 + (s - 2 ^ 64)) (half-size a h) ∙ omega arith in
      ap (λ (b : ℕ). prefix b 64) e

  pub last_fits : p < 2 ^ 64 → zero_after (prefix (p * 2 ^ 64) a) ≡ true → p + (2 ^ (64 - a) - 1) < 2 ^ 64
  last_fits f z =
      let k = 2 ^ (64 - a) in
      let w = pow_pos (64 - a) in
      let r : p % k ≡ 0 = eqb-true _ _ (sym (zero-upper p a h) ∙ z) in
      let n : 64 ≡ a + (64 - a) = omega arith in
      let e : 2 ^ 64 ≡ 2 ^ a * k = power 64 a (64 - a) n in
      let q : p / k < 2 ^ a = shr_lt a (64 - a) (subst (λ (i : ℕ). p < 2 ^ i) n f) in
      let d : p / k * k + (k - 1) < 2 ^ a * k = digits_lt q (omega arith) in
      omega (arith, split p (64 - a))

-- the whole space, and what a shift gives of a shorter one
pub last_none : (p a : ℕ) → p < 2 ^ 64 → a ≡ 0 → zero_after (prefix (p * 2 ^ 64) a) ≡ true → prefix (0xFFFF_FFFF_FFFF_FFFF * 2 ^ 64) 64 ≡ last64 (prefix (p * 2 ^ 64) a)
last_none p a f e z =
    let n : a ≤ 64 = omega arith in
    let l = last_fits p a n f z in
    let k : 2 ^ (64 - a) ≡ 2 ^ 64 = ap (λ (i : ℕ). 2 ^ (64 - i)) e in
    let x : 0xFFFF_FFFF_FFFF_FFFF ≡ p + (2 ^ (64 - a) - 1) = omega arith in
    ap (λ (b : ℕ). prefix (b * 2 ^ 64) 64) x ∙ sym (last-upper p a n)

pub last-shift : (a : ℕ) → a ≤ 64 → (a ≡ 0 → ⊥) → 1 * 2 ^ (64 - a) % 2 ^ 64 ≡ 2 ^ (64 - a)
last-shift a h n = ap (λ (x : ℕ). x % 2 ^ 64) (one-mul (2 ^ (64 - a))) ∙ mod-eq_of_lt (pow-lt {j = 64} (omega arith))
