-- Laws of a prefix by the two halves of its 128 bits, each as the upper half of a prefix whose lower half is zero.
--   sixteen-...   the halves of sixteen bytes
--   front-...     the first bits, by the upper half or by both
--   zero-...      the bits after, by both halves or by the lower
use Rattle.std.specs.Prelude.{◌≡◌, refl, Bool, true, false, ◌&&◌, ℕ, ◌+◌, ◌-◌, ◌*◌, ◌/◌, ◌%◌, ◌^◌, ◌≤◌, ◌<◌, eqb}
use Rattle.std.proofs.Math.Path.{sym, ap}
use Rattle.std.proofs.Common.{◌∙◌, ⊎_elim, mul_assoc, div-one, mod-eq_of_lt, le_of_lt, take-append-drop, shr-shr, eq-eqb, ne_eqb, eqb-true}
use mathlib.Core.List.{List}
use Rattle.std.proofs.Math.Nat.{mul-mod_left, mod-one, div-eq_of_lt}
use native.Mathlib.Omega.{arith}
use Rattle.std.proofs.Math.ListN.{length, take, drop, length-drop}
use Rattle.std.proofs.Math.Seq.{take-length}
use Rattle.std.proofs.lemmas.Nat.{shl-shr}
use Rattle.std.proofs.Math.Pow.{split, high, low, mod-mod-pow, field}
use Rattle.std.proofs.lemmas.Bool.{eqb-false}
use Rattle.rules.specs.Words.{part, num, num_at}
use Rattle.rules.specs.Prefix.{prefix, size, front, zero_after}
use Rattle.laws.specs.Tests.{same_test, lt-or-ge}
use Rattle.laws.specs.Numbers.{num_at-is, num_at-fits}
use Rattle.laws.specs.Prefix.{half-front, half-rest}
use Rattle.laws.specs.Bits.{Sixteen, power, num-append}

-- ---------------------------------------------------------------- the halves of sixteen bytes

module _ (q : List ℕ) (s : Sixteen q) where
  halves : num q ≡ num_at q 0 8 * 2 ^ 64 + num_at q 8 8
  unfolding part
  halves =
      let l = s.long in
      let n : length (drop 8 q) ≡ 8 = length-drop 8 q ∙ omega arith in
      let d : drop 8 q ≡ part 8 8 q = sym (ap (λ (k : ℕ). take k (drop 8 q)) (sym n) ∙ take-length (drop 8 q)) in
      ap num (sym (take-append-drop 8 q))
      ∙ num-append (take 8 q) (drop 8 q)
      ∙ ap (λ (k : ℕ). num (take 8 q) * 2 ^ (8 * k) + num (drop 8 q)) n
      ∙ ap (λ (x : List ℕ). num (part 0 8 q) * 2 ^ 64 + num x) d
      ∙ sym (ap (λ (k : ℕ). k * 2 ^ 64 + num_at q 8 8) (num_at-is q 0 8 s.bytes (omega arith)) ∙ ap (λ (k : ℕ). num (part 0 8 q) * 2 ^ 64 + k) (num_at-is q 8 8 s.bytes (omega arith)))

  pub sixteen-upper : num_at q 0 8 ≡ num q / 2 ^ 64
  sixteen-upper = sym (ap (λ (x : ℕ). x / 2 ^ 64) halves ∙ high (num_at q 0 8) 64 (num_at-fits q 8 8))

  pub sixteen-lower : num_at q 8 8 ≡ num q % 2 ^ 64
  sixteen-lower = sym (ap (λ (x : ℕ). x % 2 ^ 64) halves ∙ low (num_at q 0 8) 64 (num_at-fits q 8 8))

-- ---------------------------------------------------------------- upper halves

module _ (p a : ℕ) (h : 64 ≤ a) where
  upper-rest : p * 2 ^ 64 % size a ≡ 0
  upper-rest =
      let t = 128 - a in
      ap (λ (k : ℕ). p * k % 2 ^ t) (power 64 (64 - t) t (omega arith)) ∙ ap (λ (k : ℕ). k % 2 ^ t) (sym (mul_assoc p (2 ^ (64 - t)) (2 ^ t))) ∙ mul-mod_left (p * 2 ^ (64 - t)) (2 ^ t)

  upper-back : front (p * 2 ^ 64) a / 2 ^ (64 - (128 - a)) ≡ p
  upper-back =
      let t = 128 - a in
      let e : t + (64 - t) ≡ 64 = omega arith in
      shr-shr (p * 2 ^ 64) t (64 - t) ∙ ap (λ (k : ℕ). p * 2 ^ 64 / 2 ^ k) e ∙ shl-shr p 64

-- from 64 bits on the whole half counts, and at none nothing
pub front-all : (p q a : ℕ) → 64 ≤ a → eqb (front (p * 2 ^ 64) a) (front (q * 2 ^ 64) a) ≡ eqb p q
front-all p q a h =
    same_test (front (p * 2 ^ 64) a) (front (q * 2 ^ 64) a) p q
    (λ e. sym (upper-back p a h) ∙ ap (λ (x : ℕ). x / 2 ^ (64 - (128 - a))) e ∙ upper-back q a h)
    (λ e. ap (λ (x : ℕ). front (x * 2 ^ 64) a) e)

pub front-none : (p q a : ℕ) → p < 2 ^ 64 → q < 2 ^ 64 → a ≡ 0 → eqb (front (p * 2 ^ 64) a) (front (q * 2 ^ 64) a) ≡ true
front-none p q a h g z = eq-eqb _ _ (nothing p h ∙ sym (nothing q g))
  where
    nothing : (x : ℕ) → x < 2 ^ 64 → front (x * 2 ^ 64) a ≡ 0
    nothing x l = rw z (half-front x 0 (omega arith) ∙ div-eq_of_lt l)

pub zero-times : (z : ℕ) → eqb (z * 2 ^ 64) 0 ≡ eqb z 0
zero-times z = same_test (z * 2 ^ 64) 0 z 0 (λ e. omega arith) (λ e. omega arith)

pub zero-all : (p a : ℕ) → 64 ≤ a → zero_after (prefix (p * 2 ^ 64) a) ≡ true
zero-all p a h = eq-eqb _ _ (upper-rest p a h)

pub zero-upper : (p a : ℕ) → a ≤ 64 → zero_after (prefix (p * 2 ^ 64) a) ≡ eqb (p % 2 ^ (64 - a)) 0
zero-upper p a h = ap (λ (x : ℕ). eqb x 0) (half-rest p a h) ∙ zero-times (p % 2 ^ (64 - a))

pub zero-none : (p a : ℕ) → p < 2 ^ 64 → a ≡ 0 → zero_after (prefix (p * 2 ^ 64) a) ≡ eqb p 0
zero-none p a h z = zero-upper p a (omega arith) ∙ ap (λ (k : ℕ). eqb (p % 2 ^ (64 - k)) 0) z ∙ ap (λ (x : ℕ). eqb x 0) (mod-eq_of_lt h)

-- ---------------------------------------------------------------- both halves

-- numbers are the same where their upper and their lower bits are
pub split-test : (x y s : ℕ) → eqb x y ≡ eqb (x / 2 ^ s) (y / 2 ^ s) && eqb (x % 2 ^ s) (y % 2 ^ s)
split-test x y s = by (eqb (x / 2 ^ s) (y / 2 ^ s)) refl
  where
    by : (t : Bool) → eqb (x / 2 ^ s) (y / 2 ^ s) ≡ t → eqb x y ≡ t && eqb (x % 2 ^ s) (y % 2 ^ s)
    by true q =
        let u : x / 2 ^ s * 2 ^ s ≡ y / 2 ^ s * 2 ^ s = ap (λ (z : ℕ). z * 2 ^ s) (eqb-true (x / 2 ^ s) (y / 2 ^ s) q) in
        same_test x y (x % 2 ^ s) (y % 2 ^ s) (λ e. ap (λ (z : ℕ). z % 2 ^ s) e) (λ e. omega (arith, split x s, split y s))
    by false q = ne_eqb x y (λ e. eqb-false (x / 2 ^ s) (y / 2 ^ s) q (ap (λ (z : ℕ). z / 2 ^ s) e))

-- x by its halves h and l, y by k and m; at most 64 bits are in the upper half, and from 64 on the others are in the lower
front-of-upper : (x a : ℕ) → a ≤ 64 → front (x / 2 ^ 64 * 2 ^ 64) a ≡ front x a
front-of-upper x a o =
    let e : 64 + (64 - a) ≡ 128 - a = omega arith in
    half-front (x / 2 ^ 64) a o ∙ shr-shr x 64 (64 - a) ∙ ap (λ (i : ℕ). x / 2 ^ i) e

front-of-lower : (a l m : ℕ) → 64 ≤ a → eqb (front (l * 2 ^ 64) (a - 64)) (front (m * 2 ^ 64) (a - 64)) ≡ eqb (l / size a) (m / size a)
front-of-lower a l m o = ⊎_elim few many (lt-or-ge a 128)
  where
    few : a < 128 → eqb (front (l * 2 ^ 64) (a - 64)) (front (m * 2 ^ 64) (a - 64)) ≡ eqb (l / size a) (m / size a)
    few g =
        let f : 64 - (a - 64) ≡ 128 - a = omega arith in
        let n : a - 64 ≤ 64 = omega arith in
        rw (half-front l (a - 64) n, half-front m (a - 64) n, f)

    many : 128 ≤ a → eqb (front (l * 2 ^ 64) (a - 64)) (front (m * 2 ^ 64) (a - 64)) ≡ eqb (l / size a) (m / size a)
    many g =
        let z : 128 - a ≡ 0 = omega arith in
        front-all l m (a - 64) (omega arith) ∙ sym (ap (λ (i : ℕ). eqb (l / 2 ^ i) (m / 2 ^ i)) z ∙ rw (div-one l, div-one m))

module _ (h l k m a : ℕ) (fl : l < 2 ^ 64) (fm : m < 2 ^ 64) where
  pub front-upper : a < 64 → eqb (front (h * 2 ^ 64) a) (front (k * 2 ^ 64) a) ≡ eqb (front (h * 2 ^ 64 + l) a) (front (k * 2 ^ 64 + m) a)
  front-upper o = rw (of-upper h l fl, of-upper k m fm)
    where
      of-upper : (u d : ℕ) → d < 2 ^ 64 → front (u * 2 ^ 64) a ≡ front (u * 2 ^ 64 + d) a
      of-upper u d f = ap (λ (z : ℕ). front (z * 2 ^ 64) a) (sym (high u 64 f)) ∙ front-of-upper (u * 2 ^ 64 + d) a (le_of_lt o)

  pub front-both : 64 ≤ a → eqb h k && eqb (front (l * 2 ^ 64) (a - 64)) (front (m * 2 ^ 64) (a - 64)) ≡ eqb (front (h * 2 ^ 64 + l) a) (front (k * 2 ^ 64 + m) a)
  front-both o =
      let t = 128 - a in
      let e : t + (64 - t) ≡ 64 = omega arith in
      let f : 64 - t + t ≡ 64 = omega arith in
      let x = h * 2 ^ 64 + l in
      let y = k * 2 ^ 64 + m in
      let u : (z : ℕ) → front z a / 2 ^ (64 - t) ≡ z / 2 ^ 64 = λ z. shr-shr z t (64 - t) ∙ ap (λ (i : ℕ). z / 2 ^ i) e in
      let d : (z : ℕ) → front z a % 2 ^ (64 - t) ≡ z % 2 ^ 64 / 2 ^ t = λ z. sym (field z (64 - t) t) ∙ ap (λ (i : ℕ). z % 2 ^ i / 2 ^ t) f in
      ap (λ (b : Bool). eqb h k && b) (front-of-lower a l m o)
      ∙ sym (split-test (front x a) (front y a) (64 - t) ∙ rw (u x, u y, d x, d y, high h 64 fl, high k 64 fm, low h 64 fl, low k 64 fm))

-- a number is its halves
pub halves_of : (x h l : ℕ) → h ≡ x / 2 ^ 64 → l ≡ x % 2 ^ 64 → h * 2 ^ 64 + l ≡ x
halves_of x h l eh el = rw (eh, el) (split x 64)

module _ (x a l : ℕ) (el : l ≡ x % 2 ^ 64) where
  pub zero-both : (h : ℕ) → a < 64 → h ≡ x / 2 ^ 64 → zero_after (prefix (h * 2 ^ 64) a) && eqb l 0 ≡ zero_after (prefix x a)
  zero-both h o eh =
      let e : 128 - a ≡ 64 - a + 64 = omega arith in
      rw (eh, el, zero-upper (x / 2 ^ 64) a (le_of_lt o))
      (sym
      (ap (λ (i : ℕ). eqb (x % 2 ^ i) 0) e
      ∙ split-test (x % 2 ^ (64 - a + 64)) 0 64
      ∙ ap (λ (u : ℕ). eqb u 0 && eqb (x % 2 ^ (64 - a + 64) % 2 ^ 64) 0) (field x (64 - a) 64)
      ∙ ap (λ (d : ℕ). eqb (x / 2 ^ 64 % 2 ^ (64 - a)) 0 && eqb d 0) (mod-mod-pow x (64 - a) 64)))

  pub zero-lower : 64 ≤ a → zero_after (prefix (l * 2 ^ 64) (a - 64)) ≡ zero_after (prefix x a)
  zero-lower o = rw el (⊎_elim few many (lt-or-ge a 128))
    where
      few : a < 128 → zero_after (prefix (x % 2 ^ 64 * 2 ^ 64) (a - 64)) ≡ zero_after (prefix x a)
      few g =
          let t = 128 - a in
          let e : 64 - t + t ≡ 64 = omega arith in
          let f : 64 - (a - 64) ≡ t = omega arith in
          zero-upper (x % 2 ^ 64) (a - 64) (omega arith)
          ∙ ap (λ (i : ℕ). eqb (x % 2 ^ 64 % 2 ^ i) 0) f
          ∙ ap (λ (n : ℕ). eqb n 0) (ap (λ (i : ℕ). x % 2 ^ i % 2 ^ t) (sym e) ∙ mod-mod-pow x (64 - t) t)

      many : 128 ≤ a → zero_after (prefix (x % 2 ^ 64 * 2 ^ 64) (a - 64)) ≡ zero_after (prefix x a)
      many g =
          let z : 128 - a ≡ 0 = omega arith in
          zero-all (x % 2 ^ 64) (a - 64) (omega arith) ∙ sym (ap (λ (i : ℕ). eqb (x % 2 ^ i) 0) z ∙ eq-eqb (x % 1) 0 (mod-one x))

-- all the bits are the number
pub front-whole : (x y : ℕ) → eqb (front x 128) (front y 128) ≡ eqb x y
front-whole x y = rw (div-one x, div-one y)
