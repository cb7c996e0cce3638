-- Laws of prefixes, over the length.
--   overlap→, overlap←        two prefixes with zero bits after overlap exactly where their addresses, as intervals, meet
--   overlap-sym, inside-...   which way round; what lies inside what
--   next-above, next-least    the next place is above, is aligned, and is the least such
--   past                      where a record overlaps a place, it overlaps every place up to the next one past its end
--   half-...                  prefixes of at most 64 bits by the upper half of their bits
use Rattle.std.specs.Prelude.{◌≡◌, Bool, ℕ, ◌+◌, ◌-◌, ◌*◌, ◌/◌, ◌%◌, ◌^◌, ◌≤◌, ◌<◌, min, ltb}
use Rattle.std.proofs.Math.Path.{refl}
use Rattle.std.proofs.Common.{sym, ap, ◌∙◌, subst, mul_assoc, mod-lt, add-mul, one-mul, div-lt_iff_lt-mul, mul-le-mul_right, div-add-mod', arith, pow_pos, pow-add, shr-shr}
use Rattle.std.proofs.Math.Bool.{true, false}
use Rattle.std.proofs.Math.Nat.{mul-mod_left, div-eq_of_lt-le, min-eq_left, min-eq_right, min_comm, le_of_lt, mul-div-mul_right}
use Rattle.std.proofs.Math.Dec.{eqb, leb}
use Rattle.std.proofs.lemmas.Nat.{shl-shr, mod-pow-add}
use borrow.Author.Tests.{eq-eqb, eqb-true, leb-true, leb-false, le-leb, ltb-true, ltb-false}
use Rattle.rules.specs.Prefix.{Prefix, prefix, size, front, zero_after, fits, same_prefix, overlap, inside, last_of, next_place}
use Rattle.laws.specs.Tests.{both, both-made, same_test}

-- ---------------------------------------------------------------- sizes

-- a shorter prefix's size is a multiple of a longer one's
pub size-split : (a b : ℕ) → a ≤ b → size a ≡ 2 ^ ((128 - a) - (128 - b)) * size b
size-split a b h =
    let e : (128 - a) - (128 - b) + (128 - b) ≡ 128 - a = omega arith in
    sym (ap (λ (x : ℕ). 2 ^ x) e) ∙ pow-add 2 ((128 - a) - (128 - b)) (128 - b)

pub whole : (p s : ℕ) → p % s ≡ 0 → p / s * s ≡ p
whole p s z = let d = div-add-mod' p s in omega arith

one_more : (n s : ℕ) → (n + 1) * s ≡ n * s + s
one_more n s = add-mul n 1 s ∙ ap (λ (x : ℕ). n * s + x) (one-mul s)

pub finer : (p a b : ℕ) → a ≤ b → p % size a ≡ 0 → p % size b ≡ 0
finer p a b h z =
    let k = 2 ^ ((128 - a) - (128 - b)) in
    let e : p ≡ p / size a * k * size b = sym (whole p (size a) z) ∙ ap (λ (s : ℕ). p / size a * s) (size-split a b h) ∙ sym (mul_assoc (p / size a) k (size b)) in
    rw e (mul-mod_left (p / size a * k) (size b))

-- what has the same first bits has the same fewer first bits
pub front-coarser : (p q a b : ℕ) → a ≤ b → front p b ≡ front q b → front p a ≡ front q a
front-coarser p q a b h e = first p ∙ ap (λ (n : ℕ). n / 2 ^ ((128 - a) - (128 - b))) e ∙ sym (first q)
  where
    first : (x : ℕ) → x / size a ≡ x / size b / 2 ^ ((128 - a) - (128 - b))
    first x =
        let e : 128 - a ≡ 128 - b + ((128 - a) - (128 - b)) = omega arith in
        ap (λ (k : ℕ). x / 2 ^ k) e ∙ sym (shr-shr x (128 - b) ((128 - a) - (128 - b)))

-- ---------------------------------------------------------------- prefixes as intervals

module _ (p a q b : ℕ) (le : a ≤ b) (zp : p % size a ≡ 0) (zq : q % size b ≡ 0) where
  front→ : front p a ≡ front q a → (p < q + size b) × (q < p + size a)
  front→ e =
      let w : p / size a * size a ≡ p = whole p (size a) zp in
      let d = div-add-mod' q (size a) in
      let l = mod-lt q (pow_pos (128 - a)) in
      let s = pow_pos (128 - b) in
      let f : p / size a * size a ≡ q / size a * size a = ap (λ (x : ℕ). x * size a) e in
      (omega arith, omega arith)

  below : p < q + size b → p ≤ q
  below h =
      let w : p / size b * size b ≡ p = whole p (size b) (finer p a b le zp) in
      let v : q / size b * size b ≡ q = whole q (size b) zq in
      let m = one_more (q / size b) (size b) in
      let g : p < (q / size b + 1) * size b = omega arith in
      let c : p / size b < q / size b + 1 = (div-lt_iff_lt-mul (pow_pos (128 - b))).1 g in
      let c' : p / size b ≤ q / size b = omega arith in
      let r : p / size b * size b ≤ q / size b * size b = mul-le-mul_right (size b) c' in
      omega arith

  front← : p < q + size b → q < p + size a → front p a ≡ front q a
  front← h g =
      let w : p / size a * size a ≡ p = whole p (size a) zp in
      let m = one_more (p / size a) (size a) in
      let u = below h in
      let x : p / size a * size a ≤ q = omega arith in
      let y : q < (p / size a + 1) * size a = omega arith in
      sym (div-eq_of_lt-le (size a) x y)

pub overlap-sym : (p q : Prefix) → overlap p q ≡ overlap q p
unfolding overlap
overlap-sym p q =
    rw (min_comm p.length q.length)
    (same_test (front p.bits (min q.length p.length)) (front q.bits (min q.length p.length))
    (front q.bits (min q.length p.length)) (front p.bits (min q.length p.length)) sym sym)

module _ (p q : Prefix) (zp : zero_after p ≡ true) (zq : zero_after q ≡ true) where
  alignedp : p.bits % size p.length ≡ 0
  alignedp = eqb-true (p.bits % size p.length) 0 zp

  alignedq : q.bits % size q.length ≡ 0
  alignedq = eqb-true (q.bits % size q.length) 0 zq

  pub overlap→ : overlap p q ≡ true → (p.bits < q.bits + size q.length) × (q.bits < p.bits + size p.length)
  unfolding overlap
  overlap→ o = by (leb p.length q.length) refl
    where
      by : (t : Bool) → leb p.length q.length ≡ t → (p.bits < q.bits + size q.length) × (q.bits < p.bits + size p.length)
      by true e =
          let le = leb-true p.length q.length e in
          front→ p.bits p.length q.bits q.length le alignedp alignedq (eqb-true _ _ (rw (min-eq_left le) at o))
      by false e =
          let le : q.length ≤ p.length = le_of_lt (leb-false p.length q.length e) in
          let r = front→ q.bits q.length p.bits p.length le alignedq alignedp (sym (eqb-true _ _ (rw (min-eq_right le) at o))) in
          (r.1, r.0)

  pub overlap← : p.bits < q.bits + size q.length → q.bits < p.bits + size p.length → overlap p q ≡ true
  unfolding overlap
  overlap← h g = by (leb p.length q.length) refl
    where
      by : (t : Bool) → leb p.length q.length ≡ t
          → eqb (front p.bits (min p.length q.length)) (front q.bits (min p.length q.length)) ≡ true
      by true e =
          let le = leb-true p.length q.length e in
          rw (min-eq_left le) (eq-eqb _ _ (front← p.bits p.length q.bits q.length le alignedp alignedq h g))
      by false e =
          let le : q.length ≤ p.length = le_of_lt (leb-false p.length q.length e) in
          rw (min-eq_right le) (eq-eqb _ _ (sym (front← q.bits q.length p.bits p.length le alignedq alignedp g h)))

-- what lies inside a prefix of 128 bits has 128 bits
pub inside-fits : (p q : Prefix) → fits q ≡ true → inside p q ≡ true → p.bits < 2 ^ 128
unfolding inside
inside-fits p q f e =
    let b = both (leb q.length p.length) (eqb (front p.bits q.length) (front q.bits q.length)) e in
    let g = both (leb q.length 128) (ltb q.bits (2 ^ 128)) f in
    let n = leb-true q.length 128 g.0 in
    let k : 128 ≡ q.length + (128 - q.length) = omega arith in
    let w : 2 ^ 128 ≡ 2 ^ q.length * size q.length = ap (λ (i : ℕ). 2 ^ i) k ∙ pow-add 2 q.length (128 - q.length) in
    let l : q.bits < 2 ^ q.length * size q.length = subst (λ (i : ℕ). q.bits < i) w (ltb-true _ _ g.1) in
    let h : front q.bits q.length < 2 ^ q.length = (div-lt_iff_lt-mul (pow_pos (128 - q.length))).1 l in
    let m : front p.bits q.length < 2 ^ q.length = subst (λ (i : ℕ). i < 2 ^ q.length) (sym (eqb-true _ _ b.1)) h in
    subst (λ (i : ℕ). p.bits < i) (sym w) ((div-lt_iff_lt-mul (pow_pos (128 - q.length))).0 m)

pub same-prefix : (p q : Prefix) → same_prefix p q ≡ true → p ≡ q
same-prefix p q e =
    let b = both (eqb p.length q.length) (eqb p.bits q.bits) e in
    let l = eqb-true _ _ b.0 in
    let t = eqb-true _ _ b.1 in
    λ i. record { bits = t i; length = l i }

-- what overlaps a part of a prefix overlaps the prefix
pub overlap-wider : (r p : Prefix) (b : ℕ) → p.length ≤ b → overlap r (prefix p.bits b) ≡ true → overlap r p ≡ true
unfolding overlap
overlap-wider r p b h e =
    let m : min r.length p.length ≤ min r.length b = omega arith in
    eq-eqb _ _ (front-coarser r.bits p.bits (min r.length p.length) (min r.length b) m (eqb-true _ _ e))

-- a longer prefix at the same bits lies where the shorter does
pub inside-longer : (p q : Prefix) (b : ℕ) → p.length ≤ b → inside p q ≡ true → inside (prefix p.bits b) q ≡ true
unfolding inside
inside-longer p q b h e =
    let t = both (leb q.length p.length) (eqb (front p.bits q.length) (front q.bits q.length)) e in
    let le = leb-true q.length p.length t.0 in
    both-made (le-leb q.length b (omega arith)) t.1

-- ---------------------------------------------------------------- the next place

pub next-above : (x a : ℕ) → x < next_place x a
unfolding next_place
next-above x a =
    let d = div-add-mod' x (size a) in
    let m = mod-lt x (pow_pos (128 - a)) in
    rw (add-mul, one-mul) (omega arith)

pub next-zero : (x a : ℕ) → zero_after (prefix (next_place x a) a) ≡ true
unfolding next_place
next-zero x a = eq-eqb _ _ (mul-mod_left (x / size a + 1) (size a))

pub next-least : (x a y : ℕ) → zero_after (prefix y a) ≡ true → x < y → next_place x a ≤ y
unfolding next_place
next-least x a y z h =
    let w : y / size a * size a ≡ y = whole y (size a) (eqb-true (y % size a) 0 z) in
    let g : x < y / size a * size a = omega arith in
    let c : x / size a < y / size a = (div-lt_iff_lt-mul (pow_pos (128 - a))).1 g in
    let c' : x / size a + 1 ≤ y / size a = omega arith in
    let r : (x / size a + 1) * size a ≤ y / size a * size a = mul-le-mul_right (size a) c' in
    omega arith

-- q overlaps the place x of length a, both with zero bits after: the next place past q's end is above x,
-- and q overlaps every place from x to below it, so nothing free is passed over
module _ (q : Prefix) (x a : ℕ) (zq : zero_after q ≡ true) (zx : zero_after (prefix x a) ≡ true) (o : overlap q (prefix x a) ≡ true) where
  pub past-above : x < next_place (last_of q) a
  past-above =
      let i = overlap→ q (prefix x a) zq zx o in
      let n = next-above (last_of q) a in
      let s = pow_pos (128 - q.length) in
      omega arith

  pub past : (y : ℕ) → zero_after (prefix y a) ≡ true → x ≤ y → y < next_place (last_of q) a → overlap q (prefix y a) ≡ true
  past y zy le lt =
      let i = overlap→ q (prefix x a) zq zx o in
      overlap← q (prefix y a) zq zy (omega arith) (by (ltb (last_of q) y) refl)
    where
      by : (t : Bool) → ltb (last_of q) y ≡ t → y < q.bits + size q.length
      by true e = let n : next_place (last_of q) a ≤ y = next-least (last_of q) a y zy (ltb-true (last_of q) y e) in omega arith
      by false e = let n : y ≤ last_of q = ltb-false (last_of q) y e in let s = pow_pos (128 - q.length) in omega arith

-- ---------------------------------------------------------------- the upper half

-- a prefix of at most 64 bits by the upper half of its bits
pub half-size : (a : ℕ) → a ≤ 64 → size a ≡ 2 ^ (64 - a) * 2 ^ 64
half-size a h = let e : 128 - a ≡ 64 - a + 64 = omega arith in ap (λ (k : ℕ). 2 ^ k) e ∙ pow-add 2 (64 - a) 64

pub half-front : (p a : ℕ) → a ≤ 64 → front (p * 2 ^ 64) a ≡ p / 2 ^ (64 - a)
half-front p a h = ap (λ (s : ℕ). p * 2 ^ 64 / s) (half-size a h) ∙ mul-div-mul_right p (2 ^ (64 - a)) (pow_pos 64)

pub half-rest : (p a : ℕ) → a ≤ 64 → p * 2 ^ 64 % size a ≡ p % 2 ^ (64 - a) * 2 ^ 64
half-rest p a h =
    let e : 128 - a ≡ 64 - a + 64 = omega arith in
    ap (λ (k : ℕ). p * 2 ^ 64 % 2 ^ k) e ∙ mod-pow-add (p * 2 ^ 64) (64 - a) 64
    ∙ ap (λ (x : ℕ). x % 2 ^ (64 - a) * 2 ^ 64 + p * 2 ^ 64 % 2 ^ 64) (shl-shr p 64)
    ∙ omega (arith, mul-mod_left p (2 ^ 64))
