-- Laws of the bits of a list of bytes, bit 0 being the highest of the first byte.
--   bit_at, bits8   bit i, and the eight bits from bit i on; zeros past the end
--   pair, bits_of   two neighbours as one number; the k bits from bit r on of a number of n bits
--   Sixteen        sixteen bytes: a prefix as the code has it
--   num-append     the number of one list after another
--   window         eight bits of a list are eight bits of its number
--   taken          eight bits, one at a time
--   joined         the first bits of one number, then those of another; byte-... its bytes
use Rattle.std.specs.Prelude.{◌≡◌, refl, ℕ, zero, suc, ◌+◌, ◌-◌, ◌*◌, ◌/◌, ◌%◌, ◌^◌, ◌≤◌, ◌<◌, List, [], ◌∷◌, ◌++◌, length, get_or, replicate, eqb}
use Rattle.std.proofs.Common.{ap, sym, ◌∙◌, subst, ⊎_elim, arith, zero-mul, mul_assoc, mul_right_comm, add-mul, mod-lt, lt_of_lt_of_le, mod-eq_of_lt, div-mul-le_self, length-append, pow_pos, pow_mono, pow-add, shr_lt, shr-shr, lit<}
use Rattle.std.proofs.Math.Nat.{zero-div, mod-one, mul-div-mul_right, mul-add-mod_self_right, mul-add-div_right}
use Rattle.std.proofs.Math.ListN.{get_or-eq_default}
use Rattle.std.proofs.Math.Pow.{split, high, low, mod-mod-pow, field}
use Rattle.std.proofs.lemmas.Nat.{mod-pow-add}
use Rattle.rules.specs.Words.{num, be}
use Rattle.rules.specs.Prefix.{size, front}
use Rattle.laws.specs.Tests.{same_test, lt-or-ge}
use Rattle.laws.specs.Numbers.{Bytes, num-lt, be-num, be-digit}

unfoldable pub bit_at : List ℕ → ℕ → ℕ
bit_at l i = get_or l (i / 8) 0 / 2 ^ (7 - i % 8) % 2

abbrev pub pair : List ℕ → ℕ → ℕ
pair l i = get_or l (i / 8) 0 * 256 + get_or l (i / 8 + 1) 0

unfoldable pub bits8 : List ℕ → ℕ → ℕ
bits8 l i = pair l i / 2 ^ (8 - i % 8) % 256

abbrev pub bits_of : ℕ → ℕ → ℕ → ℕ → ℕ
bits_of n w r k = w / 2 ^ (n - r - k) % 2 ^ k

pub record Sixteen (l : List ℕ) : Type 0 where
  pub long : length l ≡ 16
  pub bytes : Bytes l

pub power : (i j k : ℕ) → i ≡ j + k → 2 ^ i ≡ 2 ^ j * 2 ^ k
power i j k e = ap (λ (n : ℕ). 2 ^ n) e ∙ pow-add 2 j k

-- shifted there and back a number of w bits is itself exactly where its last s bits are zero
pub shift_back : (x w s : ℕ) → x < 2 ^ w → eqb (x / 2 ^ s * 2 ^ s % 2 ^ w) x ≡ eqb (x % 2 ^ s) 0
shift_back x w s h =
    let d = split x s in
    let m : x / 2 ^ s * 2 ^ s % 2 ^ w ≡ x / 2 ^ s * 2 ^ s = mod-eq_of_lt (omega arith) in
    rw m (same_test (x / 2 ^ s * 2 ^ s) x (x % 2 ^ s) 0 (λ e. omega arith) (λ e. omega arith))

-- ---------------------------------------------------------------- numbers of lists

pub num-append : (l m : List ℕ) → num (l ++ m) ≡ num l * 2 ^ (8 * length m) + num m
unfolding num
num-append [] m = omega (arith, zero-mul (2 ^ (8 * length m)))
num-append (x ∷ l) m =
    let s = 2 ^ (8 * length l) in
    let t = 2 ^ (8 * length m) in
    ap (λ (k : ℕ). x * 2 ^ (8 * k) + num (l ++ m)) (length-append l m)
    ∙ ap (λ (k : ℕ). x * k + num (l ++ m)) (power (8 * (length l + length m)) (8 * length l) (8 * length m) (omega arith))
    ∙ omega (arith, mul_assoc x s t, num-append l m, add-mul (x * s) (num l) t)

pub num-zeros : (n : ℕ) → num (replicate n 0) ≡ 0
unfolding num
num-zeros zero = refl
num-zeros (suc n) = omega (arith, zero-mul (2 ^ (8 * length {A = ℕ} (replicate n 0))), num-zeros n)

-- ---------------------------------------------------------------- past the end

pub bit_past : (l : List ℕ) (i : ℕ) → length l ≡ 16 → 128 ≤ i → bit_at l i ≡ 0
unfolding bit_at
bit_past l i e h =
    ap (λ (x : ℕ). x / 2 ^ (7 - i % 8) % 2) (get_or-eq_default l 0 {n = i / 8} (omega arith)) ∙ ap (λ (x : ℕ). x % 2) (zero-div (2 ^ (7 - i % 8)))

pub bits-past : (l : List ℕ) (i : ℕ) → length l ≡ 16 → 128 ≤ i → bits8 l i ≡ 0
unfolding bits8
bits-past l i e h =
    ap (λ (x : ℕ). (x * 256 + get_or l (i / 8 + 1) 0) / 2 ^ (8 - i % 8) % 256) (get_or-eq_default l 0 {n = i / 8} (omega arith))
    ∙ ap (λ (x : ℕ). (0 * 256 + x) / 2 ^ (8 - i % 8) % 256) (get_or-eq_default l 0 {n = i / 8 + 1} (omega arith))
    ∙ ap (λ (x : ℕ). x % 256) (zero-div (2 ^ (8 - i % 8)))

-- ---------------------------------------------------------------- eight bits of a list and of its number

-- from the first byte, and from a later one
number-here : (x : ℕ) (l : List ℕ) → Bytes l → (i : ℕ) → i < 8 → num (x ∷ l) * 256 / 2 ^ (8 * suc (length l) - i) ≡ (x * 256 + get_or l 0 0) / 2 ^ (8 - i)
unfolding num
number-here x [] h i lt = ap (λ (k : ℕ). k / 2 ^ (8 - i)) (omega arith)
number-here x (y ∷ l) h i lt =
    let r = 8 * length l in
    let z = num l in
    let e : num (x ∷ y ∷ l) ≡ (x * 256 + y) * 2 ^ r + z =
    ap (λ (k : ℕ). x * k + (y * 2 ^ r + z)) (power (8 * suc (length l)) 8 r (omega arith)) ∙ omega (arith, mul_assoc x 256 (2 ^ r), add-mul (x * 256) y (2 ^ r)) in
    ap (λ (k : ℕ). num (x ∷ y ∷ l) * 256 / k) (power (8 * suc (suc (length l)) - i) (r + (8 - i)) 8 (omega arith))
    ∙ mul-div-mul_right (num (x ∷ y ∷ l)) (2 ^ (r + (8 - i))) (omega arith)
    ∙ sym (shr-shr (num (x ∷ y ∷ l)) r (8 - i))
    ∙ ap (λ (k : ℕ). k / 2 ^ r / 2 ^ (8 - i)) e
    ∙ ap (λ (k : ℕ). k / 2 ^ (8 - i)) (high (x * 256 + y) r (num-lt l (λ k. h (suc k))))

number-later : (x : ℕ) (l : List ℕ) (i : ℕ) → i ≤ 8 * length l → num (x ∷ l) * 256 / 2 ^ (8 * length l - i) % 256 ≡ num l * 256 / 2 ^ (8 * length l - i) % 256
unfolding num
number-later x l i le =
    let r = 8 * length l in
    let e : num (x ∷ l) * 256 ≡ x * 2 ^ i * 256 * 2 ^ (r - i) + num l * 256 =
    add-mul (x * 2 ^ r) (num l) 256
    ∙ ap (λ (k : ℕ). x * k * 256 + num l * 256) (power r i (r - i) (omega arith))
    ∙ ap (λ (k : ℕ). k * 256 + num l * 256) (sym (mul_assoc x (2 ^ i) (2 ^ (r - i))))
    ∙ ap (λ (k : ℕ). k + num l * 256) (mul_right_comm (x * 2 ^ i) (2 ^ (r - i)) 256) in
    ap (λ (k : ℕ). k / 2 ^ (r - i) % 256) e
    ∙ ap (λ (k : ℕ). k % 256) (mul-add-div_right (pow_pos (r - i)) (x * 2 ^ i * 256) (num l * 256))
    ∙ mul-add-mod_self_right (x * 2 ^ i) 256 (num l * 256 / 2 ^ (r - i))

bits-here : (x : ℕ) (l : List ℕ) (i : ℕ) → i < 8 → (x * 256 + get_or l 0 0) / 2 ^ (8 - i) % 256 ≡ bits8 (x ∷ l) i
unfolding bits8
bits-here x l i lt =
    let p : 0 ≡ i / 8 = omega arith in
    let q : i ≡ i % 8 = omega arith in
    ap (λ (k : ℕ). (x * 256 + get_or l 0 0) / 2 ^ (8 - k) % 256) q ∙ ap (λ (k : ℕ). (get_or (x ∷ l) k 0 * 256 + get_or (x ∷ l) (k + 1) 0) / 2 ^ (8 - i % 8) % 256) p

bits-later : (x : ℕ) (l : List ℕ) (i : ℕ) → bits8 l i ≡ bits8 (x ∷ l) (8 + i)
unfolding bits8
bits-later x l i =
    let p : suc (i / 8) ≡ (8 + i) / 8 = omega arith in
    let q : i % 8 ≡ (8 + i) % 8 = omega arith in
    let s : suc (i / 8 + 1) ≡ (8 + i) / 8 + 1 = omega arith in
    ap (λ (k : ℕ). pair l i / 2 ^ (8 - k) % 256) q
    ∙ ap (λ (k : ℕ). (get_or (x ∷ l) k 0 * 256 + get_or l (i / 8 + 1) 0) / 2 ^ (8 - (8 + i) % 8) % 256) p
    ∙ ap (λ (k : ℕ). (get_or (x ∷ l) ((8 + i) / 8) 0 * 256 + get_or (x ∷ l) k 0) / 2 ^ (8 - (8 + i) % 8) % 256) s

-- times 256, so that a window may reach past the end
pub window : (l : List ℕ) → Bytes l → (i : ℕ) → i ≤ 8 * length l → num l * 256 / 2 ^ (8 * length l - i) % 256 ≡ bits8 l i
unfolding num bits8
window [] h i le = ap (λ (k : ℕ). k % 256) (zero-div (2 ^ (0 - i))) ∙ sym (ap (λ (k : ℕ). k % 256) (zero-div (2 ^ (8 - i % 8))))
window (x ∷ l) h i le =
    ⊎_elim
    (λ lt. ap (λ (k : ℕ). k % 256) (number-here x l (λ k. h (suc k)) i lt) ∙ bits-here x l i lt)
    (λ ge.
    let e : 8 * suc (length l) - i ≡ 8 * length l - (i - 8) = omega arith in
    let f : 8 + (i - 8) ≡ i = omega arith in
    ap (λ (k : ℕ). num (x ∷ l) * 256 / 2 ^ k % 256) e ∙ number-later x l (i - 8) (omega arith) ∙ window l (λ k. h (suc k)) (i - 8) (omega arith)
    ∙ bits-later x l (i - 8) ∙ ap (bits8 (x ∷ l)) f)
    (lt-or-ge i 8)

-- ---------------------------------------------------------------- one bit at a time

-- a bit of the first of two neighbours, and of the second
in-first : (x y t : ℕ) → y < 256 → (x * 256 + y) / 2 ^ (8 + t) ≡ x / 2 ^ t
in-first x y t h = sym (shr-shr (x * 256 + y) 8 t) ∙ ap (λ (k : ℕ). k / 2 ^ t) (high x 8 h)

in-second : (x y t : ℕ) → t < 8 → y < 256 → (x * 256 + y) / 2 ^ t % 2 ≡ y / 2 ^ t % 2
in-second x y t l h =
    let w = x * 256 + y in
    let e : 8 ≡ 7 - t + (1 + t) = omega arith in
    sym (field w 1 t)
    ∙ ap (λ (k : ℕ). k / 2 ^ t) (sym (mod-mod-pow w (7 - t) (1 + t)) ∙ ap (λ (k : ℕ). w % 2 ^ k % 2 ^ (1 + t)) (sym e) ∙ ap (λ (k : ℕ). k % 2 ^ (1 + t)) (low x 8 h))
    ∙ field y 1 t

bit_in : (l : List ℕ) → Bytes l → (i k : ℕ) → k < 8 → bit_at l (i + k) ≡ pair l i / 2 ^ (16 - 1 - (i % 8 + k)) % 2
unfolding bit_at
bit_in l h i k lt =
    let t = 7 - (i + k) % 8 in
    let x = get_or l (i / 8) 0 in
    let y = get_or l (i / 8 + 1) 0 in
    ⊎_elim
    (λ less.
    let p : (i + k) / 8 ≡ i / 8 = omega arith in
    let q : 16 - 1 - (i % 8 + k) ≡ 8 + t = omega arith in
    ap (λ (n : ℕ). get_or l n 0 / 2 ^ t % 2) p ∙ sym (ap (λ (n : ℕ). pair l i / 2 ^ n % 2) q ∙ ap (λ (n : ℕ). n % 2) (in-first x y t (h (i / 8 + 1)))))
    (λ more.
    let p : (i + k) / 8 ≡ i / 8 + 1 = omega arith in
    let q : 16 - 1 - (i % 8 + k) ≡ t = omega arith in
    ap (λ (n : ℕ). get_or l n 0 / 2 ^ t % 2) p ∙ sym (ap (λ (n : ℕ). pair l i / 2 ^ n % 2) q ∙ in-second x y t (omega arith) (h (i / 8 + 1))))
    (lt-or-ge (i % 8 + k) 8)

more-bits : (n w r k : ℕ) → r + k < n → bits_of n w r k * 2 + w / 2 ^ (n - 1 - (r + k)) % 2 ≡ bits_of n w r (k + 1)
more-bits n w r k h =
    let e : n - r - k ≡ n - 1 - (r + k) + 1 = omega arith in
    let f : n - 1 - (r + k) ≡ n - r - (k + 1) = omega arith in
    ap (λ (i : ℕ). w / 2 ^ i % 2 ^ k * 2 + w / 2 ^ (n - 1 - (r + k)) % 2) e
    ∙ ap (λ (i : ℕ). i % 2 ^ k * 2 + w / 2 ^ (n - 1 - (r + k)) % 2) (sym (shr-shr w (n - 1 - (r + k)) 1))
    ∙ sym (mod-pow-add (w / 2 ^ (n - 1 - (r + k))) k 1)
    ∙ ap (λ (i : ℕ). w / 2 ^ i % 2 ^ (k + 1)) f

-- a loop that takes the eight bits from bit i on, with k of them taken
unfoldable pub taken : List ℕ → ℕ → ℕ → ℕ
taken l i k = bits_of 16 (pair l i) (i % 8) k

pub taken_none : (l : List ℕ) (i : ℕ) → 0 ≡ taken l i 0
unfolding taken
taken_none l i = sym (mod-one (pair l i / 2 ^ (16 - i % 8 - 0)))

pub taken-lt : (l : List ℕ) (i k v : ℕ) → k < 8 → v ≡ taken l i k → v < 128
unfolding taken
taken-lt l i k v h e = rw e (lt_of_lt_of_le (mod-lt (pair l i / 2 ^ (16 - i % 8 - k)) (pow_pos k)) (pow_mono {j = 7} (omega arith)))

pub taken_more : (l : List ℕ) → Bytes l → (i k v b : ℕ) → k < 8 → v ≡ taken l i k → b ≡ bit_at l (i + k) → v * 2 + b ≡ taken l i (k + 1)
unfolding taken
taken_more l h i k v b lt e f =
    ap (λ (n : ℕ). n * 2 + b) e ∙ ap (λ (n : ℕ). taken l i k * 2 + n) (f ∙ bit_in l h i k lt) ∙ more-bits 16 (pair l i) (i % 8) k (omega arith)

pub taken-all : (l : List ℕ) (i k v : ℕ) → k ≤ 8 → 8 ≤ k → v ≡ taken l i k → v ≡ bits8 l i
unfolding bits8 taken
taken-all l i k v h g e =
    let m : k ≡ 8 = omega arith in
    let s : 16 - i % 8 - 8 ≡ 8 - i % 8 = omega arith in
    e ∙ ap (taken l i) m ∙ ap (λ (n : ℕ). pair l i / 2 ^ n % 256) s

-- ---------------------------------------------------------------- the bits of two numbers, one after the other

-- the first a bits of u, then v's first ones, 128 in all
abbrev pub joined : ℕ → ℕ → ℕ → ℕ
joined u a v = front u a * size a + v / 2 ^ a

module _ (u a v t : ℕ) (a128 : a ≤ 128) (lt : v < 2 ^ 128) where
  second_lt : v / 2 ^ a < size a
  second_lt = let e : 128 ≡ 128 - a + a = omega arith in shr_lt (128 - a) a (subst (λ (k : ℕ). v < 2 ^ k) e lt)

  -- what lies in u's bits, in v's, and across the two
  joined-first : 128 - a ≤ t → joined u a v / 2 ^ t ≡ u / 2 ^ t
  joined-first h =
      let r = t - (128 - a) in
      let e : t ≡ 128 - a + r = omega arith in
      ap (λ (k : ℕ). joined u a v / 2 ^ k) e ∙ sym (shr-shr (joined u a v) (128 - a) r) ∙ ap (λ (k : ℕ). k / 2 ^ r) (high (front u a) (128 - a) second_lt)
      ∙ shr-shr u (128 - a) r ∙ ap (λ (k : ℕ). u / 2 ^ k) (sym e)

  joined-second : a + t + 8 ≤ 128 → joined u a v / 2 ^ t % 256 ≡ v / 2 ^ (a + t) % 256
  joined-second h =
      let w = joined u a v in
      let m = 120 - a - t in
      let e : m + 8 + t ≡ 128 - a = omega arith in
      sym (mod-mod-pow (w / 2 ^ t) m 8)
      ∙ ap (λ (k : ℕ). k % 256) (sym (field w (m + 8) t) ∙ ap (λ (k : ℕ). w % 2 ^ k / 2 ^ t) e ∙ ap (λ (k : ℕ). k / 2 ^ t) (low (front u a) (128 - a) second_lt) ∙ shr-shr v a t)

  joined-across : (s : ℕ) → t + s ≡ 128 - a → s ≤ 8 → joined u a v / 2 ^ t % 256 ≡ u / 2 ^ t % 256 / 2 ^ s * 2 ^ s + v / 2 ^ (a + t)
  joined-across s e h =
      let f = front u a in
      let y = v / 2 ^ a / 2 ^ t in
      let g : 128 - a ≡ s + t = omega arith in
      let ylt : y < 2 ^ s = shr_lt s t (subst (λ (k : ℕ). v / 2 ^ a < 2 ^ k) g second_lt) in
      let b : 8 ≡ 8 - s + s = omega arith in
      let w : joined u a v / 2 ^ t ≡ f * 2 ^ s + y =
      ap (λ (k : ℕ). (f * k + v / 2 ^ a) / 2 ^ t) (power (128 - a) s t g)
      ∙ ap (λ (k : ℕ). (k + v / 2 ^ a) / 2 ^ t) (sym (mul_assoc f (2 ^ s) (2 ^ t)))
      ∙ mul-add-div_right (pow_pos t) (f * 2 ^ s) (v / 2 ^ a) in
      let x : u / 2 ^ t % 256 / 2 ^ s ≡ f % 2 ^ (8 - s) =
      ap (λ (k : ℕ). u / 2 ^ t % 2 ^ k / 2 ^ s) b ∙ field (u / 2 ^ t) (8 - s) s ∙ ap (λ (k : ℕ). k % 2 ^ (8 - s)) (shr-shr u t s ∙ ap (λ (k : ℕ). u / 2 ^ k) e) in
      ap (λ (k : ℕ). k % 256) w ∙ ap (λ (k : ℕ). (f * 2 ^ s + y) % 2 ^ k) b ∙ mod-pow-add (f * 2 ^ s + y) (8 - s) s
      ∙ ap (λ (k : ℕ). k % 2 ^ (8 - s) * 2 ^ s + (f * 2 ^ s + y) % 2 ^ s) (high f s ylt)
      ∙ ap (λ (k : ℕ). f % 2 ^ (8 - s) * 2 ^ s + k) (low f s ylt)
      ∙ ap (λ (k : ℕ). k * 2 ^ s + y) (sym x)
      ∙ ap (λ (k : ℕ). u / 2 ^ t % 256 / 2 ^ s * 2 ^ s + k) (shr-shr v a t)

-- byte k of sixteen
digit : (l : List ℕ) → Sixteen l → (k : ℕ) → k < 16 → get_or l k 0 ≡ num l / 2 ^ (8 * (16 - (k + 1))) % 256
digit l s k lt =
    let m : 16 - 1 - k ≡ 16 - (k + 1) = omega arith in
    let b : be 16 (num l) ≡ l = ap (λ (n : ℕ). be n (num l)) (sym s.long) ∙ be-num l s.bytes in
    ap (λ (m : List ℕ). get_or m k 0) (sym b) ∙ be-digit 16 (num l) k lt ∙ ap (λ (n : ℕ). num l / 2 ^ (8 * n) % 256) m

pub sixteen-lt : (l : List ℕ) → Sixteen l → num l < 2 ^ 128
sixteen-lt l s = subst (λ (n : ℕ). num l < 2 ^ (8 * n)) s.long (num-lt l s.bytes)

-- byte k of the first a bits of p, then the bits of d
module _ (p d : List ℕ) (a k : ℕ) (sp : Sixteen p) (sd : Sixteen d) (a128 : a ≤ 128) (k16 : k < 16) where
  pub byte-first : 8 * k + 8 ≤ a → get_or p k 0 ≡ joined (num p) a (num d) / 2 ^ (8 * (16 - (k + 1))) % 256
  byte-first h = digit p sp k k16 ∙ ap (λ (x : ℕ). x % 256) (sym (joined-first (num p) a (num d) (8 * (16 - (k + 1))) a128 (sixteen-lt d sd) (omega arith)))

  pub byte-second : a ≤ 8 * k → bits8 d (8 * k - a) ≡ joined (num p) a (num d) / 2 ^ (8 * (16 - (k + 1))) % 256
  byte-second h =
      let t = 8 * (16 - (k + 1)) in
      let l = sd.long in
      let e : 8 * length d - (8 * k - a) ≡ a + t + 8 = omega arith in
      sym (window d sd.bytes (8 * k - a) (omega arith))
      ∙ ap (λ (x : ℕ). x % 256) (ap (λ (x : ℕ). num d * 256 / x) (power (8 * length d - (8 * k - a)) (a + t) 8 e) ∙ mul-div-mul_right (num d) (2 ^ (a + t)) (omega arith))
      ∙ sym (joined-second (num p) a (num d) t a128 (sixteen-lt d sd) (omega arith))

  pub byte-across : (s : ℕ) → s ≡ 8 * k + 8 - a → 8 * k < a → a < 8 * k + 8
      → get_or p k 0 / 2 ^ s * 2 ^ s % 256 + get_or d 0 0 / 2 ^ (8 - s) ≡ joined (num p) a (num d) / 2 ^ (8 * (16 - (k + 1))) % 256
  byte-across s q h g =
      let t = 8 * (16 - (k + 1)) in
      let x = get_or p k 0 in
      let e : a + t ≡ 120 + (8 - s) = omega arith in
      let m : t + s ≡ 128 - a = omega arith in
      let y : get_or d 0 0 / 2 ^ (8 - s) ≡ num d / 2 ^ (a + t) =
      ap (λ (z : ℕ). z / 2 ^ (8 - s)) (digit d sd 0 (omega arith) ∙ mod-eq_of_lt (shr_lt 8 120 (sixteen-lt d sd)))
      ∙ shr-shr (num d) 120 (8 - s)
      ∙ ap (λ (z : ℕ). num d / 2 ^ z) (sym e) in
      ap (λ (z : ℕ). z + get_or d 0 0 / 2 ^ (8 - s)) (mod-eq_of_lt (omega (arith, sp.bytes k, div-mul-le_self x (2 ^ s))))
      ∙ ap (λ (z : ℕ). x / 2 ^ s * 2 ^ s + z) y
      ∙ ap (λ (z : ℕ). z / 2 ^ s * 2 ^ s + num d / 2 ^ (a + t)) (digit p sp k k16)
      ∙ sym (joined-across (num p) a (num d) t a128 (sixteen-lt d sd) s m (omega arith))

  pub across_lt : (s : ℕ) → s ≡ 8 * k + 8 - a → 8 * k < a → a < 8 * k + 8 → get_or p k 0 / 2 ^ s * 2 ^ s % 256 + get_or d 0 0 / 2 ^ (8 - s) < 256
  across_lt s q h g = rw (byte-across s q h g) (mod-lt (joined (num p) a (num d) / 2 ^ (8 * (16 - (k + 1)))) (lit< tt))
