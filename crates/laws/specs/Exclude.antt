-- Laws of PD Exclude: the bits of an excluded prefix moved to a byte boundary, and back.
--   Content, Encodes   what the tests content_ok and encodable say, and back
--   packed_bytes        what follows the excluded length
--   unpack-pack, pack-unpack   numbers there and back
--   last64-encodable   the last /64 of a delegation has an encoding
--   packed-content, unpacked-packed      what is packed is content, and unpacks to the prefix
--   packed-unpacked, unpacked-encodable  what is content unpacks to a prefix that packs to it
--   unpacked-num       sixteen bytes write it
--   left-packed, none-packed, pad-test, left-unpacked   what the code does, a byte a turn
use Rattle.std.specs.Prelude.{◌≡◌, refl, true, ◌&&◌, ℕ, zero, suc, ◌+◌, ◌-◌, ◌*◌, ◌/◌, ◌%◌, ◌^◌, ◌≤◌, ◌<◌, length, get_or, drop, replicate, eqb, leb, ltb}
use Rattle.std.proofs.Math.Path.{ap, sym, subst}
use Rattle.std.proofs.Common.{◌∙◌, arith, add-mul, mul_assoc, mod-lt, mod-eq_of_lt, le_of_lt, length-drop, drop_of_length-le, pow_pos, pow-add, shl_lt}
use mathlib.Core.List.{List, [], ◌∷◌, ◌++◌}
use Rattle.std.proofs.Math.Nat.{mul-mod_left, mul-div-mul_right, mul-add-mod_self_right}
use Rattle.std.proofs.Math.Arith.{digits_lt}
use Rattle.std.proofs.Math.Pow.{shr_lt, split, high, low, high_ones, pow-sub-lt, mod-pow-add, mod-mod-pow, field}
use Rattle.std.proofs.lemmas.Nat.{shl-shr}
use borrow.Author.Tests.{eq-eqb, eqb-true, leb-true, ltb-true, lt-ltb, le-leb}
use Rattle.rules.specs.Words.{splice, num, be}
use Rattle.rules.specs.Prefix.{Prefix, prefix, size, front, zero_after, bytes_for, pad, packed, unpacked, exclude_bytes, encodable, content_ok, last64}
use Rattle.laws.specs.Tests.{both, both-made}
use Rattle.laws.specs.Numbers.{Bytes, num-lt, num-be-fits, be-num, be-digit, length-be}
use Rattle.laws.specs.Parts.{left-list, left-bytes}
use Rattle.laws.specs.Bits.{bits8, joined, Sixteen, power, shift_back, num-append, num-zeros, window}

-- ---------------------------------------------------------------- what the tests say

pub record Content (a b : ℕ) (c : List ℕ) : Type 0 where
  pub more : a < b
  pub most : b ≤ 128
  pub whole : length c ≡ bytes_for a b
  pub clear : num c % 2 ^ pad a b ≡ 0

pub content : (a b : ℕ) (c : List ℕ) → content_ok a b c ≡ true → Content a b c
unfolding content_ok
content a b c h =
    let p = both (ltb a b && leb b 128 && eqb (length c) (bytes_for a b)) (eqb (num c % 2 ^ pad a b) 0) h in
    let q = both (ltb a b && leb b 128) (eqb (length c) (bytes_for a b)) p.0 in
    let r = both (ltb a b) (leb b 128) q.0 in
    record { more = ltb-true a b r.0; most = leb-true b 128 r.1; whole = eqb-true (length c) (bytes_for a b) q.1; clear = eqb-true (num c % 2 ^ pad a b) 0 p.1 }

pub content-made : (a b : ℕ) (c : List ℕ) → Content a b c → content_ok a b c ≡ true
unfolding content_ok
content-made a b c h =
    both-made (both-made (both-made (lt-ltb a b h.more) (le-leb b 128 h.most)) (eq-eqb (length c) (bytes_for a b) h.whole)) (eq-eqb (num c % 2 ^ pad a b) 0 h.clear)

pub record Encodes (p e : Prefix) : Type 0 where
  pub more : p.length < e.length
  pub most : e.length ≤ 128
  pub same : front e.bits p.length ≡ front p.bits p.length
  pub clear : zero_after e ≡ true

pub encodes : (p e : Prefix) → encodable p e ≡ true → Encodes p e
unfolding encodable
encodes p e h =
    let s = both (ltb p.length e.length && leb e.length 128 && eqb (front e.bits p.length) (front p.bits p.length)) (zero_after e) h in
    let q = both (ltb p.length e.length && leb e.length 128) (eqb (front e.bits p.length) (front p.bits p.length)) s.0 in
    let r = both (ltb p.length e.length) (leb e.length 128) q.0 in
    record { more = ltb-true p.length e.length r.0; most = leb-true e.length 128 r.1; same = eqb-true _ _ q.1; clear = s.1 }

pub encodes-made : (p e : Prefix) → Encodes p e → encodable p e ≡ true
unfolding encodable
encodes-made p e h =
    both-made (both-made (both-made (lt-ltb _ _ h.more) (le-leb _ _ h.most)) (eq-eqb _ _ h.same)) h.clear

-- ---------------------------------------------------------------- the packed number

-- b - a bits and their padding fill the bytes
pub pad-fills : (a b : ℕ) → b - a + pad a b ≡ 8 * bytes_for a b
pad-fills a b = omega arith

pub pad-lt : (a b : ℕ) → pad a b < 8
pad-lt a b = omega arith

-- what follows the excluded length
abbrev pub packed_bytes : ℕ → Prefix → List ℕ
packed_bytes a e = be (bytes_for a e.length) (packed a e)

module _ (a : ℕ) (e : Prefix) where
  pub packed_lt : packed a e < 2 ^ (8 * bytes_for a e.length)
  unfolding packed
  packed_lt =
      let b = e.length in
      subst (λ (k : ℕ). packed a e < 2 ^ k) (pad-fills a b) (shl_lt (b - a) (pad a b) (mod-lt (front e.bits b) (pow_pos (b - a))))

  pub num-packed : num (packed_bytes a e) ≡ packed a e
  num-packed = num-be-fits (bytes_for a e.length) (packed a e) packed_lt

  pub packed-pad : packed a e % 2 ^ pad a e.length ≡ 0
  unfolding packed
  packed-pad = mul-mod_left (front e.bits e.length % 2 ^ (e.length - a)) (2 ^ pad a e.length)

-- ---------------------------------------------------------------- packed, then unpacked

-- the bits after a are those up to b, and those after b
rest-split : (v a b : ℕ) → a ≤ b → b ≤ 128 → v % size a ≡ front v b % 2 ^ (b - a) * size b + v % size b
rest-split v a b h l = ap (λ (k : ℕ). v % 2 ^ k) (omega arith) ∙ mod-pow-add v (b - a) (128 - b)

pub unpack-pack : (p e : Prefix) → p.length ≤ e.length → e.length ≤ 128 → front e.bits p.length ≡ front p.bits p.length → e.bits % size e.length ≡ 0
    → unpacked p e.length (packed p.length e) ≡ e
unfolding unpacked packed
unpack-pack p e ab b128 same rest =
    let a = p.length in
    let b = e.length in
    let v = e.bits in
    let n : front p.bits a * size a + front v b % 2 ^ (b - a) * 2 ^ pad a b / 2 ^ pad a b * size b ≡ v =
    ap (λ (k : ℕ). front p.bits a * size a + k * size b) (shl-shr (front v b % 2 ^ (b - a)) (pad a b))
    ∙ ap (λ (k : ℕ). k * size a + front v b % 2 ^ (b - a) * size b) (sym same)
    ∙ omega (arith, rest-split v a b ab b128, split v (128 - a)) in
    ap (λ (k : ℕ). prefix k b) n

-- ---------------------------------------------------------------- unpacked, then packed

module _ (p : Prefix) (b c : ℕ) (ab : p.length ≤ b) (b128 : b ≤ 128) (few : c < 2 ^ (8 * bytes_for p.length b)) where
  -- the content's bits without the padding, and in their place
  content-lt : c / 2 ^ pad p.length b < 2 ^ (b - p.length)
  content-lt = shr_lt (b - p.length) (pad p.length b) (subst (λ (k : ℕ). c < 2 ^ k) (sym (pad-fills p.length b)) few)

  pub rest_lt : c / 2 ^ pad p.length b * size b < size p.length
  rest_lt = subst (λ (k : ℕ). c / 2 ^ pad p.length b * size b < 2 ^ k) (omega arith) (shl_lt (b - p.length) (128 - b) content-lt)

  -- the bits after b are zero, so it is a number moved up by them
  unpacked-up : (unpacked p b c).bits ≡ (front p.bits p.length * 2 ^ (b - p.length) + c / 2 ^ pad p.length b) * size b
  unfolding unpacked
  unpacked-up =
      let a = p.length in
      let f = front p.bits a in
      let x = c / 2 ^ pad a b in
      ap (λ (k : ℕ). f * k + x * size b) (power (128 - a) (b - a) (128 - b) (omega arith))
      ∙ ap (λ (k : ℕ). k + x * size b) (sym (mul_assoc f (2 ^ (b - a)) (size b)))
      ∙ sym (add-mul (f * 2 ^ (b - a)) x (size b))

  pub pack-unpack : c % 2 ^ pad p.length b ≡ 0 → packed p.length (unpacked p b c) ≡ c
  unfolding packed unpacked
  pack-unpack clear =
      let a = p.length in
      ap (λ (k : ℕ). k / size b % 2 ^ (b - a) * 2 ^ pad a b) unpacked-up
      ∙ ap (λ (k : ℕ). k % 2 ^ (b - a) * 2 ^ pad a b) (shl-shr (front p.bits a * 2 ^ (b - a) + c / 2 ^ pad a b) (128 - b))
      ∙ ap (λ (k : ℕ). k * 2 ^ pad a b) (low (front p.bits a) (b - a) content-lt)
      ∙ omega (arith, split c (pad a b))

  pub unpacked-clear : (unpacked p b c).bits % size b ≡ 0
  unpacked-clear = ap (λ (k : ℕ). k % size b) unpacked-up ∙ mul-mod_left (front p.bits p.length * 2 ^ (b - p.length) + c / 2 ^ pad p.length b) (size b)

  pub unpacked-same : front (unpacked p b c).bits p.length ≡ front p.bits p.length
  unfolding unpacked
  unpacked-same = high (front p.bits p.length) (128 - p.length) rest_lt

  -- so what is unpacked has an encoding
  pub number-encodable : p.length < b → encodable p (unpacked p b c) ≡ true
  unfolding unpacked
  number-encodable l = encodes-made p (unpacked p b c) (record { more = l; most = b128; same = unpacked-same; clear = eq-eqb _ _ unpacked-clear })

  pub unpacked-lt : p.bits < 2 ^ 128 → (unpacked p b c).bits < 2 ^ 128
  unfolding unpacked
  unpacked-lt h =
      let e : 2 ^ 128 ≡ 2 ^ p.length * size p.length = power 128 p.length (128 - p.length) (omega arith) in
      let f : front p.bits p.length < 2 ^ p.length = shr_lt p.length (128 - p.length) (subst (λ (k : ℕ). p.bits < k) (e ∙ sym (pow-add 2 p.length (128 - p.length))) h) in
      subst (λ (k : ℕ). front p.bits p.length * size p.length + c / 2 ^ pad p.length b * size b < k) (sym e) (digits_lt f rest_lt)

-- ---------------------------------------------------------------- the last /64

pub last64-encodable : (p : Prefix) → p.length < 64 → zero_after p ≡ true → encodable p (last64 p) ≡ true
unfolding last64
last64-encodable p short clear =
    let a = p.length in
    let q = front p.bits a in
    let k = 2 ^ (64 - a) in
    let e : 128 - a ≡ 64 - a + 64 = omega arith in
    let f : size a ≡ k * size 64 = ap (λ (i : ℕ). 2 ^ i) e ∙ pow-add 2 (64 - a) 64 in
    let z : p.bits % size a ≡ 0 = eqb-true _ _ clear in
    let w : q * size a ≡ p.bits = omega (arith, split p.bits (128 - a)) in
    let g : size a - size 64 ≡ (k - 1) * size 64 = ap (λ (i : ℕ). 2 ^ i - size 64) e ∙ high_ones (64 - a) 64 in
    let h : p.bits + (size a - size 64) ≡ (q * k + (k - 1)) * size 64 =
    ap (λ (i : ℕ). p.bits + i) g ∙ ap (λ (i : ℕ). i + (k - 1) * size 64) (sym w ∙ ap (λ (i : ℕ). q * i) f ∙ sym (mul_assoc q k (size 64)))
    ∙ sym (add-mul (q * k) (k - 1) (size 64)) in
    encodes-made _ _ record {
      more = short;
      most = omega arith;
      same = ap (λ (i : ℕ). (i + (size a - size 64)) / size a) (sym w) ∙ high q (128 - a) (pow-sub-lt (128 - a) (pow_pos 64));
      clear = eq-eqb _ _ (ap (λ (i : ℕ). i % size 64) h ∙ mul-mod_left (q * k + (k - 1)) (size 64));
    }

-- ---------------------------------------------------------------- round trips

-- what is packed is content, and unpacks to the excluded prefix
module _ (p e : Prefix) (h : encodable p e ≡ true) where
  pub packed-content : content_ok p.length e.length (packed_bytes p.length e) ≡ true
  packed-content =
      let s = encodes p e h in
      content-made p.length e.length (packed_bytes p.length e)
      (record { more = s.more; most = s.most; whole = length-be _ _; clear = rw (num-packed p.length e) (packed-pad p.length e) })

  pub unpacked-packed : unpacked p e.length (num (packed_bytes p.length e)) ≡ e
  unpacked-packed =
      let s = encodes p e h in
      rw (num-packed p.length e) (unpack-pack p e (le_of_lt s.more) s.most s.same (eqb-true _ _ s.clear))

-- and content unpacks to the one prefix that packs to it
module _ (p : Prefix) (b : ℕ) (c : List ℕ) (y : Bytes c) (h : content_ok p.length b c ≡ true) where
  content-few : num c < 2 ^ (8 * bytes_for p.length b)
  content-few = let s = content p.length b c h in subst (λ (k : ℕ). num c < 2 ^ (8 * k)) s.whole (num-lt c y)

  pub packed-unpacked : exclude_bytes p.length (unpacked p b (num c)) ≡ b ∷ c
  unfolding exclude_bytes unpacked
  packed-unpacked =
      let s = content p.length b c h in
      ap (λ (x : ℕ). b ∷ be (bytes_for p.length b) x) (pack-unpack p b (num c) (le_of_lt s.more) s.most content-few s.clear)
      ∙ ap (λ (n : ℕ). b ∷ be n (num c)) (sym s.whole)
      ∙ ap (λ (l : List ℕ). b ∷ l) (be-num c y)

  pub unpacked-encodable : encodable p (unpacked p b (num c)) ≡ true
  unfolding unpacked
  unpacked-encodable =
      let s = content p.length b c h in
      encodes-made p (unpacked p b (num c)) (record {
        more = s.more;
        most = s.most;
        same = unpacked-same p b (num c) (le_of_lt s.more) s.most content-few;
        clear = eq-eqb _ _ (unpacked-clear p b (num c) (le_of_lt s.more) s.most content-few);
      })

  -- its sixteen bytes write it
  pub unpacked-num : p.bits < 2 ^ 128 → num (be 16 (unpacked p b (num c)).bits) ≡ (unpacked p b (num c)).bits
  unpacked-num l =
      let s = content p.length b c h in
      num-be-fits 16 (unpacked p b (num c)).bits (unpacked-lt p b (num c) (le_of_lt s.more) s.most content-few l)

-- ---------------------------------------------------------------- packing, byte by byte

-- sums of places, each with as few differences as it needs
place_byte : (n j : ℕ) → j < n → 8 * n ≡ 8 * j + 8 + 8 * (n - 1 - j)
place_byte n j h = omega arith

place-pad : (b p : ℕ) → b ≤ 128 → p < 8 → 128 - b + 8 ≡ p + (136 - b - p)
place-pad b p h l = omega arith

place-window : (a b p n j : ℕ) → a ≤ b → b ≤ 128 → p < 8 → b - a + p ≡ 8 * n → j < n → 128 - (a + 8 * j) ≡ 8 * (n - 1 - j) + (136 - b - p)
place-window a b p n j h l k e lt = omega arith

module _ (v a b : ℕ) (ab : a ≤ b) (b128 : b ≤ 128) (clear : v % size b ≡ 0) where
  packed-is : packed a (prefix v b) ≡ front v b * 2 ^ pad a b % 2 ^ (8 * bytes_for a b)
  unfolding packed
  packed-is =
      let w = front v b in
      let p = pad a b in
      sym
      (ap (λ (k : ℕ). w * 2 ^ p % 2 ^ k) (sym (pad-fills a b)) ∙ mod-pow-add (w * 2 ^ p) (b - a) p
      ∙ ap (λ (k : ℕ). k % 2 ^ (b - a) * 2 ^ p + w * 2 ^ p % 2 ^ p) (shl-shr w p)
      ∙ omega (arith, mul-mod_left w (2 ^ p)))

  packed_byte : (j : ℕ) → j < bytes_for a b → get_or (packed_bytes a (prefix v b)) j 0 ≡ v * 256 / 2 ^ (128 - (a + 8 * j)) % 256
  packed_byte j lt =
      let w = front v b in
      let p = pad a b in
      let n = bytes_for a b in
      let s = 8 * (n - 1 - j) in
      let x = w * 2 ^ p in
      let e = 136 - b - p in
      let ve : w * size b ≡ v = omega (arith, split v (128 - b)) in
      let y : x * 2 ^ e ≡ v * 256 =
      mul_assoc w (2 ^ p) (2 ^ e)
      ∙ ap (λ (k : ℕ). w * k) (sym (power (128 - b + 8) p e (place-pad b p b128 (pad-lt a b))) ∙ pow-add 2 (128 - b) 8)
      ∙ sym (mul_assoc w (size b) 256)
      ∙ ap (λ (k : ℕ). k * 256) ve in
      be-digit n (packed a (prefix v b)) j lt
      ∙ ap (λ (k : ℕ). k / 2 ^ s % 256) (packed-is ∙ ap (λ (k : ℕ). x % 2 ^ k) (place_byte n j lt))
      ∙ ap (λ (k : ℕ). k % 256) (field x (8 * j + 8) s)
      ∙ mod-mod-pow (x / 2 ^ s) (8 * j) 8
      ∙ ap (λ (k : ℕ). k % 256) (sym (mul-div-mul_right x (2 ^ s) (pow_pos e)))
      ∙ ap (λ (k : ℕ). k / (2 ^ s * 2 ^ e) % 256) y
      ∙ ap (λ (k : ℕ). v * 256 / k % 256) (sym (power (128 - (a + 8 * j)) s e (place-window a b p n j ab b128 (pad-lt a b) (pad-fills a b) lt)))

-- a loop that packs sixteen bytes q: the byte it stores, and what is left
module _ (q : List ℕ) (a b : ℕ) (s : Sixteen q) (ab : a ≤ b) (b128 : b ≤ 128) (clear : zero_after (prefix (num q) b) ≡ true) where
  pub packed-window : (j : ℕ) → j < bytes_for a b → get_or (packed_bytes a (prefix (num q) b)) j 0 ≡ bits8 q (a + 8 * j)
  packed-window j lt =
      let l = s.long in
      let e : 128 ≡ 8 * length q = omega arith in
      packed_byte (num q) a b ab b128 (eqb-true (num q % size b) 0 clear) j lt ∙ ap (λ (k : ℕ). num q * 256 / 2 ^ (k - (a + 8 * j)) % 256) e ∙ window q s.bytes (a + 8 * j) (omega arith)

  pub left-packed : (j x : ℕ) → j < bytes_for a b → x ≡ bits8 q (a + 8 * j) → drop j (packed_bytes a (prefix (num q) b)) ≡ x ∷ drop (j + 1) (packed_bytes a (prefix (num q) b))
  left-packed j x lt e =
      let c = packed_bytes a (prefix (num q) b) in
      let n : length c ≡ bytes_for a b = length-be (bytes_for a b) (packed a (prefix (num q) b)) in
      left-list c j (omega arith) ∙ ap (λ (y : ℕ). y ∷ drop (j + 1) c) (packed-window j lt ∙ sym e)

pub none-packed : (a : ℕ) (e : Prefix) (j : ℕ) → bytes_for a e.length ≤ j → drop j (packed_bytes a e) ≡ []
none-packed a e j h = drop_of_length-le (packed_bytes a e) {i = j} (rw (length-be (bytes_for a e.length) (packed a e)) h)

-- ---------------------------------------------------------------- padding

-- the last byte of a number, and so its padding
num-last : (l : List ℕ) → Bytes l → 0 < length l → num l % 256 ≡ get_or l (length l - 1) 0
unfolding num
num-last [] h lt = absurd (omega arith)
num-last (x ∷ []) h lt = ap (λ (k : ℕ). k % 256) (omega arith) ∙ mod-eq_of_lt (h 0)
num-last (x ∷ y ∷ l) h lt =
    let e : 8 * suc (length l) ≡ 8 * length l + 8 = omega arith in
    let f : suc (suc (length l) - 1) ≡ suc (suc (length l)) - 1 = omega arith in
    ap (λ (k : ℕ). (x * k + num (y ∷ l)) % 256) (power (8 * suc (length l)) (8 * length l) 8 e)
    ∙ ap (λ (k : ℕ). (k + num (y ∷ l)) % 256) (sym (mul_assoc x (2 ^ (8 * length l)) 256))
    ∙ mul-add-mod_self_right (x * 2 ^ (8 * length l)) 256 (num (y ∷ l))
    ∙ num-last (y ∷ l) (λ k. h (suc k)) (omega arith)
    ∙ ap (λ (k : ℕ). get_or (x ∷ y ∷ l) k 0) f

num-low : (l : List ℕ) → Bytes l → 0 < length l → (k : ℕ) → k ≤ 8 → num l % 2 ^ k ≡ get_or l (length l - 1) 0 % 2 ^ k
num-low l h lt k le =
    let e : 8 - k + k ≡ 8 = omega arith in
    sym (mod-mod-pow (num l) (8 - k) k) ∙ ap (λ (n : ℕ). num l % 2 ^ n % 2 ^ k) e ∙ ap (λ (n : ℕ). n % 2 ^ k) (num-last l h lt)

-- shifting the last byte there and back leaves it exactly where the padding is zero
pub pad-test : (l : List ℕ) → Bytes l → (a b : ℕ) → a < b → b ≤ 128 → length l ≡ bytes_for a b
    → eqb (get_or l (bytes_for a b - 1) 0 / 2 ^ pad a b * 2 ^ pad a b % 256) (get_or l (bytes_for a b - 1) 0) ≡ content_ok a b l
unfolding content_ok
pad-test l h a b more most e =
    let n = bytes_for a b in
    let k = pad a b in
    let r : num l % 2 ^ k ≡ get_or l (n - 1) 0 % 2 ^ k = num-low l h (omega arith) k (le_of_lt (pad-lt a b)) ∙ ap (λ (i : ℕ). get_or l (i - 1) 0 % 2 ^ k) e in
    rw (lt-ltb a b more, le-leb b 128 most, eq-eqb (length l) n e) (shift_back (get_or l (n - 1) 0) 8 k (h (n - 1)) ∙ ap (λ (i : ℕ). eqb i 0) (sym r))

-- ---------------------------------------------------------------- unpacking, byte by byte

zeros-left : (n k : ℕ) → num (drop n (replicate k 0)) ≡ 0
unfolding num
zeros-left zero k = num-zeros k
zeros-left (suc n) zero = refl
zeros-left (suc n) (suc k) = zeros-left n k

place-content : (a b p n : ℕ) → a ≤ b → b ≤ 128 → b - a + p ≡ 8 * n → p < 8 → p + 8 * (16 - n) ≡ 128 - b + a
place-content a b p n h l e k = omega arith

-- sixteen bytes that begin with the content are p's other bits
pub unpacked-joined : (u a b : ℕ) (c : List ℕ) → content_ok a b c ≡ true → (unpacked (prefix u a) b (num c)).bits ≡ joined u a (num (splice 0 c (replicate 16 0)))
unfolding unpacked splice
unpacked-joined u a b c h =
    let s = content a b c h in
    let p = pad a b in
    let n = bytes_for a b in
    let x = num c / 2 ^ p in
    let z : List ℕ = drop (0 + length c) (replicate 16 0) in
    let l : length z ≡ 16 - n = length-drop {A = ℕ} (0 + length c) (replicate 16 0) ∙ omega (arith, s.whole) in
    let m : num c ≡ x * 2 ^ p = omega (arith, split (num c) p, s.clear) in
    let d : num (c ++ z) ≡ x * size b * 2 ^ a =
    num-append c z
    ∙ omega (arith, zeros-left (0 + length c) 16)
    ∙ ap (λ (k : ℕ). num c * 2 ^ (8 * k)) l
    ∙ ap (λ (k : ℕ). k * 2 ^ (8 * (16 - n))) m
    ∙ mul_assoc x (2 ^ p) (2 ^ (8 * (16 - n)))
    ∙ ap (λ (k : ℕ). x * k) (sym (pow-add 2 p (8 * (16 - n))) ∙ power (p + 8 * (16 - n)) (128 - b) a (place-content a b p n (le_of_lt s.more) s.most (pad-fills a b) (pad-lt a b)))
    ∙ sym (mul_assoc x (size b) (2 ^ a)) in
    ap (λ (k : ℕ). front u a * size a + k) (sym (ap (λ (k : ℕ). k / 2 ^ a) d ∙ shl-shr (x * size b) a))

-- a loop that unpacks: the byte it stores, and what is left
pub left-unpacked : (u a b k x : ℕ) (c d : List ℕ) → content_ok a b c ≡ true → k < 16 → d ≡ splice 0 c (replicate 16 0) → x ≡ joined u a (num d) / 2 ^ (8 * (16 - (k + 1))) % 256
    → be (16 - k) (unpacked (prefix u a) b (num c)).bits ≡ x ∷ be (16 - (k + 1)) (unpacked (prefix u a) b (num c)).bits
left-unpacked u a b k x c d h lt e f =
    let v = (unpacked (prefix u a) b (num c)).bits in
    let j : v ≡ joined u a (num d) = unpacked-joined u a b c h ∙ ap (λ (l : List ℕ). joined u a (num l)) (sym e) in
    left-bytes 16 k v lt ∙ ap (λ (y : ℕ). y ∷ be (16 - (k + 1)) v) (ap (λ (y : ℕ). y / 2 ^ (8 * (16 - (k + 1))) % 256) j ∙ sym f)
