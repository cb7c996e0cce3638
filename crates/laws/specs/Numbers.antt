-- Laws of numbers in bytes, over the number of bytes.
use Rattle.std.specs.Prelude.{◌≡◌, refl, ℕ, zero, suc, ◌+◌, ◌-◌, ◌*◌, ◌/◌, ◌%◌, ◌^◌, ◌≤◌, ◌<◌, List, [], ◌∷◌, take, drop}
use Rattle.std.proofs.Math.Path.{ap, sym}
use Rattle.std.proofs.Common.{◌∙◌, subst, add-zero, zero-mul, mul_comm, lt_of_lt_of_le, mod-eq_of_lt, mod-lt, get_or-drop, pow_pos, pow-add, pow_mono, lit<}
use native.Mathlib.Omega.{arith}
use Rattle.std.proofs.Math.Nat.{sub-zero, add-mul, mul_assoc, mul-add-div_right, mul-add-mod_self_right}
use Rattle.std.proofs.Math.ListN.{length, get_or}
use Rattle.std.proofs.Math.Pow.{high}
use Rattle.std.proofs.lemmas.Nat.{mod-pow-add}
use Rattle.std.proofs.Math.Arith.{digits_lt}
use Rattle.rules.specs.Words.{part, num, be, num_at}
use Rattle.laws.specs.Parts.{length_part, left-part}

-- bytes are below 256
abbrev pub Bytes : List ℕ → Type 0
Bytes l = (i : ℕ) → get_or l i 0 < 256

pub bytes_drop : (n : ℕ) (l : List ℕ) → Bytes l → Bytes (drop n l)
bytes_drop n l h i = rw get_or-drop (h (n + i))

pub bytes_take : (n : ℕ) (l : List ℕ) → Bytes l → Bytes (take n l)
bytes_take zero l h i = lit< tt
bytes_take (suc n) [] h i = lit< tt
bytes_take (suc n) (x ∷ l) h zero = h 0
bytes_take (suc n) (x ∷ l) h (suc i) = bytes_take n l (λ j. h (suc j)) i

pub bytes-part : (i n : ℕ) (l : List ℕ) → Bytes l → Bytes (part i n l)
unfolding part
bytes-part i n l h = bytes_take n (drop i l) (bytes_drop i l h)

pub length-be : (n x : ℕ) → length (be n x) ≡ n
unfolding be
length-be zero x = refl
length-be (suc n) x = ap suc (length-be n x)

pub be-digit : (n x j : ℕ) → j < n → get_or (be n x) j 0 ≡ x / 2 ^ (8 * (n - 1 - j)) % 256
unfolding be
be-digit zero x j h = absurd (omega arith)
be-digit (suc n) x zero h = ap (λ (k : ℕ). x / 2 ^ (8 * k) % 256) (omega arith)
be-digit (suc n) x (suc j) h = be-digit n x j (omega arith) ∙ ap (λ (k : ℕ). x / 2 ^ (8 * k) % 256) (omega arith)

pub num-be : (n x : ℕ) → num (be n x) ≡ x % 2 ^ (8 * n)
unfolding be num
num-be zero x = omega arith
num-be (suc n) x =
    ap (λ (k : ℕ). x / 2 ^ (8 * n) % 256 * 2 ^ (8 * k) + num (be n x)) (length-be n x)
    ∙ ap (λ (k : ℕ). x / 2 ^ (8 * n) % 256 * 2 ^ (8 * n) + k) (num-be n x)
    ∙ sym (mod-pow-add x 8 (8 * n)) ∙ ap (λ (k : ℕ). x % 2 ^ k) (omega arith)

pub num-lt : (l : List ℕ) → Bytes l → num l < 2 ^ (8 * length l)
unfolding num
num-lt [] h = omega arith
num-lt (x ∷ l) h =
    subst (λ (k : ℕ). num (x ∷ l) < k) (sym (pow-add 2 8 (8 * length l)) ∙ ap (λ (k : ℕ). 2 ^ k) (omega arith)) (digits_lt (h 0) (num-lt l (λ i. h (suc i))))

-- what is in front does not change the last bytes
be-low : (n k y z : ℕ) → n ≤ k → be n (y * 2 ^ (8 * k) + z) ≡ be n z
unfolding be
be-low zero k y z h = refl
be-low (suc n) k y z h =
    let e : 2 ^ (8 * k) ≡ 2 ^ (8 * (k - suc n)) * 256 * 2 ^ (8 * n) =
    ap (λ (i : ℕ). 2 ^ i) (omega arith) ∙ pow-add 2 (8 * (k - suc n) + 8) (8 * n) ∙ ap (λ (i : ℕ). i * 2 ^ (8 * n)) (pow-add 2 (8 * (k - suc n)) 8) in
    let f : (y * 2 ^ (8 * k) + z) / 2 ^ (8 * n) % 256 ≡ z / 2 ^ (8 * n) % 256 =
    ap (λ (i : ℕ). (i + z) / 2 ^ (8 * n) % 256) (ap (λ (i : ℕ). y * i) e ∙ sym (mul_assoc y (2 ^ (8 * (k - suc n)) * 256) (2 ^ (8 * n))))
    ∙ ap (λ (i : ℕ). i % 256) (mul-add-div_right (pow_pos (8 * n)) (y * (2 ^ (8 * (k - suc n)) * 256)) z)
    ∙ ap (λ (i : ℕ). (i + z / 2 ^ (8 * n)) % 256) (sym (mul_assoc y (2 ^ (8 * (k - suc n))) 256))
    ∙ mul-add-mod_self_right (y * 2 ^ (8 * (k - suc n))) 256 (z / 2 ^ (8 * n)) in
    ap (λ (d : ℕ). d ∷ be n (y * 2 ^ (8 * k) + z)) f ∙ ap (λ (t : List ℕ). z / 2 ^ (8 * n) % 256 ∷ t) (be-low n k y z (omega arith))

pub be-num : (l : List ℕ) → Bytes l → be (length l) (num l) ≡ l
unfolding be num
be-num [] h = refl
be-num (x ∷ l) h =
    let lt = num-lt l (λ i. h (suc i)) in
    ap (λ (d : ℕ). d % 256 ∷ be (length l) (num (x ∷ l))) (high x (8 * length l) lt)
    ∙ ap (λ (d : ℕ). d ∷ be (length l) (num (x ∷ l))) (mod-eq_of_lt (h 0))
    ∙ ap (λ (t : List ℕ). x ∷ t) (be-low (length l) (length l) x (num l) (omega arith) ∙ be-num l (λ i. h (suc i)))

-- a number that is read fits its bytes, and of bytes the remainder changes nothing
pub num_at-fits : (m : List ℕ) (at n : ℕ) → num_at m at n < 2 ^ (8 * n)
num_at-fits m at n = mod-lt (num (part at n m)) (pow_pos (8 * n))

pub num_at-is : (m : List ℕ) (at n : ℕ) → Bytes m → at + n ≤ length m → num_at m at n ≡ num (part at n m)
num_at-is m at n b h =
    let e : length (part at n m) ≡ n = length_part at n m h in
    mod-eq_of_lt (subst (λ (k : ℕ). num (part at n m) < 2 ^ (8 * k)) e (num-lt (part at n m) (bytes-part at n m b)))

-- what fits is read back
pub num-be-fits : (n x : ℕ) → x < 2 ^ (8 * n) → num (be n x) ≡ x
num-be-fits n x h = num-be n x ∙ mod-eq_of_lt h

-- ---------------------------------------------------------------- a loop that reads a number, one byte a turn

module _ (t : List ℕ) (at n k v : ℕ) where
  -- what is read so far, moved up, with what is left to read
  abbrev pub reading : ℕ
  reading = v * 2 ^ (8 * (n - k)) + num (part (at + k) (n - k) t)

pub read-start : (t : List ℕ) (at n : ℕ) → reading t at n 0 0 ≡ num (part at n t)
read-start t at n = rw (add-zero, sub-zero) (omega (arith, zero-mul (2 ^ (8 * n))))

pub read_small : (n k v : ℕ) → k < n → n ≤ 8 → v < 2 ^ (8 * k) → v < 2 ^ 56
read_small n k v h m l = lt_of_lt_of_le l (pow_mono {j = 56} (omega arith))

pub read-lt : (k v b : ℕ) → b < 256 → v < 2 ^ (8 * k) → v * 256 + b < 2 ^ (8 * (k + 1))
read-lt k v b d l =
    let e : 8 * (k + 1) ≡ 8 * k + 8 = omega arith in
    let p : 2 ^ (8 * (k + 1)) ≡ 2 ^ (8 * k) * 256 = ap (λ (i : ℕ). 2 ^ i) e ∙ pow-add 2 (8 * k) 8 in
    omega arith

module _ (t : List ℕ) (at n k v : ℕ) (h : k < n) where
  pub read-turn : {b r : ℕ} → at + n ≤ length t → b ≡ get_or t (at + k) 0 → reading t at n k v ≡ r → reading t at n (k + 1) (v * 256 + b) ≡ r
  unfolding num
  read-turn {b} f g e =
      let x = get_or t (at + k) 0 in
      let w = n - (k + 1) in
      let q : 2 ^ (8 * w) * 256 ≡ 2 ^ (8 * (n - k)) = sym (pow-add 2 (8 * w) 8) ∙ ap (λ (i : ℕ). 2 ^ i) (omega arith) in
      let l : length (part (at + (k + 1)) w t) ≡ w = length_part (at + (k + 1)) w t (omega arith) in
      let s : (v * 256 + b) * 2 ^ (8 * w) ≡ v * 256 * 2 ^ (8 * w) + x * 2 ^ (8 * w) =
      add-mul (v * 256) b (2 ^ (8 * w)) ∙ ap (λ (i : ℕ). v * 256 * 2 ^ (8 * w) + i * 2 ^ (8 * w)) g in
      let m : v * 256 * 2 ^ (8 * w) ≡ v * 2 ^ (8 * (n - k)) = mul_assoc v 256 (2 ^ (8 * w)) ∙ ap (λ (i : ℕ). v * i) (mul_comm 256 (2 ^ (8 * w)) ∙ q) in
      let c : num (part (at + k) (n - k) t) ≡ x * 2 ^ (8 * w) + num (part (at + (k + 1)) w t) =
      ap num (left-part at n k t h f) ∙ ap (λ (i : ℕ). x * 2 ^ (8 * i) + num (part (at + (k + 1)) w t)) l in
      omega arith

pub read-end : (t : List ℕ) (at n k v : ℕ) → k ≤ n → n ≤ k → v < 2 ^ (8 * k) → reading t at n k v ≡ num (part at n t) → (v ≡ num_at t at n) × (v < 2 ^ (8 * n))
unfolding num part
read-end t at n k v a b l e =
    let z : n - k ≡ 0 = omega arith in
    let s : k ≡ n = omega arith in
    let w : v < 2 ^ (8 * n) = rw s at l in
    let r : v * 1 + 0 ≡ num (part at n t) = rw z at e in
    let q : v ≡ num (part at n t) = omega arith in
    (sym (ap (λ (i : ℕ). i % 2 ^ (8 * n)) (sym q) ∙ mod-eq_of_lt w), w)
