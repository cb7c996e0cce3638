-- What the library's methods leave and say, in the words of the contracts.
--   put, moved      a part written over; a part copied to another place of its list
--   low, read       the last bytes of a number; the number in the last bytes of a word
--   or-zeros        the bytes together are zero where each of them is
--   zero-ends       zeros in the first block and in the last one, where there is no room for a third
--   block-more      zeros block by block, and block-other, block-last
--   equal           what `==` says; last-other: lists whose last bytes differ; same-more: one byte more is compared
--   written         all of these but `read`, `last-other` and the blocks': src/lib.rt names them for every goal
use Rattle.std.proofs.Common.{◌≡◌, ℕ, zero, suc, ◌+◌, ◌-◌, ◌*◌, ◌/◌, ◌%◌, ◌^◌, ◌≤◌, ◌<◌, Bool, true, false, ◌&&◌, List, [], ◌∷◌, ◌++◌, eqb, length, get_or, take, drop, replicate, refl, sym, ap, ◌∙◌, arith, zero-add, zero-mul, suc-add, append_assoc, append-nil, length-append, drop-drop, ne_eqb, bit_or, Fits, w8, w64}
use Rattle.std.proofs.Math.Bool.{and_assoc, and-true}
use Rattle.std.proofs.Math.Dec.{eqb-suc-zero}
use Rattle.std.proofs.Math.ListN.{drop_of_length-le}
use Rattle.std.proofs.Math.Seq.{take-add}
use Rattle.std.proofs.lemmas.Bool.{and_from, and_left, and_right, and_parts}
use Rattle.std.proofs.lemmas.List.{take_all, take-replicate, length-replicate}
use Rattle.std.proofs.lemmas.Nat.{le_or_l}
use Rattle.std.proofs.lemmas.Slice.Eq.{text_from_reads}
use Rattle.std.specs.Cmp.Lexicographic.{pointwise}
use Rattle.std.specs.Int.{to_be_bytes, from_be_bytes}
use Rattle.std.specs.List.{fold, copy_within}
use borrow.Rule.Slice.PartMut.{put_mid}
use Rattle.rules.specs.Words.{all, part, splice, same_bytes, num, be, num_at}
use Rattle.laws.specs.Bits.{num-append, num-zeros}
use Rattle.laws.specs.Kinds.{bytes-true, bytes-refl}
use Rattle.laws.specs.Numbers.{length-be, num_at-is, num_at-fits}
use Rattle.laws.specs.Parts.{length_part, part-part, part-cons}
use Rattle.laws.specs.Same.{filled_put, same-append}
use Rattle.laws.specs.Tests.{same_test}

-- ---------------------------------------------------------------- parts written

pub cut : {A : Type 0} (at n : ℕ) (t : List A) → take (at + n - at) (drop at t) ≡ part at n t
unfolding part
cut at n t = let m : at + n - at ≡ n = omega arith in rw m refl

pub put : (i k : ℕ) (e t : List ℕ) {d : List ℕ} → d ≡ e → k ≡ length e → put_mid i k t d ≡ splice i e t
unfolding splice
put i k e t p q = rw (p, q, drop-drop) refl

pub moved : (to from n : ℕ) (t : List ℕ) → from + n ≤ length t → copy_within t from (from + n) to ≡ splice to (part from n t) t
unfolding splice part
moved to from n t h =
    let m : from + n - from ≡ n = omega arith in
    let l : length (take n (drop from t)) ≡ n = length_part from n t h in
    rw (m, l, append_assoc) refl

-- ---------------------------------------------------------------- numbers

be-eight : (v : ℕ) → to_be_bytes w64 v ≡ be 8 v
unfolding be
be-eight v = let e : v % 256 ≡ v / 1 % 256 = omega arith in rw e refl

be-last : (a n v : ℕ) → drop a (be (a + n) v) ≡ be n v
unfolding be
be-last zero n v = rw zero-add refl
be-last (suc a) n v = rw suc-add (be-last a n v)

pub low : (n v : ℕ) {w : List ℕ} → n ≤ 8 → w ≡ to_be_bytes w64 v → take (8 - (8 - n)) (drop (8 - n) w) ≡ be n v
low n v h e =
    let c : 8 ≡ 8 - n + n = omega arith in
    let d : drop (8 - n) (be 8 v) ≡ be n v = ap (λ (k : ℕ). drop (8 - n) (be k v)) c ∙ be-last (8 - n) n v in
    rw (e, be-eight, d) (take_all _ _ (omega (arith, length-be n v)))

eight : (a b c d e f g h : ℕ) → let w = a ∷ b ∷ c ∷ d ∷ e ∷ f ∷ g ∷ h ∷ [] in from_be_bytes w64 w ≡ num w
unfolding num
eight a b c d e f g h = omega arith

from-eight : (w : List ℕ) → length w ≡ 8 → from_be_bytes w64 w ≡ num w
from-eight w h =
    let at : ℕ → ℕ = λ i. get_or w i 0 in
    let e : w ≡ at 0 ∷ at 1 ∷ at 2 ∷ at 3 ∷ at 4 ∷ at 5 ∷ at 6 ∷ at 7 ∷ [] = text_from_reads _ _ h (refl, (refl, (refl, (refl, (refl, (refl, (refl, (refl, tt)))))))) in
    ap (from_be_bytes w64) e ∙ eight _ _ _ _ _ _ _ _ ∙ ap num (sym e)

pub read : (t : List ℕ) (at n : ℕ) {d : List ℕ} {r : ℕ} → ((i : ℕ) → Fits w8 (get_or t i 0)) → at + n ≤ length t → n ≤ 8 → d ≡ take (at + n - at) (drop at t)
    → r ≡ from_be_bytes w64 (put_mid (8 - n) (8 - (8 - n)) (replicate 8 0) d) → (r ≡ num_at t at n) × (r < 2 ^ (8 * n))
read t at n {d} {r} b h g e f =
    let p : List ℕ = part at n t in
    let z : List ℕ = replicate (8 - n) 0 in
    let whole : List ℕ = replicate 8 0 in
    let front : take (8 - n) whole ≡ z = take-replicate (8 - n) 8 0 (omega arith) in
    let mid : d ≡ p = e ∙ cut at n t in
    let back : drop (8 - (8 - n)) (drop (8 - n) whole) ≡ [] = drop-drop (8 - (8 - n)) (8 - n) whole ∙ drop_of_length-le whole {i = 8 - n + (8 - (8 - n))} (omega arith) in
    let w : put_mid (8 - n) (8 - (8 - n)) whole d ≡ z ++ p = (λ i. front i ++ (mid i ++ back i)) ∙ ap (λ x. z ++ x) (append-nil p) in
    let long : length (z ++ p) ≡ 8 = simp (length-append, length-replicate) (let l = length_part at n t h in omega arith) in
    let low : num (z ++ p) ≡ num p = num-append z p ∙ ap (λ i. i * 2 ^ (8 * length p) + num p) (num-zeros (8 - n)) ∙ ap (λ i. i + num p) (zero-mul (2 ^ (8 * length p))) ∙ zero-add (num p) in
    let m : r ≡ num_at t at n = f ∙ ap (from_be_bytes w64) w ∙ from-eight (z ++ p) long ∙ low ∙ sym (num_at-is t at n (λ i. (b i).fits) h) in
    (m, rw m (num_at-fits t at n))

-- ---------------------------------------------------------------- zeros

or-zero : (a b : ℕ) → eqb (bit_or a b) 0 ≡ eqb a 0 && eqb 0 b
or-zero zero b = same_test b 0 0 b sym sym
or-zero (suc a) b = rw eqb-suc-zero (ne_eqb _ _ (λ e. let l = le_or_l (suc a) b in omega arith))

or-from : (a : ℕ) (l : List ℕ) → eqb (fold bit_or a l) 0 ≡ eqb a 0 && all (eqb 0) l
or-from a [] = sym (and-true (eqb a 0))
or-from a (b ∷ l) = or-from (bit_or a b) l ∙ ap (λ (x : Bool). x && all (eqb 0) l) (or-zero a b) ∙ and_assoc (eqb a 0) (eqb 0 b) (all (eqb 0) l)

pub or-zeros : (l : List ℕ) → eqb (fold bit_or 0 l) 0 ≡ all (eqb 0) l
or-zeros l = or-from 0 l

all-append : (f : ℕ → Bool) (l m : List ℕ) → all f (l ++ m) ≡ all f l && all f m
all-append f [] m = refl
all-append f (x ∷ l) m = rw (all-append f l m) (sym (and_assoc (f x) (all f l) (all f m)))

three : (a b c : Bool) → (a && b) && (b && c) ≡ (a && b) && c
three true true c = refl
three true false c = refl
three false b c = refl

module _ (t : List ℕ) where
  abbrev zeros : ℕ → ℕ → Bool
  zeros i n = all (eqb 0) (part i n t)

  zeros-two : (i a b n : ℕ) → n ≡ a + b → zeros i n ≡ zeros i a && zeros (i + a) b
  unfolding part
  zeros-two i a b n e = rw (e, take-add, all-append, drop-drop) refl

  pub zero-ends : (at w n : ℕ) {x y : Bool} → w ≤ n → n ≤ w + w → x ≡ zeros at w → y ≡ zeros (at + (n - w)) w → x && y ≡ zeros at n
  zero-ends at w n h g e f =
      let a = n - w in
      let b = w + w - n in
      let m : at + a + b ≡ at + w = omega arith in
      rw (e, f, zeros-two at w a n (omega arith), zeros-two at a b w (omega arith), zeros-two (at + a) b a w (omega arith), m) (three (zeros at a) (zeros (at + a) b) (zeros (at + w) a))

  -- block by block: one more is zero; one isn't; the last one, of which some was looked at before
  pub block-more : (at i w : ℕ) {n : ℕ} → n ≡ i + w → zeros at i ≡ true → zeros (at + i) w ≡ true → zeros at n ≡ true
  block-more at i w e h g = zeros-two at i w _ e ∙ and_from _ _ h g

  pub block-other : (at i w n : ℕ) → i + w ≤ n → zeros (at + i) w ≡ false → false ≡ zeros at n
  block-other at i w n h e =
      let l : zeros (at + i) (n - i) ≡ false = zeros-two (at + i) w (n - i - w) (n - i) (omega arith) ∙ and_left _ _ e in
      sym (zeros-two at i (n - i) n (omega arith) ∙ and_right _ _ l)

  pub block-last : (at i w n : ℕ) {x : Bool} → zeros at i ≡ true → w ≤ n → n ≤ i + w → i ≤ n → x ≡ zeros (at + (n - w)) w → x ≡ zeros at n
  block-last at i w n h f g l e =
      let a = n - w in
      let front : zeros at a ≡ true = (and_parts _ _ (sym (zeros-two at a (i - a) i (omega arith)) ∙ h)).0 in
      e ∙ sym (zeros-two at a w n (omega arith) ∙ rw front refl)

-- ---------------------------------------------------------------- the same bytes

same-pointwise : (x y : List ℕ) → pointwise eqb x y ≡ same_bytes x y
same-pointwise [] [] = refl
same-pointwise [] (b ∷ y) = refl
same-pointwise (a ∷ x) [] = refl
same-pointwise (a ∷ x) (b ∷ y) = rw (same-pointwise x y) refl

module _ (t s : List ℕ) (at : ℕ) where
  pub equal : pointwise eqb (take (at + length s - at) (drop at t)) s ≡ same_bytes (part at (length s) t) s
  equal = rw cut (same-pointwise (part at (length s) t) s)

  -- the last ones differ
  pub last-other : (w : ℕ) → w ≤ length s → same_bytes (part (at + (length s - w)) w t) (part (length s - w) w s) ≡ false → false ≡ same_bytes (part at (length s) t) s
  last-other w h d = by (same_bytes (part at (length s) t) s) refl
    where
      by : (b : Bool) → same_bytes (part at (length s) t) s ≡ b → false ≡ b
      by true e =
          let i = length s - w in
          let p : part i w (part at (length s) t) ≡ part (at + i) w t = part-part i w at (length s) t (omega arith) in
          let q : part (at + i) w t ≡ part i w s = sym p ∙ ap (part i w) (bytes-true _ _ e) in
          sym d ∙ ap (λ l. same_bytes l (part i w s)) q ∙ bytes-refl (part i w s)
      by false e = refl

part-more : (i k : ℕ) (l : List ℕ) → i + k < length l → part i (k + 1) l ≡ part i k l ++ (get_or l (i + k) 0 ∷ [])
unfolding part
part-more i k l h = rw (take-add, drop-drop) (ap (λ e. take k (drop i l) ++ e) (part-cons (i + k) 0 l 0 h))

-- one byte more is compared
pub same-more : (t s : List ℕ) (i j k : ℕ) {x : Bool} → i + k < length t → j + k < length s → x ≡ same_bytes (part i k t) (part j k s)
    → x && eqb (get_or t (i + k) 0) (get_or s (j + k) 0) ≡ same_bytes (part i (k + 1) t) (part j (k + 1) s)
same-more t s i j k h g e =
    let l : length (part i k t) ≡ length (part j k s) = length_part i k t (omega arith) ∙ sym (length_part j k s (omega arith)) in
    rw (e, part-more i k t h, part-more j k s g, same-append _ _ _ _ l, and-true) refl

pub ruleset written = (cut, put, moved, equal, same-more, zero-ends, filled_put, low, length-be, or-zeros)
