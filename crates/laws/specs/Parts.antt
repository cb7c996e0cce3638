-- Laws of `part` and `splice`, over any element type; and of loops that put a list in, one element a turn.
use Rattle.std.specs.Prelude.{◌≡◌, get_or, set, replicate}
use Rattle.std.proofs.Math.Path.{sym, ap}
use Rattle.std.proofs.Common.{◌∙◌, zero-add, add-zero, add-one, length-drop, take-append-drop, take-suc-set, drop-cons, take-take, drop_at, length-take-le}
use mathlib.Core.List.{List, [], ◌∷◌, ◌++◌, append_assoc, append-nil}
use Prim.Native.Nat.{ℕ, zero, suc, ◌+◌, ◌-◌, ◌*◌, ◌/◌, ◌%◌, ◌^◌, ◌≤◌, ◌<◌}
use Rattle.std.proofs.Math.Nat.{sub-zero, zero-sub, suc-sub-suc}
use native.Mathlib.Omega.{arith}
use Rattle.std.proofs.Math.ListN.{length, take, drop, length-append, length-take}
use Rattle.std.proofs.Math.Seq.{drop-set-lt, drop-drop, take_at, drop-length, take-nil, drop-append-add}
use Rattle.rules.specs.Words.{part, splice, be}

module _ {A : Type 0} where
  pub splice-nil : (i : ℕ) (l : List A) → splice i [] l ≡ l
  unfolding splice
  splice-nil i l = rw (add-zero, take-append-drop)

  -- one store more: what is left to put in, put in after it, makes the same
  pub step : (i j : ℕ) (x : A) (e l r : List A) → i < length l → j ≡ i + 1 → splice i (x ∷ e) l ≡ r → splice j e (set l i x) ≡ r
  unfolding splice
  step i j x e l r h q s =
      let t : take j (set l i x) ≡ take i l ++ (x ∷ []) = rw (q, add-one) (take-suc-set l i x h) in
      let m : j + length e ≡ i + suc (length e) = omega arith in
      let d : drop (j + length e) (set l i x) ≡ drop (i + suc (length e)) l = drop-set-lt (j + length e) l i x (omega arith) ∙ ap (λ (k : ℕ). drop k l) m in
      rw (t, d, append_assoc) s

  pub length_part : (i n : ℕ) (l : List A) → i + n ≤ length l → length (part i n l) ≡ n
  unfolding part
  length_part i n l h = simp (length-take, length-drop) (omega arith)

  pub length-splice : (i : ℕ) (e l : List A) → i + length e ≤ length l → length (splice i e l) ≡ length l
  unfolding splice
  length-splice i e l h = simp (length-append, length-take, length-drop) (omega arith)

  pub part-cons : (i n : ℕ) (l : List A) (d : A) → i < length l → part i (suc n) l ≡ get_or l i d ∷ part (i + 1) n l
  unfolding part
  part-cons i n l d h = rw (drop-cons l i d h, add-one)

  pub part-set : (i n j : ℕ) (x : A) (l : List A) → j < i → part i n (set l j x) ≡ part i n l
  unfolding part
  part-set i n j x l h = rw (drop-set-lt i l j x h)

  pub drop-take : (j i : ℕ) (l : List A) → drop j (take i l) ≡ take (i - j) (drop j l)
  drop-take zero i l = rw sub-zero
  drop-take (suc j) zero l = rw zero-sub
  drop-take (suc j) (suc i) [] = sym (take-nil (suc i - suc j))
  drop-take (suc j) (suc i) (x ∷ xs) = rw suc-sub-suc (drop-take j i xs)

  pub part-of-take : (j n i : ℕ) (l : List A) → j + n ≤ i → take n (drop j (take i l)) ≡ take n (drop j l)
  part-of-take j n i l h = rw (drop-take j i l) (take-take n (i - j) (drop j l) (omega arith))

  drop_past : (p q : List A) (n m : ℕ) → n ≡ length p + m → drop n (p ++ q) ≡ drop m q
  drop_past p q n m e = rw e (drop-append-add p q m)

  front : (i : ℕ) (e l : List A) → i ≤ length l → length (take i l ++ e) ≡ i + length e
  front i e l h = length-append (take i l) e ∙ ap (λ (k : ℕ). k + length e) (length-take-le i l h)

  -- past what was put in, the list is as it was
  pub drop-splice : (j i : ℕ) (e l : List A) → i + length e ≤ j → i ≤ length l → drop j (splice i e l) ≡ drop j l
  unfolding splice
  drop-splice j i e l h k =
      let f : length (take i l ++ e) ≡ i + length e = front i e l k in
      let m : i + length e + (j - (i + length e)) ≡ j = omega arith in
      ap (drop j) (sym (append_assoc (take i l) e (drop (i + length e) l)))
      ∙ drop_past (take i l ++ e) (drop (i + length e) l) j (j - (i + length e)) (omega arith)
      ∙ drop-drop (j - (i + length e)) (i + length e) l
      ∙ ap (λ (n : ℕ). drop n l) m

  -- up to its end, the list is what was put in after what stood before
  pub take-splice : (i j : ℕ) (e l : List A) → j ≡ i + length e → i ≤ length l → take j (splice i e l) ≡ take i l ++ e
  unfolding splice
  take-splice i j e l q h =
      let f : length (take i l ++ e) ≡ j = front i e l h ∙ sym q in
      rw (← append_assoc (take i l) e (drop (i + length e) l)) (take_at (take i l ++ e) (drop (i + length e) l) j f)

  -- a part after it
  pub part-after : (j n i : ℕ) (e l : List A) → i + length e ≤ j → i ≤ length l → part j n (splice i e l) ≡ part j n l
  unfolding part
  part-after j n i e l h k = ap (take n) (drop-splice j i e l h k)

  -- two parts, one after the other
  pub splice-splice : (i j : ℕ) (e f l : List A) → j ≡ i + length e → i ≤ length l → splice j f (splice i e l) ≡ splice i (e ++ f) l
  unfolding splice
  splice-splice i j e f l q h =
      let m : j + length f ≡ i + length (e ++ f) = simp length-append (omega arith) in
      let t : take j (take i l ++ (e ++ drop (i + length e) l)) ≡ take i l ++ e = take-splice i j e l q h in
      let d : drop (j + length f) (take i l ++ (e ++ drop (i + length e) l)) ≡ drop (j + length f) l = drop-splice (j + length f) i e l (omega arith) h in
      rw (t, d, m) (simp append_assoc)

  -- a part of a part
  pub part-part : (a n i w : ℕ) (l : List A) → a + n ≤ w → part a n (part i w l) ≡ part (i + a) n l
  unfolding part
  part-part a n i w l h = part-of-take a n w (drop i l) h ∙ ap (take n) (drop-drop a i l)

  -- what is left of a part
  pub drop-part : (n w i : ℕ) (l : List A) → drop n (part i w l) ≡ part (i + n) (w - n) l
  unfolding part
  drop-part n w i l = drop-take n w (drop i l) ∙ ap (take (w - n)) (drop-drop n i l)

  -- a part past the first of two lists, and the first
  pub part-past : (k a n : ℕ) (d e : List A) → length d ≡ k → part (k + a) n (d ++ e) ≡ part a n e
  unfolding part
  part-past k a n d e q = rw (← q, drop-append-add)

  pub part-first : (k : ℕ) (d e : List A) → length d ≡ k → part 0 k (d ++ e) ≡ d
  unfolding part
  part-first k d e q = take_at d e k q

  -- the middle one of three lists
  pub part-mid : (k n : ℕ) (d e f : List A) → length d ≡ k → length e ≡ n → part k n (d ++ (e ++ f)) ≡ e
  unfolding part
  part-mid k n d e f q s = rw (drop_at d (e ++ f) k q) (take_at e f n s)

  -- a turn of a loop that puts in e' from i: it stores x, and e is left
  pub turn : (i j : ℕ) (x : A) (e e' l r : List A) → i < length l → j ≡ i + 1 → e' ≡ x ∷ e → splice i e' l ≡ r → splice j e (set l i x) ≡ r
  turn i j x e e' l r h q p s = step i j x e l r h q (rw p at s)

  -- and where nothing is left, the list is what was to be made
  pub done : (i : ℕ) (e l r : List A) → e ≡ [] → splice i e l ≡ r → l ≡ r
  done i e l r p s = sym (splice-nil i l) ∙ (rw p at s)

pub none_left : (n k : ℕ) → n ≤ k → n - k ≡ 0
none_left n k h = omega arith

pub left : (n k : ℕ) → k < n → n - k ≡ suc (n - (k + 1))
left n k h = omega arith

-- what is left to put in, by the loop: bytes of a number, a list, a part of the list itself, zeros
pub left-bytes : (n k v : ℕ) → k < n → be (n - k) v ≡ v / 2 ^ (8 * (n - (k + 1))) % 256 ∷ be (n - (k + 1)) v
unfolding be
left-bytes n k v h = rw (left n k h)

pub left-list : (s : List ℕ) (k : ℕ) → k < length s → drop k s ≡ get_or s k 0 ∷ drop (k + 1) s
left-list s k h = rw (add-one, drop-cons s k 0)

pub left-part : (i n k : ℕ) (l : List ℕ) → k < n → i + n ≤ length l → part (i + k) (n - k) l ≡ get_or l (i + k) 0 ∷ part (i + (k + 1)) (n - (k + 1)) l
left-part i n k l h f =
    let j : i + (k + 1) ≡ i + k + 1 = omega arith in
    rw (left n k h, j) (part-cons (i + k) (n - (k + 1)) l 0 (omega arith))

pub left-zeros : (n k : ℕ) → k < n → ◌≡◌ {A = List ℕ} (replicate (n - k) 0) (0 ∷ replicate (n - (k + 1)) 0)
left-zeros n k h = rw (left n k h)

-- what is left to move down, after a store below it
pub left-own : (to from n k : ℕ) (l : List ℕ) → k < n → to ≤ from → from + n ≤ length l
    → part (from + k) (n - k) l ≡ get_or l (from + k) 0 ∷ part (from + (k + 1)) (n - (k + 1)) (set l (to + k) (get_or l (from + k) 0))
left-own to from n k l h d f =
    rw (part-set (from + (k + 1)) (n - (k + 1)) (to + k) (get_or l (from + k) 0) l (omega arith)) (left-part from n k l h f)

pub splice_all : (e l : List ℕ) → length e ≡ length l → splice 0 e l ≡ e
unfolding splice
splice_all e l q = rw (zero-add, q, drop-length, append-nil)

-- a part that is copied over all of a list
pub copied : (at n : ℕ) (t d e : List ℕ) → at + n ≤ length t → length d ≡ n → e ≡ splice 0 (take (at + n - at) (drop at t)) d → e ≡ part at n t
unfolding part
copied at n t d e h q f =
    let m : at + n - at ≡ n = omega arith in
    f ∙ ap (λ (k : ℕ). splice 0 (take k (drop at t)) d) m ∙ splice_all (part at n t) d (length_part at n t h ∙ sym q)
