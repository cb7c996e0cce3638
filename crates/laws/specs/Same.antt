-- Laws of `same_bytes`: lists beside each other, part by part; and of `filled`, a list with zeros up to a length.
use Rattle.std.specs.Prelude.{◌≡◌, refl, Bool, true, false, ◌&&◌, List, [], ◌∷◌, ◌++◌, ℕ, zero, suc, ◌+◌, ◌-◌, ◌≤◌, eqb, length, take, drop, replicate}
use Rattle.std.proofs.Common.{sym, ap, ◌∙◌, subst, arith, length-append, length-drop, take-append-drop, drop-drop, length-take-le}
use Rattle.std.proofs.Math.Bool.{and_assoc}
use Rattle.std.proofs.lemmas.List.{length-replicate}
use Rattle.rules.specs.Words.{all, part, splice, filled, same_bytes, num, be, num_at}
use Rattle.laws.specs.Tests.{false-true}
use Rattle.laws.specs.Parts.{length_part, splice-splice}
use Rattle.laws.specs.Numbers.{Bytes, bytes-part, be-num, num_at-is, length-be}
use Rattle.laws.specs.Kinds.{bytes-true, bytes-refl}

-- two tests that follow from each other are the same
pub same_bool : (a b : Bool) → (a ≡ true → b ≡ true) → (b ≡ true → a ≡ true) → a ≡ b
same_bool true b f g = sym (f refl)
same_bool false true f g = g refl
same_bool false false f g = refl

pub same-append : (x y u w : List ℕ) → length x ≡ length u → same_bytes (x ++ y) (u ++ w) ≡ same_bytes x u && same_bytes y w
same-append [] y [] w e = refl
same-append [] y (b ∷ u) w e = absurd (omega arith)
same-append (a ∷ x) y [] w e = absurd (omega arith)
same-append (a ∷ x) y (b ∷ u) w e = rw (same-append x y u w (omega arith)) (sym (and_assoc (eqb a b) (same_bytes x u) (same_bytes y w)))

-- the same, against the two parts of one list
pub same-split : (x y b : List ℕ) (n : ℕ) → length x ≡ n → n ≤ length b → same_bytes (x ++ y) b ≡ same_bytes x (take n b) && same_bytes y (drop n b)
same-split x y b n e h =
    ap (same_bytes (x ++ y)) (sym (take-append-drop n b)) ∙ same-append x y (take n b) (drop n b) (e ∙ sym (length-take-le n b h))

-- zeros beside a list
pub same-zeros : (n : ℕ) (b : List ℕ) → length b ≡ n → same_bytes (replicate n 0) b ≡ all (eqb 0) b
same-zeros zero [] e = refl
same-zeros zero (x ∷ b) e = absurd (omega arith)
same-zeros (suc n) [] e = absurd (omega arith)
same-zeros (suc n) (x ∷ b) e = rw (same-zeros n b (omega arith))

-- lists of other lengths differ
pub same_length : (x y : List ℕ) → same_bytes x y ≡ true → length x ≡ length y
same_length x y e = ap length (bytes-true x y e)

pub other_length : (x y : List ℕ) → (length x ≡ length y → ⊥) → same_bytes x y ≡ false
other_length x y h = same_bool (same_bytes x y) false (λ e. absurd (h (same_length x y e))) (λ e. absurd (false-true e))

pub filled-length : (n : ℕ) (l : List ℕ) → length l ≤ n → length (filled n l) ≡ n
unfolding filled
filled-length n l h = rw (length-append, length-replicate) (omega arith)

-- a list put in, and then zeros behind it
pub filled_put : (at n : ℕ) (d l : List ℕ) {c e : List ℕ} → at ≤ length l → c ≡ splice at d l → e ≡ splice (at + length d) (replicate (n - length d) 0) c
    → e ≡ splice at (filled n d) l
unfolding filled
filled_put at n d l h p q =
    q ∙ ap (splice (at + length d) (replicate (n - length d) 0)) p ∙ splice-splice at (at + length d) d (replicate (n - length d) 0) l refl h

-- a number beside the bytes that it was read of
pub same_number : (b : List ℕ) (at n : ℕ) → Bytes b → at + n ≤ length b → be n (num_at b at n) ≡ part at n b
same_number b at n y h =
    let l : length (part at n b) ≡ n = length_part at n b h in
    ap (be n) (num_at-is b at n y h) ∙ subst (λ (k : ℕ). be k (num (part at n b)) ≡ part at n b) l (be-num (part at n b) (bytes-part at n b y))

-- a list filled up beside the bytes that it was cut of: the rest is zero
pub same-filled : (b : List ℕ) (n k : ℕ) → length b ≡ n → k ≤ n → same_bytes (filled n (take k b)) b ≡ all (eqb 0) (drop k b)
unfolding filled
same-filled b n k e h =
    let l : length (take k b) ≡ k = length-take-le k b (omega arith) in
    let r : same_bytes (take k b) (take k b) ≡ true = bytes-refl (take k b) in
    same-split (take k b) (replicate (n - length (take k b)) 0) b k l (omega arith)
    ∙ rw (r, l) (same-zeros (n - k) (drop k b) (rw length-drop (omega arith)))

-- one field after another: x beside n bytes from a place, and what follows beside the rest
pub same-field : (x y b : List ℕ) (at n : ℕ) → length x ≡ n → at + n ≤ length b → same_bytes (x ++ y) (drop at b) ≡ same_bytes x (part at n b) && same_bytes y (drop (at + n) b)
unfolding part
same-field x y b at n e h =
    same-split x y (drop at b) n e (rw length-drop (omega arith)) ∙ ap (λ d. same_bytes x (take n (drop at b)) && same_bytes y d) (drop-drop n at b)

-- a field that is a number read of the same bytes
pub same_read : (y b : List ℕ) (at n : ℕ) → Bytes b → at + n ≤ length b → same_bytes (be n (num_at b at n) ++ y) (drop at b) ≡ same_bytes y (drop (at + n) b)
same_read y b at n z h =
    let e = same_number b at n z h in
    same-field (be n (num_at b at n)) y b at n (length-be n (num_at b at n)) h ∙ rw (e, bytes-refl (part at n b))
