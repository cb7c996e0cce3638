-- A list looked at place by place: what is left of it is the one at the place and the rest, or nothing.
use Rattle.std.specs.Prelude.{◌≡◌, List, [], ◌∷◌, ℕ, ◌+◌, ◌≤◌, ◌<◌, length, get_or, drop}
use Rattle.std.proofs.Common.{add-one, arith, drop_of_length-le, drop-cons}

module _ {A : Type 0} (l : List A) (k : ℕ) {n : ℕ} (e : n ≡ length l) where
  pub drop-turn : (d : A) {x : A} → k < n → x ≡ get_or l k d → drop k l ≡ x ∷ drop (k + 1) l
  drop-turn d h q = let i : k < length l = omega arith in rw (add-one, drop-cons l k d i, ← q)

  pub drop-end : n ≤ k → drop k l ≡ []
  drop-end h = let i : length l ≤ k = omega arith in drop_of_length-le l i
