-- The shapes of loops, with their laws: over the things at places i to n, one a turn.
--   turn, end         of each shape: what is still to be done is one more and the rest, or nothing
--   -at, -made        what holds of a list holds at each place, and back
--   -keep, -last      what a filter leaves and one more at the end keep
use Rattle.std.specs.Prelude.{◌≡◌, refl, Bool, true, false, cond, not, ◌&&◌, List, [], ◌∷◌, ◌++◌, map, ℕ, zero, suc, ◌+◌, ◌-◌, ◌≤◌, ◌<◌, eqb, length, get_or, drop, Option, None, Some}
use Rattle.std.proofs.Common.{sym, ap, ◌∙◌, eq-eqb, ne_eqb, eqb-true}
use Rattle.std.proofs.lemmas.Option.{none-some}
use native.Mathlib.Omega.{arith}
use Rattle.std.proofs.Math.ListN.{drop_of_length-le}
use Rattle.std.proofs.lemmas.Bool.{eqb-false}
use Rattle.rules.specs.Words.{all, no_two, cons_if, keep, first, from, part, same_bytes}
use Rattle.laws.specs.Tests.{both}
use Rattle.laws.specs.Parts.{left, left-part, left-list}

-- the place of the first that passes, counted from i
module _ {A : Type 0} where
  abbrev pub first_place : (A → Bool) → List A → ℕ → Option ℕ
  first_place f [] i = None
  first_place f (x ∷ xs) i = cond (f x) (Some i) (first_place f xs (i + 1))

-- ---------------------------------------------------------------- one turn, and the end

module _ {A : Type 0} (g : ℕ → A) (i n : ℕ) where
  pub from-turn : i < n → from g i (n - i) ≡ g i ∷ from g (i + 1) (n - (i + 1))
  from-turn h = rw (left n i h)

  pub from_end : n ≤ i → from g i (n - i) ≡ []
  from_end h = let z : n - i ≡ 0 = omega arith in rw z

  -- all below n
  pub all-turn : (f : A → Bool) {b : Bool} → i < n → f (g i) ≡ b → all f (from g i (n - i)) ≡ b && all f (from g (i + 1) (n - (i + 1)))
  all-turn f h e = rw (from-turn h, e)

  pub all_end : (f : A → Bool) → n ≤ i → all f (from g i (n - i)) ≡ true
  all_end f h = rw (from_end h)

  -- no two below n
  pub two-turn : (r : A → A → Bool) {b : Bool} → i < n → all (r (g i)) (from g (i + 1) (n - (i + 1))) ≡ b
      → no_two r (from g i (n - i)) ≡ b && no_two r (from g (i + 1) (n - (i + 1)))
  two-turn r h e = rw (from-turn h, e)

  pub two-end : (r : A → A → Bool) → n ≤ i → no_two r (from g i (n - i)) ≡ true
  two-end r h = rw (from_end h)

  -- the least below n
  pub place-turn : (f : A → Bool) {b : Bool} → i < n → f (g i) ≡ b
      → first_place f (from g i (n - i)) i ≡ cond b (Some i) (first_place f (from g (i + 1) (n - (i + 1))) (i + 1))
  place-turn f h e = rw (from-turn h, e)

  pub place_end : (f : A → Bool) → n ≤ i → first_place f (from g i (n - i)) i ≡ None
  place_end f h = rw (from_end h)

  -- those below n that pass
  pub keep-turn : (f : A → Bool) {b : Bool} → i < n → f (g i) ≡ b → keep f (from g i (n - i)) ≡ cons_if b (g i) (keep f (from g (i + 1) (n - (i + 1))))
  keep-turn f h e = rw (from-turn h, e)

  pub keep-end : (f : A → Bool) → n ≤ i → keep f (from g i (n - i)) ≡ []
  keep-end f h = rw (from_end h)

-- ---------------------------------------------------------------- at each place, and back

module _ {A : Type 0} (g : ℕ → A) where
  pub from-length : (k i : ℕ) → length (from g i k) ≡ k
  from-length zero i = refl
  from-length (suc k) i = ap suc (from-length k (i + 1))

  pub all-at : (f : A → Bool) (k i j : ℕ) → i ≤ j → j < i + k → all f (from g i k) ≡ true → f (g j) ≡ true
  all-at f zero i j h l e = absurd (omega arith)
  all-at f (suc k) i j h l e =
      let p = both (f (g i)) (all f (from g (i + 1) k)) e in
      by (eqb i j) refl p.0 (λ m. all-at f k (i + 1) j m (omega arith) p.1)
    where
      by : (b : Bool) → eqb i j ≡ b → f (g i) ≡ true → (i + 1 ≤ j → f (g j) ≡ true) → f (g j) ≡ true
      by true q a r = let m : i ≡ j = eqb-true i j q in (rw m at a)
      by false q a r = r (let n = eqb-false i j q in omega arith)

  pub all_made : (f : A → Bool) (k i : ℕ) → ((j : ℕ) → i ≤ j → j < i + k → f (g j) ≡ true) → all f (from g i k) ≡ true
  all_made f zero i h = refl
  all_made f (suc k) i h = rw (h i (omega arith) (omega arith)) (all_made f k (i + 1) (λ j a b. h j (omega arith) (omega arith)))

  pub two_at : (r : A → A → Bool) (k i a b : ℕ) → i ≤ a → a < b → b < i + k → no_two r (from g i k) ≡ true → r (g a) (g b) ≡ true
  two_at r zero i a b h l m e = absurd (omega arith)
  two_at r (suc k) i a b h l m e =
      let p = both (all (r (g i)) (from g (i + 1) k)) (no_two r (from g (i + 1) k)) e in
      by (eqb i a) refl p.0 (λ x. two_at r k (i + 1) a b x l (omega arith) p.1)
    where
      by : (c : Bool) → eqb i a ≡ c → all (r (g i)) (from g (i + 1) k) ≡ true → (i + 1 ≤ a → r (g a) (g b) ≡ true) → r (g a) (g b) ≡ true
      by true q s u = let x : i ≡ a = eqb-true i a q in all-at (r (g a)) k (a + 1) b (omega arith) (omega arith) (rw x at s)
      by false q s u = u (let n = eqb-false i a q in omega arith)

  pub two_made : (r : A → A → Bool) (k i : ℕ) → ((a b : ℕ) → i ≤ a → a < b → b < i + k → r (g a) (g b) ≡ true) → no_two r (from g i k) ≡ true
  two_made r zero i h = refl
  two_made r (suc k) i h =
      rw (all_made (r (g i)) k (i + 1) (λ j x y. h i j (omega arith) (omega arith) (omega arith)))
      (two_made r k (i + 1) (λ a b x y z. h a b (omega arith) y (omega arith)))

  -- what is found passes the test, and all before it fail
  pub place-passes : (f : A → Bool) (k j i : ℕ) → first_place f (from g j k) j ≡ Some i → (j ≤ i) × (i < j + k) × (f (g i) ≡ true)
  place-passes f zero j i e = let z : ◌≡◌ {A = ℕ} 0 1 = cc in absurd (omega arith)
  place-passes f (suc k) j i e = by (f (g j)) refl (place-passes f k (j + 1) i)
    where
      by : (b : Bool) → f (g j) ≡ b → (first_place f (from g (j + 1) k) (j + 1) ≡ Some i → (j + 1 ≤ i) × (i < j + 1 + k) × (f (g i) ≡ true))
          → (j ≤ i) × (i < j + suc k) × (f (g i) ≡ true)
      by true q r = let h : Some j ≡ Some i = (rw q at e) in let m : j ≡ i = cc in (omega arith, omega arith, rw (← m) q)
      by false q r = let s = r (rw q at e) in (omega arith, omega arith, s.2)

  -- nothing is found exactly where all fail
  pub place_none : (f : A → Bool) (k j : ℕ) → first_place f (from g j k) j ≡ None → all (λ x. not (f x)) (from g j k) ≡ true
  place_none f zero j e = refl
  place_none f (suc k) j e = by (f (g j)) refl (place_none f k (j + 1))
    where
      by : (b : Bool) → f (g j) ≡ b → (first_place f (from g (j + 1) k) (j + 1) ≡ None → all (λ x. not (f x)) (from g (j + 1) k) ≡ true)
          → not (f (g j)) && all (λ x. not (f x)) (from g (j + 1) k) ≡ true
      by true q r = let h : Some j ≡ None = (rw q at e) in let z : ◌≡◌ {A = ℕ} 0 1 = cc in absurd (omega arith)
      by false q r = rw q (r (rw q at e))

  -- the first that passes is the one at the first place
  abbrev pub at : Option ℕ → Option A
  at None = None
  at (Some i) = Some (g i)

  pub first-place : (f : A → Bool) (k j : ℕ) → first f (from g j k) ≡ at (first_place f (from g j k) j)
  first-place f zero j = refl
  first-place f (suc k) j = by (f (g j)) (first-place f k (j + 1))
    where
      by : (b : Bool) → first f (from g (j + 1) k) ≡ at (first_place f (from g (j + 1) k) (j + 1))
          → cond b (Some (g j)) (first f (from g (j + 1) k)) ≡ at (cond b (Some j) (first_place f (from g (j + 1) k) (j + 1)))
      by true e = refl
      by false e = e

pub from-map : {A B : Type 0} (f : A → B) (g : ℕ → A) (k i : ℕ) → from (λ j. f (g j)) i k ≡ map f (from g i k)
from-map f g zero i = refl
from-map f g (suc k) i = rw (from-map f g k (i + 1))

-- ---------------------------------------------------------------- a filter, and one more

module _ {A : Type 0} where
  pub keep-few : (f : A → Bool) (l : List A) → length (keep f l) ≤ length l
  keep-few f [] = omega arith
  keep-few f (x ∷ l) = by (f x) (keep-few f l)
    where
      by : (b : Bool) → length (keep f l) ≤ length l → length (cons_if b x (keep f l)) ≤ suc (length l)
      by true h = omega arith
      by false h = omega arith

  pub all_keep : (g f : A → Bool) (l : List A) → all f l ≡ true → all f (keep g l) ≡ true
  all_keep g f [] e = refl
  all_keep g f (x ∷ l) e = let p = both (f x) (all f l) e in by (g x) p.0 (all_keep g f l p.1)
    where
      by : (b : Bool) → f x ≡ true → all f (keep g l) ≡ true → all f (cons_if b x (keep g l)) ≡ true
      by true h r = rw h r
      by false h r = r

  pub two-keep : (g : A → Bool) (r : A → A → Bool) (l : List A) → no_two r l ≡ true → no_two r (keep g l) ≡ true
  two-keep g r [] e = refl
  two-keep g r (x ∷ l) e = let p = both (all (r x) l) (no_two r l) e in by (g x) (all_keep g (r x) l p.0) (two-keep g r l p.1)
    where
      by : (b : Bool) → all (r x) (keep g l) ≡ true → no_two r (keep g l) ≡ true → no_two r (cons_if b x (keep g l)) ≡ true
      by true h s = rw h s
      by false h s = s

  pub all-last : (f : A → Bool) (l : List A) (x : A) → all f l ≡ true → f x ≡ true → all f (l ++ (x ∷ [])) ≡ true
  all-last f [] x e h = rw h
  all-last f (y ∷ l) x e h = let p = both (f y) (all f l) e in rw p.0 (all-last f l x p.1 h)

  pub two-last : (r : A → A → Bool) (l : List A) (x : A) → no_two r l ≡ true → all (λ y. r y x) l ≡ true → no_two r (l ++ (x ∷ [])) ≡ true
  two-last r [] x e h = refl
  two-last r (y ∷ l) x e h =
      let p = both (all (r y) l) (no_two r l) e in
      let q = both (r y x) (all (λ z. r z x) l) h in
      rw (all-last (r y) l x p.0 q.0) (two-last r l x p.1 q.1)

-- ---------------------------------------------------------------- the first, and all

module _ {A : Type 0} where
  pub first-none : (f : A → Bool) (l : List A) → first f l ≡ None → all (λ x. not (f x)) l ≡ true
  first-none f [] e = refl
  first-none f (x ∷ l) e = by (f x) refl e (first-none f l)
    where
      by : (b : Bool) → f x ≡ b → cond b (Some x) (first f l) ≡ None → (first f l ≡ None → all (λ y. not (f y)) l ≡ true) → not (f x) && all (λ y. not (f y)) l ≡ true
      by true q e r = absurd (none-some x (sym e))
      by false q e r = rw q (r e)

  -- what holds of all and of the first that passes
  pub first-all : (f g : A → Bool) (l : List A) {x : A} → first f l ≡ Some x → all g l ≡ true → (f x ≡ true) × (g x ≡ true)
  first-all f g [] {x} e h = absurd (none-some x e)
  first-all f g (y ∷ l) {x} e h = let p = both (g y) (all g l) h in by (f y) refl e (λ q. first-all f g l q p.1) p.0
    where
      by : (b : Bool) → f y ≡ b → cond b (Some y) (first f l) ≡ Some x → (first f l ≡ Some x → (f x ≡ true) × (g x ≡ true)) → g y ≡ true → (f x ≡ true) × (g x ≡ true)
      by true q e r k = let w : y ≡ x = cc in (rw (← w) q, rw (← w) k)
      by false q e r k = r e

  pub all_same : (f g : A → Bool) → ((x : A) → f x ≡ g x) → (l : List A) → all f l ≡ all g l
  all_same f g h [] = refl
  all_same f g h (x ∷ l) = rw (h x, all_same f g h l)

  pub all_both : (f g : A → Bool) (l : List A) → all f l ≡ true → all g l ≡ true → all (λ x. f x && g x) l ≡ true
  all_both f g [] a b = refl
  all_both f g (x ∷ l) a b =
      let p = both (f x) (all f l) a in
      let q = both (g x) (all g l) b in
      rw (p.0, q.0) (all_both f g l p.1 q.1)

  -- one test for all follows from another
  pub all-sub : (f g : A → Bool) → ((x : A) → f x ≡ true → g x ≡ true) → (l : List A) → all f l ≡ true → all g l ≡ true
  all-sub f g h [] e = refl
  all-sub f g h (x ∷ l) e = let p = both (f x) (all f l) e in rw (h x p.0) (all-sub f g h l p.1)

-- what a map leaves passes where what it was made of does
module _ {A B : Type 0} (f : B → Bool) (h : A → B) where
  pub all_map : (l : List A) → all f (map h l) ≡ all (λ x. f (h x)) l
  all_map [] = refl
  all_map (x ∷ l) = rw (all_map l)

  pub keep-map : (l : List A) → keep f (map h l) ≡ map h (keep (λ x. f (h x)) l)
  keep-map [] = refl
  keep-map (x ∷ l) = by (f (h x)) (keep-map l)
    where
      by : (b : Bool) → keep f (map h l) ≡ map h (keep (λ y. f (h y)) l) → cons_if b (h x) (keep f (map h l)) ≡ map h (cons_if b x (keep (λ y. f (h y)) l))
      by true e = rw e
      by false e = e

-- a map that no pair feels
pub two-map : {A B : Type 0} (r : B → B → Bool) (q : A → A → Bool) (h : A → B) → ((x y : A) → r (h x) (h y) ≡ q x y) → (l : List A) → no_two r (map h l) ≡ no_two q l
two-map r q h e [] = refl
two-map r q h e (x ∷ l) = rw (all_map (r (h x)) h l, all_same (λ y. r (h x) (h y)) (q x) (e x) l, two-map r q h e l)

-- ---------------------------------------------------------------- over the bytes of a part

module _ (f : ℕ → Bool) (t : List ℕ) (at n k : ℕ) where
  pub part-turn : {b : Bool} → k < n → at + n ≤ length t → f (get_or t (at + k) 0) ≡ b → all f (part (at + k) (n - k) t) ≡ b && all f (part (at + (k + 1)) (n - (k + 1)) t)
  part-turn h g e = rw (left-part at n k t h g, e)

  pub part_end : n ≤ k → all f (part (at + k) (n - k) t) ≡ true
  unfolding part
  part_end h = let z : n - k ≡ 0 = omega arith in rw z

-- n bytes of t from o beside those of s
module _ (o n k : ℕ) (t s : List ℕ) where
  same_turn : k < n → o + n ≤ length t → k < length s
      → same_bytes (part (o + k) (n - k) t) (drop k s) ≡ eqb (get_or t (o + k) 0) (get_or s k 0) && same_bytes (part (o + (k + 1)) (n - (k + 1)) t) (drop (k + 1) s)
  same_turn h f g = rw (left-part o n k t h f, left-list s k g)

  pub same-go : k < n → o + n ≤ length t → k < length s → get_or t (o + k) 0 ≡ get_or s k 0
      → same_bytes (part (o + k) (n - k) t) (drop k s) ≡ same_bytes (part (o + (k + 1)) (n - (k + 1)) t) (drop (k + 1) s)
  same-go h f g e = same_turn h f g ∙ rw (eq-eqb _ _ e)

  pub same_stop : k < n → o + n ≤ length t → k < length s → (get_or t (o + k) 0 ≡ get_or s k 0 → ⊥)
      → same_bytes (part (o + k) (n - k) t) (drop k s) ≡ false
  same_stop h f g e = same_turn h f g ∙ rw (ne_eqb _ _ e)

  pub same_end : n ≤ k → length s ≤ k → same_bytes (part (o + k) (n - k) t) (drop k s) ≡ true
  unfolding part
  same_end h g = let z : n - k ≡ 0 = omega arith in rw (z, drop_of_length-le s g)
