-- One element of a list: changed, left out, and the only one that passes a test.
--   changed, without     the list with the element at a place changed, or left out
--   all-.., two-..       what holds of all, and of every two, then still holds
--   Only                 one element passes, at that place; what a filter and a map then do
--   only                 the first place, where no two may pass
use Rattle.std.specs.Prelude.{◌≡◌, refl, Bool, true, false, cond, not, List, [], ◌∷◌, ◌++◌, map, ℕ, zero, suc, ◌+◌, ◌-◌, ◌≤◌, ◌<◌, length, Some}
use Rattle.std.proofs.Common.{ap, subst, arith}
use Rattle.std.proofs.lemmas.Option.{none-some}
use Rattle.std.proofs.lemmas.Bool.{not-true}
use Rattle.rules.specs.Words.{all, no_two, keep, from}
use Rattle.laws.specs.Tests.{both}
use Rattle.laws.specs.Loops.{first_place, all-sub}
use Rattle.laws.specs.Parts.{left}

module _ {A : Type 0} where
  abbrev pub changed : (A → A) → ℕ → List A → List A
  changed f k [] = []
  changed f zero (x ∷ l) = f x ∷ l
  changed f (suc k) (x ∷ l) = x ∷ changed f k l

  abbrev pub without : ℕ → List A → List A
  without k [] = []
  without zero (x ∷ l) = l
  without (suc k) (x ∷ l) = x ∷ without k l

  pub changed-length : (f : A → A) (k : ℕ) (l : List A) → length (changed f k l) ≡ length l
  changed-length f k [] = refl
  changed-length f zero (x ∷ l) = refl
  changed-length f (suc k) (x ∷ l) = ap suc (changed-length f k l)

  pub without-length : (k : ℕ) (l : List A) → k < length l → length (without k l) + 1 ≡ length l
  without-length k [] h = absurd (omega arith)
  without-length zero (x ∷ l) h = omega arith
  without-length (suc k) (x ∷ l) h = let r = without-length k l (omega arith) in omega arith

  -- two changes that agree on the element are the same
  pub changed-same : (f h : A → A) (g : ℕ → A) (n i k : ℕ) → f (g (i + k)) ≡ h (g (i + k)) → changed f k (from g i n) ≡ changed h k (from g i n)
  changed-same f h g zero i k e = refl
  changed-same f h g (suc n) i zero e = let m : i + 0 ≡ i = omega arith in rw (rw m at e)
  changed-same f h g (suc n) i (suc k) e = let m : i + suc k ≡ i + 1 + k = omega arith in ap (λ l. g i ∷ l) (changed-same f h g n (i + 1) k (rw m at e))

  -- what holds of all, and of every two: kept by a change that keeps it of each
  pub all_changed : (f : A → Bool) (g : A → A) → ((x : A) → f x ≡ true → f (g x) ≡ true) → (k : ℕ) (l : List A) → all f l ≡ true → all f (changed g k l) ≡ true
  all_changed f g h k [] e = refl
  all_changed f g h zero (x ∷ l) e = let p = both (f x) (all f l) e in rw (h x p.0) p.1
  all_changed f g h (suc k) (x ∷ l) e = let p = both (f x) (all f l) e in rw p.0 (all_changed f g h k l p.1)

  pub two-changed : (r : A → A → Bool) (g : A → A) → ((x y : A) → r x y ≡ true → (r (g x) y ≡ true) × (r x (g y) ≡ true)) → (k : ℕ) (l : List A)
      → no_two r l ≡ true → no_two r (changed g k l) ≡ true
  two-changed r g h k [] e = refl
  two-changed r g h zero (x ∷ l) e =
      let p = both (all (r x) l) (no_two r l) e in
      rw (all-sub (r x) (r (g x)) (λ y q. (h x y q).0) l p.0) p.1
  two-changed r g h (suc k) (x ∷ l) e =
      let p = both (all (r x) l) (no_two r l) e in
      rw (all_changed (r x) g (λ y q. (h x y q).1) k l p.0) (two-changed r g h k l p.1)

  -- and with one left out
  pub all_without : (f : A → Bool) (k : ℕ) (l : List A) → all f l ≡ true → all f (without k l) ≡ true
  all_without f k [] e = refl
  all_without f zero (x ∷ l) e = (both (f x) (all f l) e).1
  all_without f (suc k) (x ∷ l) e = let p = both (f x) (all f l) e in rw p.0 (all_without f k l p.1)

  pub two-without : (r : A → A → Bool) (k : ℕ) (l : List A) → no_two r l ≡ true → no_two r (without k l) ≡ true
  two-without r k [] e = refl
  two-without r zero (x ∷ l) e = (both (all (r x) l) (no_two r l) e).1
  two-without r (suc k) (x ∷ l) e =
      let p = both (all (r x) l) (no_two r l) e in
      rw (all_without (r x) k l p.0) (two-without r k l p.1)

  pub without-few : (k : ℕ) (l : List A) → length (without k l) ≤ length l
  without-few k [] = omega arith
  without-few zero (x ∷ l) = omega arith
  without-few (suc k) (x ∷ l) = let r = without-few k l in omega arith

module _ {A B : Type 0} (h : A → B) where
  pub map-changed : (f : A → A) (g : B → B) → ((x : A) → h (f x) ≡ g (h x)) → (k : ℕ) (l : List A) → map h (changed f k l) ≡ changed g k (map h l)
  map-changed f g e k [] = refl
  map-changed f g e zero (x ∷ l) = rw (e x)
  map-changed f g e (suc k) (x ∷ l) = rw (map-changed f g e k l)

  pub map-without : (k : ℕ) (l : List A) → map h (without k l) ≡ without k (map h l)
  map-without k [] = refl
  map-without zero (x ∷ l) = refl
  map-without (suc k) (x ∷ l) = rw (map-without k l)

  pub map-append : (l m : List A) → map h (l ++ m) ≡ map h l ++ map h m
  map-append [] m = refl
  map-append (x ∷ l) m = rw (map-append l m)

-- ---------------------------------------------------------------- the only one that passes

module _ {A : Type 0} (f : A → Bool) where
  pub data Only : ℕ → List A → Type 0 where
    here : {x : A} {l : List A} → f x ≡ true → all (λ y. not (f y)) l ≡ true → Only zero (x ∷ l)
    later : {k : ℕ} {x : A} {l : List A} → f x ≡ false → Only k l → Only (suc k) (x ∷ l)

  all_pass : (l : List A) → all (λ y. not (f y)) l ≡ true → keep (λ y. not (f y)) l ≡ l
  all_pass [] e = refl
  all_pass (x ∷ l) e = let p = both (not (f x)) (all (λ y. not (f y)) l) e in rw (p.0, all_pass l p.1)

  none-touched : (g : A → A) (l : List A) → all (λ y. not (f y)) l ≡ true → map (λ x. cond (f x) (g x) x) l ≡ l
  none-touched g [] e = refl
  none-touched g (x ∷ l) e = let p = both (not (f x)) (all (λ y. not (f y)) l) e in rw (not-true (f x) p.0, none-touched g l p.1)

  pub only_kept : {k : ℕ} {l : List A} → Only k l → keep (λ x. not (f x)) l ≡ without k l
  only_kept (here {l = l} p e) = rw p (all_pass l e)
  only_kept (later p o) = rw (p, only_kept o)

  pub only-touched : (g : A → A) {k : ℕ} {l : List A} → Only k l → map (λ x. cond (f x) (g x) x) l ≡ changed g k l
  only-touched g (here {l = l} p e) = rw (p, none-touched g l e)
  only-touched g (later p o) = rw (p, only-touched g o)

  -- the first place, where no two may pass
  pub only : (r : A → A → Bool) → ((x y : A) → f x ≡ true → r x y ≡ true → not (f y) ≡ true) → (l : List A) (i j : ℕ)
      → no_two r l ≡ true → first_place f l i ≡ Some j → (i ≤ j) × Only (j - i) l
  only r apart [] i j e h = absurd (none-some j h)
  only r apart (x ∷ l) i j e h = let p = both (all (r x) l) (no_two r l) e in by (f x) refl h p.0 (only r apart l (i + 1) j p.1)
    where
      by : (b : Bool) → f x ≡ b → cond b (Some i) (first_place f l (i + 1)) ≡ Some j → all (r x) l ≡ true
          → (first_place f l (i + 1) ≡ Some j → (i + 1 ≤ j) × Only (j - (i + 1)) l) → (i ≤ j) × Only (j - i) (x ∷ l)
      by true q s a t =
          let m : i ≡ j = cc in
          (omega arith, subst (λ k. Only k (x ∷ l)) (omega arith) (here q (all-sub (r x) (λ y. not (f y)) (λ y. apart x y q) l a)))
      by false q s a t = let o = t s in (omega arith, rw (left j i (omega arith)) (later q o.1))
