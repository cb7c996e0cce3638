-- What the iterators over the places 0 to n give, in the words of the list of what stands there.
use Rattle.std.proofs.Common.{◌≡◌, refl, sym, ap, Bool, true, false, cond, ◌∷◌, ℕ, zero, suc, ◌+◌, ◌≤◌, ◌<◌, eqb, length, Option, None, Some, MatchOption, arith, eqb-true}
use Rattle.std.specs.List.{filter, range_with_len}
use Rattle.std.proofs.lemmas.Bool.{eqb-false}
use Rattle.rules.specs.Words.{cons_if, keep, from}
use Rattle.laws.specs.Loops.{first_place}

module _ {A : Type 0} (g : ℕ → A) (f : A → Bool) where
  -- all fail
  nowhere : (k j : ℕ) → ((m : ℕ) → j ≤ m → m < j + k → f (g m) ≡ false) → first_place f (from g j k) j ≡ None
  nowhere zero j fail = refl
  nowhere (suc k) j fail = rw (fail j (omega arith) (omega arith)) (nowhere k (j + 1) (λ m a b. fail m (omega arith) (omega arith)))

  -- i passes, and all before it fail
  there : (k j i : ℕ) → j ≤ i → i < j + k → f (g i) ≡ true → ((m : ℕ) → j ≤ m → m < i → f (g m) ≡ false) → first_place f (from g j k) j ≡ Some i
  there zero j i h l pass fail = absurd (omega arith)
  there (suc k) j i h l pass fail = by (eqb j i) refl (λ a. there k (j + 1) i a (omega arith) pass (λ m b c. fail m (omega arith) c))
    where
      by : (b : Bool) → eqb j i ≡ b → (j + 1 ≤ i → first_place f (from g (j + 1) k) (j + 1) ≡ Some i)
          → cond (f (g j)) (Some j) (first_place f (from g (j + 1) k) (j + 1)) ≡ Some i
      by true q r = let e : j ≡ i = eqb-true j i q in rw (e, pass)
      by false q r =
          let n = eqb-false j i q in
          let a : j + 1 ≤ i = omega arith in
          rw (fail j (omega arith) (omega arith)) (r a)

  -- what `find` says of the places gives the first of those that pass
  pub first-found : (n : ℕ) (r : Option ℕ)
      → MatchOption r ((k : ℕ) → 0 ≤ k → k < n → f (g k) ≡ false) (λ i. (0 ≤ i) × (i < n) × (f (g i) ≡ true) × ((k : ℕ) → 0 ≤ k → k < i → f (g k) ≡ false))
      → r ≡ first_place f (from g 0 n) 0
  first-found n None fail = sym (nowhere n 0 (λ m a b. fail m a (omega arith)))
  first-found n (Some i) h = sym (there n 0 i h.0 (omega arith) h.2 h.3)

  -- a filter of the places leaves as many as one of what stands there
  pub as_many : (k j : ℕ) → length (filter (λ i. f (g i)) (range_with_len j k)) ≡ length (keep f (from g j k))
  as_many zero j = refl
  as_many (suc k) j = by (f (g j)) (as_many k (j + 1))
    where
      by : (b : Bool) → length (filter (λ i. f (g i)) (range_with_len (j + 1) k)) ≡ length (keep f (from g (j + 1) k))
          → length (cond b (j ∷ filter (λ i. f (g i)) (range_with_len (j + 1) k)) (filter (λ i. f (g i)) (range_with_len (j + 1) k))) ≡ length (cons_if b (g j) (keep f (from g (j + 1) k)))
      by true e = ap suc e
      by false e = e
