-- Laws of an Option Request's content, two bytes a turn.
use Rattle.std.specs.Prelude.{◌≡◌, refl, ℕ, ◌+◌, ◌-◌, ◌≤◌, ◌<◌, List, [], ◌∷◌, true, false, ◌||◌, eqb, length}
use Rattle.std.proofs.Common.{◌∙◌, eq-eqb, ne_eqb, length-take, length-drop}
use native.Mathlib.Omega.{arith}
use Rattle.rules.specs.Words.{part, u16_at}
use Rattle.rules.specs.Message.{codes, asks67}
use Rattle.laws.specs.Parts.{left-part}

few : (l : List ℕ) → length l ≤ 1 → codes l ≡ []
unfolding codes
few [] h = refl
few (x ∷ []) h = refl
few (x ∷ y ∷ l) h = absurd (omega arith)

module _ (m : List ℕ) (at n k : ℕ) where
  turn : 1 < n - k → at + n ≤ length m → asks67 (part (at + k) (n - k) m) ≡ eqb 67 (u16_at m (at + k)) || asks67 (part (at + (k + 2)) (n - (k + 2)) m)
  unfolding codes
  turn h f =
      let e : k + 1 + 1 ≡ k + 2 = omega arith in
      let d : at + (k + 1) ≡ at + k + 1 = omega arith in
      rw (left-part at n k m (omega arith) f, left-part at n (k + 1) m (omega arith) f, e, d)

  pub asks-here : 1 < n - k → at + n ≤ length m → {b : ℕ} → b ≡ u16_at m (at + k) → 67 ≡ b → asks67 (part (at + k) (n - k) m) ≡ true
  asks-here h f g q = turn h f ∙ rw (← g, eq-eqb 67 _ q)

  pub asks-on : 1 < n - k → at + n ≤ length m → {b : ℕ} → b ≡ u16_at m (at + k) → (67 ≡ b → ⊥)
      → asks67 (part (at + k) (n - k) m) ≡ asks67 (part (at + (k + 2)) (n - (k + 2)) m)
  asks-on h f g q = turn h f ∙ rw (← g, ne_eqb 67 _ q)

  pub asks-end : n - k ≤ 1 → asks67 (part (at + k) (n - k) m) ≡ false
  unfolding part
  asks-end h = rw (few (part (at + k) (n - k) m) (simp (length-take, length-drop) (omega arith)))
