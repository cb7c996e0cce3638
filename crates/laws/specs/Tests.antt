-- Laws of tests: what a Bool that is true or false says.
use Rattle.std.specs.Prelude.{◌≡◌, refl, Bool, true, false, ◌&&◌, ◌||◌, ◌⊎◌, ℕ, ◌≤◌, ◌<◌, eqb, ltb}
use Rattle.std.proofs.Common.{sym, inl, inr, arith, eq-eqb, ne_eqb, eqb-true, ltb-true, ltb-false}
use Rattle.std.proofs.lemmas.Bool.{eqb-false}

pub false-true : false ≡ true → ⊥
false-true e = let z : ◌≡◌ {A = ℕ} 0 1 = cc in omega arith

pub both : (a b : Bool) → a && b ≡ true → (a ≡ true) × (b ≡ true)
both true b h = (refl, h)
both false b h = absurd (false-true h)

pub both-made : {a b : Bool} → a ≡ true → b ≡ true → a && b ≡ true
both-made h g = rw (h, g)

pub neither : (a b : Bool) → a || b ≡ false → (a ≡ false) × (b ≡ false)
neither true b h = absurd (false-true (sym h))
neither false b h = (refl, h)

pub either : (a b : Bool) → a || b ≡ true → (a ≡ true) ⊎ (b ≡ true)
either true b h = inl refl
either false b h = inr h

-- two tests that say the same of numbers are the same
pub same_test : (a b c d : ℕ) → (a ≡ b → c ≡ d) → (c ≡ d → a ≡ b) → eqb a b ≡ eqb c d
same_test a b c d to back = by (eqb c d) refl
  where
    by : (t : Bool) → eqb c d ≡ t → eqb a b ≡ t
    by true e = eq-eqb a b (back (eqb-true c d e))
    by false e = ne_eqb a b (λ q. eqb-false c d e (to q))

pub lt-or-ge : (a b : ℕ) → (a < b) ⊎ (b ≤ a)
lt-or-ge a b = by (ltb a b) refl
  where
    by : (t : Bool) → ltb a b ≡ t → (a < b) ⊎ (b ≤ a)
    by true h = inl (ltb-true a b h)
    by false h = inr (ltb-false a b h)
