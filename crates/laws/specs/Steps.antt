-- Laws for loops over an option area: what a turn finds, and what it does to the options of one code.
--   Stepped, Stopped       the option that stands at a place, inside its area; or none does
--   options-here, -past    the options of a code from a place that has one of it, or one of another
--   any-hit, -miss, -stop  whether some option of a code passes a test
--   nth_here, -next, ..    the k-th option of a code
--   scan-broken, -seen, .. the first bad place, where the option here is bad, is a PD Exclude, or is another
use Rattle.std.specs.Prelude.{◌≡◌, refl, ℕ, ◌+◌, ◌-◌, ◌≤◌, List, [], ◌∷◌, map, Bool, true, false, ◌&&◌, ◌||◌, eqb, length, Err, None, Ok, Option, Some}
use Rattle.std.proofs.Common.{◌∙◌, arith, eq-eqb, ne_eqb}
use Rattle.std.proofs.Math.ListN.{get_or-eq_default}
use Rattle.rules.specs.Words.{any, cons_if, u16_at}
use Rattle.rules.specs.Options.{step_at, area_of, scan, options, nth, spot, Checked}
use Rattle.rules.specs.declared.Step.TheVariants.{Opt, End, Bad}
use Rattle.rules.specs.declared.Spot.{Spot}
use Rattle.laws.specs.Walk.{Inside, step-inside, scan-opt, options-opt, options-end, options-bad, get_or-next}

-- an option of code c stands at a place, with its content at s, n long, and the next one at x
pub record Stepped (m : List ℕ) (at e c s n x : ℕ) : Type 0 where
  pub is : step_at m at e ≡ Opt c s n x
  pub inside : Inside m at e c s n x

pub stepped : (m : List ℕ) (at e : ℕ) {c s n x : ℕ} → step_at m at e ≡ Opt c s n x → Stepped m at e c s n x
stepped m at e h = record { is = h; inside = step-inside m at e h }

-- no option stands there
pub record Stopped (m : List ℕ) (at e : ℕ) : Type 0 where
  pub none : (w : ℕ) → options w (area_of m at e) ≡ []

pub ended : (m : List ℕ) (at e : ℕ) → step_at m at e ≡ End → Stopped m at e
ended m at e h = record { none = λ w. options-end w m at e h }

pub broke : (m : List ℕ) (at e : ℕ) {p : ℕ} → step_at m at e ≡ Bad p → Stopped m at e
broke m at e h = record { none = λ w. options-bad w m at e h }

module _ (w : ℕ) {m : List ℕ} {at e c s n x : ℕ} (h : Stepped m at e c s n x) where
  pub options-here : c ≡ w → options w (area_of m at e) ≡ Some (spot at s n) ∷ options w (area_of m x e)
  options-here q = options-opt w m at e h.is ∙ rw (eq-eqb c w q)

  pub options-past : (c ≡ w → ⊥) → options w (area_of m at e) ≡ options w (area_of m x e)
  options-past q = options-opt w m at e h.is ∙ rw (ne_eqb c w q)

  -- the k-th is here, is counted from the next place on, or is past another option
  pub nth_here : {k : ℕ} → c ≡ w → k ≡ 0 → nth w k (area_of m at e) ≡ Some (spot at s n)
  nth_here q z = rw (options-here q, z)

  pub nth-next : {k : ℕ} → c ≡ w → (k ≡ 0 → ⊥) → nth w k (area_of m at e) ≡ nth w (k - 1) (area_of m x e)
  nth-next {k} q z = rw (options-here q) (get_or-next (Some (spot at s n)) (options w (area_of m x e)) k None z)

  pub nth_past : (k : ℕ) → (c ≡ w → ⊥) → nth w k (area_of m at e) ≡ nth w k (area_of m x e)
  nth_past k q = rw (options-past q)

module _ (own : ℕ → ℕ → ℕ → ℕ → ℕ → Checked) (k : ℕ) {m : List ℕ} {at e c s n x : ℕ} (h : Stepped m at e c s n x) where
  pub scan-broken : {p : ℕ} → own k at c s n ≡ Err p → scan own k (area_of m at e) ≡ Err p
  scan-broken g = scan-opt own k m at e h.is g

  pub scan-seen : own k at c s n ≡ Ok tt → c ≡ 67 → scan own k (area_of m at e) ≡ scan own (k + 1) (area_of m x e)
  scan-seen g q = scan-opt own k m at e h.is g ∙ rw (eq-eqb c 67 q)

  pub scan-past : own k at c s n ≡ Ok tt → (c ≡ 67 → ⊥) → scan own k (area_of m at e) ≡ scan own k (area_of m x e)
  scan-past g q = scan-opt own k m at e h.is g ∙ rw (ne_eqb c 67 q)

any-cons : (f : Option Spot → Bool) (b : Bool) (x : Option Spot) (l : List (Option Spot)) → any f (cons_if b x l) ≡ (b && f x) || any f l
any-cons f true x l = refl
any-cons f false x l = refl

module _ (f : Option Spot → Bool) (w : ℕ) {m : List ℕ} {at e : ℕ} where
  any-turn : {c s n x : ℕ} → Stepped m at e c s n x → any f (options w (area_of m at e)) ≡ (eqb c w && f (Some (spot at s n))) || any f (options w (area_of m x e))
  any-turn {c} {s} {n} {x} h = rw (options-opt w m at e h.is, any-cons f (eqb c w) (Some (spot at s n)) (options w (area_of m x e)))

  -- this one passes, or what is left decides
  pub any-hit : {c s n x : ℕ} {b : Bool} → Stepped m at e c s n x → b ≡ eqb c w && f (Some (spot at s n)) → b ≡ true → any f (options w (area_of m at e)) ≡ true
  any-hit h q t = any-turn h ∙ rw (← q, t)

  pub any-miss : {c s n x : ℕ} {b : Bool} → Stepped m at e c s n x → b ≡ eqb c w && f (Some (spot at s n)) → b ≡ false
      → any f (options w (area_of m at e)) ≡ any f (options w (area_of m x e))
  any-miss h q t = any-turn h ∙ rw (← q, t)

  pub any-stop : Stopped m at e → any f (options w (area_of m at e)) ≡ false
  any-stop h = rw (h.none w)

pub nth-none : (w k : ℕ) {m : List ℕ} {at e : ℕ} → Stopped m at e → nth w k (area_of m at e) ≡ None
nth-none w k h = rw (h.none w)

pub any-map : {A B : Type 0} (f : B → Bool) (g : A → B) (l : List A) → any f (map g l) ≡ any (λ x. f (g x)) l
any-map f g [] = refl
any-map f g (x ∷ l) = rw (any-map f g l)

-- past the end every byte is 0
pub u16-past : (m : List ℕ) (at : ℕ) → length m ≤ at → u16_at m at ≡ 0
u16-past m at h = rw (get_or-eq_default m 0 h, get_or-eq_default m 0 {n = at + 1} (omega arith))
