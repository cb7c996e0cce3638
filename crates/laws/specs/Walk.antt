-- Laws of the walk over an option area: `area-at` unfolds an area by one step, whatever the fuel.
use Rattle.std.specs.Prelude.{◌≡◌, refl, ℕ, zero, suc, ◌+◌, ◌-◌, ◌≤◌, ◌<◌, List, [], ◌∷◌, Bool, true, false, cond, ltb, leb, eqb, get_or, Err, None, Ok, Option, Some}
use Rattle.std.proofs.Math.Path.{ap}
use Rattle.std.proofs.lemmas.Option.{same_Some}
use Rattle.std.proofs.Common.{sym, ◌∙◌, arith, sub-one, leb-false, ltb-false}
use Rattle.rules.specs.Words.{u16_at, cons_if}
use Rattle.rules.specs.Options.{step_at, opt, grow, walk, area_of, and_then, Checked, scan, options, nth, spot}
use Rattle.rules.specs.declared.Spot.{Spot}
use Rattle.rules.specs.declared.Step.{Step}
use Rattle.rules.specs.declared.Step.TheVariants.{Opt, End, Bad}

abbrev step_by : Bool → Bool → Bool → List ℕ → ℕ → ℕ → Step
step_by a b d m at e = cond a End (cond b (Bad at) (cond d (Bad at) (Opt (u16_at m at) (at + 4) (u16_at m (at + 2)) (at + 4 + u16_at m (at + 2)))))

-- what an option's step says: its header and its content lie in the area
pub record Inside (m : List ℕ) (at e c s n x : ℕ) : Type 0 where
  pub code : c ≡ u16_at m at
  pub len : n ≡ u16_at m (at + 2)
  pub start : s ≡ at + 4
  pub next : x ≡ at + 4 + n
  pub within : x ≤ e

inside : (a b d : Bool) (m : List ℕ) (at e : ℕ) {c s n x : ℕ} → leb e at ≡ a → ltb (e - at) 4 ≡ b → ltb (e - at - 4) (u16_at m (at + 2)) ≡ d
    → step_by a b d m at e ≡ Opt c s n x → Inside m at e c s n x
inside true b d m at e p q r h = let z : ◌≡◌ {A = ℕ} 0 1 = cc in absurd (omega arith)
inside false true d m at e p q r h = let z : ◌≡◌ {A = ℕ} 0 1 = cc in absurd (omega arith)
inside false false true m at e p q r h = let z : ◌≡◌ {A = ℕ} 0 1 = cc in absurd (omega arith)
inside false false false m at e {c} {s} {n} {x} p q r h =
    let nx : at + 4 + u16_at m (at + 2) ≡ x = cc in let sx : at + 4 ≡ s = cc in let ln : u16_at m (at + 2) ≡ n = cc in let cd : u16_at m at ≡ c = cc in
    record { code = sym cd; len = sym ln; start = sym sx; next = omega arith; within = omega (arith, leb-false e at p, ltb-false (e - at) 4 q, ltb-false (e - at - 4) (u16_at m (at + 2)) r) }

pub step-inside : (m : List ℕ) (at e : ℕ) {c s n x : ℕ} → step_at m at e ≡ Opt c s n x → Inside m at e c s n x
step-inside m at e h = inside (leb e at) (ltb (e - at) 4) (ltb (e - at - 4) (u16_at m (at + 2))) m at e refl refl refl h

-- two walks with enough fuel agree
mutual-fuel : (f g : ℕ) (m : List ℕ) (e : ℕ) → ((x : ℕ) → e - x < f → e - x < g → walk f m x e ≡ walk g m x e)
    → (at : ℕ) (st : Step) → step_at m at e ≡ st → e - at < suc f → e - at < suc g
    → grow (λ x. walk f m x e) at st ≡ grow (λ x. walk g m x e) at st
mutual-fuel f g m e same at End h hf hg = refl
mutual-fuel f g m e same at (Bad p) h hf hg = refl
mutual-fuel f g m e same at (Opt c s n x) h hf hg =
    let i = step-inside m at e h in
    ap (opt at c s n) (same x (omega arith) (omega arith))

walk-fuel : (f g : ℕ) (m : List ℕ) (e at : ℕ) → e - at < f → e - at < g → walk f m at e ≡ walk g m at e
unfolding walk
walk-fuel zero g m e at hf hg = absurd (omega arith)
walk-fuel (suc f) zero m e at hf hg = absurd (omega arith)
walk-fuel (suc f) (suc g) m e at hf hg = mutual-fuel f g m e (λ x p q. walk-fuel f g m e x p q) at (step_at m at e) refl hf hg

one-step : (f : ℕ) (m : List ℕ) (e at : ℕ) (st : Step) → step_at m at e ≡ st → e - at < suc f → grow (λ x. walk f m x e) at st ≡ grow (λ x. area_of m x e) at st
unfolding area_of
one-step f m e at End h hf = refl
one-step f m e at (Bad p) h hf = refl
one-step f m e at (Opt c s n x) h hf = let i = step-inside m at e h in ap (opt at c s n) (walk-fuel f (suc (e - x)) m e x (omega arith) (omega arith))

pub area-step : (m : List ℕ) (at e : ℕ) → area_of m at e ≡ grow (λ x. area_of m x e) at (step_at m at e)
unfolding area_of walk
area-step m at e = one-step (e - at) m e at (step_at m at e) refl (omega arith)

-- the same, at a step that is known
pub area-at : (m : List ℕ) (at e : ℕ) {st : Step} → step_at m at e ≡ st → area_of m at e ≡ grow (λ x. area_of m x e) at st
area-at m at e h = area-step m at e ∙ ap (grow (λ x. area_of m x e) at) h

-- what a loop over an area needs: one law for each way a turn goes
module _ (own : ℕ → ℕ → ℕ → ℕ → ℕ → Checked) (k : ℕ) (m : List ℕ) (at e : ℕ) where
  pub scan-end : step_at m at e ≡ End → scan own k (area_of m at e) ≡ Ok tt
  unfolding scan
  scan-end h = ap (scan own k) (area-at m at e h)

  pub scan-bad : {p : ℕ} → step_at m at e ≡ Bad p → scan own k (area_of m at e) ≡ Err p
  unfolding scan
  scan-bad h = ap (scan own k) (area-at m at e h)

  pub scan-opt : {c s n x : ℕ} {r : Checked} → step_at m at e ≡ Opt c s n x → own k at c s n ≡ r
      → scan own k (area_of m at e) ≡ and_then r (scan own (cond (eqb c 67) (k + 1) k) (area_of m x e))
  unfolding scan
  scan-opt {c} {s} {n} {x} h g = ap (scan own k) (area-at m at e h) ∙ ap (λ (t : Checked). and_then t (scan own (cond (eqb c 67) (k + 1) k) (area_of m x e))) g

-- the k-th of a list with one in front
pub get_or-next : {A : Type 0} (x : A) (l : List A) (k : ℕ) (d : A) → (k ≡ 0 → ⊥) → get_or (x ∷ l) k d ≡ get_or l (k - 1) d
get_or-next x l zero d h = absurd (h refl)
get_or-next x l (suc k) d h = rw sub-one

-- the same option, part by part
pub same-spot : {p s n q t l : ℕ} → ◌≡◌ {A = Option Spot} (Some (spot p s n)) (Some (spot q t l)) → (p ≡ q) × (s ≡ t) × (n ≡ l)
same-spot {p} {s} {n} {q} {t} {l} e =
    let f = same_Some (spot p s n) (spot q t l) e in
    (ap (λ (o : Spot). o.place) f, ap (λ (o : Spot). o.start) f, ap (λ (o : Spot). o.len) f)

-- each option that an area has lies inside it
nth_here : (b : Bool) (f w k : ℕ) (m : List ℕ) (at e : ℕ) {c s n x : ℕ} {q t l : ℕ} → Inside m at e c s n x
    → ((j : ℕ) → get_or (options w (walk f m x e)) j None ≡ Some (spot q t l) → t + l ≤ e)
    → get_or (cons_if b (Some (spot at s n)) (options w (walk f m x e))) k None ≡ Some (spot q t l) → t + l ≤ e
nth_here false f w k m at e i ih h = ih k h
nth_here true f w zero m at e i ih h = let p = same-spot h in omega arith
nth_here true f w (suc k) m at e i ih h = ih k h

nth-step : (f w k : ℕ) (m : List ℕ) (at e : ℕ) (st : Step) {q t l : ℕ} → step_at m at e ≡ st
    → ((x j : ℕ) → get_or (options w (walk f m x e)) j None ≡ Some (spot q t l) → t + l ≤ e)
    → get_or (options w (grow (λ x. walk f m x e) at st)) k None ≡ Some (spot q t l) → t + l ≤ e
unfolding options
nth-step f w k m at e End g ih h = let z : ◌≡◌ {A = ℕ} 0 1 = cc in absurd (omega arith)
nth-step f w k m at e (Bad p) g ih h = let z : ◌≡◌ {A = ℕ} 0 1 = cc in absurd (omega arith)
nth-step f w k m at e (Opt c s n x) g ih h = nth_here (eqb c w) f w k m at e (step-inside m at e g) (ih x) h

walk-nth : (f w k : ℕ) (m : List ℕ) (at e : ℕ) {q t l : ℕ} → get_or (options w (walk f m at e)) k None ≡ Some (spot q t l) → t + l ≤ e
unfolding options walk
walk-nth zero w k m at e h = let z : ◌≡◌ {A = ℕ} 0 1 = cc in absurd (omega arith)
walk-nth (suc f) w k m at e h = nth-step f w k m at e (step_at m at e) refl (λ x j. walk-nth f w j m x e) h

pub nth_inside : (w k : ℕ) (m : List ℕ) (at e : ℕ) {q t l : ℕ} → nth w k (area_of m at e) ≡ Some (spot q t l) → t + l ≤ e
unfolding area_of
nth_inside w k m at e h = walk-nth (suc (e - at)) w k m at e h

module _ (w : ℕ) (m : List ℕ) (at e : ℕ) where
  pub options-end : step_at m at e ≡ End → options w (area_of m at e) ≡ []
  unfolding options
  options-end h = ap (options w) (area-at m at e h)

  pub options-bad : {p : ℕ} → step_at m at e ≡ Bad p → options w (area_of m at e) ≡ []
  unfolding options
  options-bad h = ap (options w) (area-at m at e h)

  pub options-opt : {c s n x : ℕ} → step_at m at e ≡ Opt c s n x → options w (area_of m at e) ≡ cons_if (eqb c w) (Some (spot at s n)) (options w (area_of m x e))
  unfolding options
  options-opt h = ap (options w) (area-at m at e h)
