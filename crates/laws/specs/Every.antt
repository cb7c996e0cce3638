-- Something holds of each element of a list.
use Rattle.std.specs.Prelude.{◌≡◌, Bool, true, false, List, [], ◌∷◌, map, ℕ, zero, suc, get_or}
use Rattle.rules.specs.Words.{all, cons_if, keep}
use Rattle.laws.specs.Tests.{both}

module _ {A : Type 0} where
  abbrev pub Every : (A → Type 0) → List A → Type 0
  Every P [] = Unit {0}
  Every P (x ∷ l) = P x × Every P l

  pub every : {P : A → Type 0} → ((x : A) → P x) → (l : List A) → Every P l
  every h [] = tt
  every h (x ∷ l) = (h x, every h l)

  pub every-weaker : {P Q : A → Type 0} → ((x : A) → P x → Q x) → (l : List A) → Every P l → Every Q l
  every-weaker f [] h = tt
  every-weaker f (x ∷ l) h = (f x h.0, every-weaker f l h.1)

  pub every-both : {P Q R : A → Type 0} → ((x : A) → P x → Q x → R x) → (l : List A) → Every P l → Every Q l → Every R l
  every-both f [] h g = tt
  every-both f (x ∷ l) h g = (f x h.0 g.0, every-both f l h.1 g.1)

  pub every-keep : (P : A → Type 0) (f : A → Bool) (l : List A) → Every P l → Every P (keep f l)
  every-keep P f [] h = tt
  every-keep P f (x ∷ l) h = by (f x) (every-keep P f l h.1)
    where
      by : (b : Bool) → Every P (keep f l) → Every P (cons_if b x (keep f l))
      by true g = (h.0, g)
      by false g = g

  -- at each place, where it holds of what stands for none
  pub every-at : (P : A → Type 0) (d : A) (l : List A) (k : ℕ) → P d → Every P l → P (get_or l k d)
  every-at P d [] k h g = h
  every-at P d (x ∷ l) zero h g = g.0
  every-at P d (x ∷ l) (suc k) h g = every-at P d l k h g.1

  -- a test that all pass
  pub every-all : (f : A → Bool) (l : List A) → all f l ≡ true → Every (λ x. f x ≡ true) l
  every-all f [] h = tt
  every-all f (x ∷ l) h = let p = both (f x) (all f l) h in (p.0, every-all f l p.1)

pub every_map : {A B : Type 0} (P : B → Type 0) (f : A → B) (l : List A) → Every (λ x. P (f x)) l → Every P (map f l)
every_map P f [] h = tt
every_map P f (x ∷ l) h = (h.0, every_map P f l h.1)
