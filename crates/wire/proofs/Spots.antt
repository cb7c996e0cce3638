-- The options of one code as a list of places.
--   stops                    no option stands where a turn ends the walk
--   spots-count, -nth, -any  how many there are, the k-th, and whether some passes a test
--   spots-at                 one that the list has is an option of the area
--   spots-few                there are few enough to be counted
use Rattle.std.specs.Prelude.{◌≡◌, refl, ℕ, zero, suc, ◌+◌, ◌-◌, ◌≤◌, ◌<◌, List, [], ◌∷◌, map, Bool, true, false, ◌⊎◌, eqb, length, get_or, None, Option, Some, slice_get}
use Rattle.std.specs.List.{list_any}
use Rattle.std.specs.Option.{option_map}
use Rattle.std.proofs.Common.{◌∙◌, ap, arith, inl, inr, sym}
use Rattle.std.proofs.lemmas.List.{length-map}
use Rattle.std.proofs.lemmas.Option.{slice_get_read}
use Rattle.rules.specs.Words.{any, cons_if}
use Rattle.rules.specs.Options.{Area, over, stop, opt, step_at, grow, walk, area_of, options, count, nth, spot}
use Rattle.rules.specs.declared.Spot.{Spot}
use Rattle.rules.specs.declared.Step.{Step}
use Rattle.rules.specs.declared.Step.TheVariants.{Opt, End, Bad}
use Rattle.laws.specs.Steps.{Stopped, ended, broke}
use Rattle.wire.specs.Spots.{there}

pub stops : (m : List ℕ) (at e : ℕ) {r : Step} → r ≡ step_at m at e → (r ≡ End) ⊎ ((x : ℕ) × (r ≡ Bad x)) → Stopped m at e
stops m at e q (inl h) = ended m at e (sym q ∙ h)
stops m at e q (inr h) = broke m at e (sym q ∙ h.1)

module _ (w : ℕ) where
  pub options-there : (a : Area) → options w a ≡ map Some (there (options w a))
  unfolding options
  options-there over = refl
  options-there (stop p) = refl
  options-there (opt p c s n r) = by (eqb c w) (options-there r)
    where
      by : (b : Bool) → options w r ≡ map Some (there (options w r))
          → cons_if b (Some (spot p s n)) (options w r) ≡ map Some (there (cons_if b (Some (spot p s n)) (options w r)))
      by true h = ap (λ l. Some (spot p s n) ∷ l) h
      by false h = h

  pub spots-count : (a : Area) → length (there (options w a)) ≡ count w a
  spots-count a = sym (ap length (options-there a) ∙ length-map (there (options w a)) Some)

  nth-some : (l : List Spot) (k : ℕ) → get_or (map Some l) k None ≡ slice_get l k
  nth-some [] k = refl
  nth-some (x ∷ l) zero = refl
  nth-some (x ∷ l) (suc k) = nth-some l k

  pub spots-nth : (a : Area) (k : ℕ) → slice_get (there (options w a)) k ≡ nth w k a
  spots-nth a k = sym (ap (λ l. get_or l k None) (options-there a) ∙ nth-some (there (options w a)) k)

  -- one that the list has is the option at its place in the order
  pub spots-at : (a : Area) (x : Spot) (k : ℕ) → k < length (there (options w a)) → x ≡ get_or (there (options w a)) k x → nth w k a ≡ Some x
  spots-at a x k h q = sym (spots-nth a k) ∙ slice_get_read (there (options w a)) _ k x refl h q

  any-some : (f : Option Spot → Bool) (l : List Spot) → any f (map Some l) ≡ list_any (λ o. f (Some o)) l
  any-some f [] = refl
  any-some f (x ∷ l) = rw (any-some f l)

  pub spots-any : (f : Option Spot → Bool) (a : Area) → any f (options w a) ≡ list_any (λ o. f (Some o)) (there (options w a))
  spots-any f a = ap (any f) (options-there a) ∙ any-some f (there (options w a))

  grown : (f : ℕ → Area) (at n : ℕ) (r : Step) → ((x : ℕ) → length (there (options w (f x))) ≤ n) → length (there (options w (grow f at r))) ≤ n + 1
  unfolding options
  grown f at n (Opt c s k x) h = by (eqb c w) (h x)
    where
      by : (b : Bool) → length (there (options w (f x))) ≤ n → length (there (cons_if b (Some (spot at s k)) (options w (f x)))) ≤ n + 1
      by true g = omega arith
      by false g = omega arith
  grown f at n End h = omega arith
  grown f at n (Bad p) h = omega arith

  walk-few : (f : ℕ) (m : List ℕ) (at e : ℕ) → length (there (options w (walk f m at e))) ≤ f
  unfolding walk options
  walk-few zero m at e = omega arith
  walk-few (suc f) m at e = let g = grown (λ x. walk f m x e) at f (step_at m at e) (λ x. walk-few f m x e) in omega arith

  pub spots-few : (m : List ℕ) (at e : ℕ) → length (there (options w (area_of m at e))) ≤ e + 1
  unfolding area_of
  spots-few m at e = let g = walk-few (suc (e - at)) m at e in omega arith

-- an option that is seen as it is
pub itself : {A : Type 0} (o : Option A) → option_map (λ x. x) o ≡ o
itself None = refl
itself (Some x) = refl
