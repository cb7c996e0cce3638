-- Laws of well-formedness: what a good area says of each option in it, so that it can be read.
--   Judged                  an option that was found was judged good
--   PdFormed, PrefixFormed  what is known of the content of an IA_PD, of an IA Prefix
--   judged-..               what the judgement of one option says of it
--   formed-..               what is known of each that is found in a well-formed message
use Rattle.std.specs.Prelude.{◌≡◌, refl, ℕ, zero, suc, ◌+◌, ◌≤◌, List, Bool, true, false, cond, ◌&&◌, eqb, length, None, Ok, Some}
use Rattle.std.proofs.Common.{arith}
use borrow.Author.Tests.{eqb-true, leb-true}
use Rattle.std.proofs.Math.Dec.{leb}
use Rattle.std.proofs.Math.ListN.{get_or}
use Rattle.rules.specs.Words.{cons_if}
use Rattle.rules.specs.Options.{Area, over, stop, opt, area_of, wants, scan, exclude_ok, check_prefix, check_pd, own, check, options, nth, spot, Checked}
use Rattle.rules.specs.Message.{listed_at, ia_at, top, well_formed}
use Rattle.rules.specs.declared.Level.{Level}
use Rattle.rules.specs.declared.Level.TheVariants.{Top, InPd, InPrefix}
use Rattle.laws.specs.Told.{is-good, and-good, wants-good}
use Rattle.laws.specs.Tests.{both}
use Rattle.laws.specs.Walk.{same-spot, nth_inside}

-- ---------------------------------------------------------------- each option of a good area was judged good

pub record Judged (own : ℕ → ℕ → ℕ → ℕ → ℕ → Checked) (w p s n : ℕ) : Type 0 where
  pub seen : ℕ
  pub good : own seen p w s n ≡ Ok tt

judged-in : (own : ℕ → ℕ → ℕ → ℕ → ℕ → Checked) (w : ℕ) (r : Area) (k j : ℕ) {p s n : ℕ} → scan own k r ≡ Ok tt → get_or (options w r) j None ≡ Some (spot p s n) → Judged own w p s n
unfolding scan options
judged-in own w over k j h f = let z : ◌≡◌ {A = ℕ} 0 1 = cc in absurd (omega arith)
judged-in own w (stop q) k j h f = let z : ◌≡◌ {A = ℕ} 0 1 = cc in absurd (omega arith)
judged-in own w (opt q c t l r) k j {p} {s} {n} h f =
    let a = and-good (own k q c t l) (scan own (cond (eqb c 67) (k + 1) k) r) h in
    by (eqb c w) refl j f a.0 (λ i g. judged-in own w r (cond (eqb c 67) (k + 1) k) i a.1 g)
  where
    by : (b : Bool) → eqb c w ≡ b → (i : ℕ) → get_or (cons_if b (Some (spot q t l)) (options w r)) i None ≡ Some (spot p s n) → own k q c t l ≡ Ok tt
        → ((i : ℕ) → get_or (options w r) i None ≡ Some (spot p s n) → Judged own w p s n) → Judged own w p s n
    by false e i f g ih = ih i f
    by true e (suc i) f g ih = ih i f
    by true e zero f g ih =
        let x = same-spot f in
        let d : c ≡ w = eqb-true c w e in
        record { seen = k; good = rw (← x.0, ← x.1, ← x.2, ← d) g }

-- ---------------------------------------------------------------- what a judgement says

pub record PdFormed (m : List ℕ) (s n : ℕ) : Type 0 where
  pub long : 12 ≤ n
  pub within : s + n ≤ length m
  pub inner : check InPd m (s + 12) (s + n) ≡ Ok tt

pub record PrefixFormed (m : List ℕ) (s n : ℕ) : Type 0 where
  pub long : 25 ≤ n
  pub within : s + n ≤ length m
  pub short : get_or m (s + 8) 0 ≤ 128
  pub inner : check_prefix m (get_or m (s + 8) 0) (s + 25) (s + n) ≡ Ok tt

module _ (m : List ℕ) (i p s n : ℕ) where
  pub judged-pd : s + n ≤ length m → own Top m i p 25 s n ≡ Ok tt → PdFormed m s n
  unfolding own check check_pd
  judged-pd w h =
      let a = and-good (wants (leb 12 n) p) (check_pd m (s + 12) (s + n)) h in
      record { long = leb-true 12 n (wants-good (leb 12 n) p a.0); within = w; inner = a.1 }

  pub judged-prefix : s + n ≤ length m → own InPd m i p 26 s n ≡ Ok tt → PrefixFormed m s n
  unfolding own
  judged-prefix w h =
      let g = get_or m (s + 8) 0 in
      let a = and-good (wants (leb 25 n && leb g 128) p) (check_prefix m g (s + 25) (s + n)) h in
      let b = both (leb 25 n) (leb g 128) (wants-good (leb 25 n && leb g 128) p a.0) in
      record { long = leb-true 25 n b.0; within = w; short = leb-true g 128 b.1; inner = a.1 }

  pub judged-exclude : (a : ℕ) → own (InPrefix a) m i p 67 s n ≡ Ok tt → exclude_ok m a s n ≡ true
  unfolding own
  judged-exclude a h = (both (eqb i 0) (exclude_ok m a s n) (wants-good (eqb i 0 && exclude_ok m a s n) p h)).1

-- ---------------------------------------------------------------- what is found in a good area

pub good-found : (l : Level) (m : List ℕ) (w k at e : ℕ) {p s n : ℕ} → check l m at e ≡ Ok tt → nth w k (area_of m at e) ≡ Some (spot p s n) → Judged (own l m) w p s n
unfolding check
good-found l m w k at e h f = judged-in (own l m) w (area_of m at e) 0 k h f

pub good-exclude : (m : List ℕ) (a k at e : ℕ) {p s n : ℕ} → check_prefix m a at e ≡ Ok tt → nth 67 k (area_of m at e) ≡ Some (spot p s n) → exclude_ok m a s n ≡ true
unfolding check_prefix check own
good-exclude m a k at e {p} {s} {n} h f = let j = good-found (InPrefix a) m 67 k at e h f in judged-exclude m j.seen p s n a j.good

module _ (m : List ℕ) (good : well_formed m ≡ true) where
  formed : check Top m 4 (length m) ≡ Ok tt
  unfolding well_formed
  formed = is-good (check Top m 4 (length m)) good

  pub formed-pd : (k : ℕ) {p s n : ℕ} → nth 25 k (top m) ≡ Some (spot p s n) → PdFormed m s n
  unfolding top
  formed-pd k {p} {s} {n} f = let j = good-found Top m 25 k 4 (length m) formed f in judged-pd m j.seen p s n (nth_inside 25 k m 4 (length m) f) j.good

pub formed-prefix : (m : List ℕ) (s n : ℕ) → PdFormed m s n → (k : ℕ) {p t l : ℕ} → nth 26 k (area_of m (s + 12) (s + n)) ≡ Some (spot p t l) → PrefixFormed m t l
formed-prefix m s n h k {p} {t} {l} f =
    let j = good-found InPd m 26 k (s + 12) (s + n) h.inner f in
    let w = nth_inside 26 k m (s + 12) (s + n) f in
    judged-prefix m j.seen p t l (omega arith) j.good

-- what is read of an option does not depend on its place
pub listed-place : (m : List ℕ) (p s n : ℕ) → listed_at m (Some (spot p s n)) ≡ listed_at m (Some (spot 0 s n))
unfolding listed_at
listed-place m p s n = refl

pub ia-place : (m : List ℕ) (p s n : ℕ) → ia_at m (Some (spot p s n)) ≡ ia_at m (Some (spot 0 s n))
unfolding ia_at
ia-place m p s n = refl
