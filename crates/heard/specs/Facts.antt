-- What is known of a message that passed the tests: its one Client ID, and its one IA_PD.
--   only_at, -inside, -nothing   the one option of a code stands alone, inside the message; or there isn't exactly one
--   Standing, standing           an option that isn't nothing stands somewhere
--   ClientAt, client-            the one Client ID of a served message whose row holds
--   pd-                          the one IA_PD
use Rattle.std.specs.Prelude.{◌≡◌, refl, Bool, false, cond, List, [], ◌∷◌, ℕ, ◌+◌, ◌≤◌, eqb, leb, None, Option, Some}
use Rattle.std.proofs.Common.{sym, ◌∙◌, arith}
use Rattle.std.proofs.Math.Path.{ap}
use Rattle.std.proofs.Math.Bool.{true}
use borrow.Author.Tests.{eq-eqb, ne_eqb, leb-true}
use Rattle.std.proofs.Math.ListN.{length, get_or}
use Rattle.std.proofs.lemmas.List.{length-map}
use Rattle.rules.specs.Words.{cons_if, part}
use Rattle.rules.specs.Options.{Area, over, stop, opt, options, count, nth, content, spot}
use Rattle.rules.specs.Message.{ia_at, top, read, well_formed}
use Rattle.rules.specs.Identity.{Duid, good_duid, served, row_holds}
use Rattle.rules.specs.Box.{client_of, ia_of}
use Rattle.rules.specs.declared.Spot.{Spot}
use Rattle.laws.specs.Tests.{both}
use Rattle.laws.specs.Parts.{length_part}
use Rattle.laws.specs.Walk.{nth_inside}
use Rattle.laws.specs.Formed.{PdFormed, formed-pd, ia-place}
use Rattle.laws.specs.Kinds.{row-one-client}
use Rattle.wire.specs.Client.{client_stretch}
use Rattle.heard.specs.Heard.{only_of}

-- ---------------------------------------------------------------- the one option of a code

-- what an area has of a code is never nothing
nth-nothing : (w : ℕ) (a : Area) → nth w 0 a ≡ None → options w a ≡ []
unfolding options
nth-nothing w over h = refl
nth-nothing w (stop p) h = refl
nth-nothing w (opt p c s n r) h = by (eqb c w) h (nth-nothing w r)
  where
    by : (b : Bool) → get_or (cons_if b (Some (spot p s n)) (options w r)) 0 None ≡ None → (nth w 0 r ≡ None → options w r ≡ []) → cons_if b (Some (spot p s n)) (options w r) ≡ []
    by true h ih = let z : ◌≡◌ {A = ℕ} 0 1 = cc in absurd (omega arith)
    by false h ih = ih h

abbrev alone : List (Option Spot) → Option Spot
alone l = cond (eqb (length l) 1) (get_or l 0 None) None

alone_at : (l : List (Option Spot)) {p s n : ℕ} → alone l ≡ Some (spot p s n) → l ≡ Some (spot p s n) ∷ []
alone_at [] h = let z : ◌≡◌ {A = ℕ} 0 1 = cc in absurd (omega arith)
alone_at (x ∷ []) h = ap (λ f. f ∷ []) h
alone_at (x ∷ y ∷ l) h = let e = ne_eqb (length (x ∷ y ∷ l)) 1 (λ q. omega arith) in let z : ◌≡◌ {A = ℕ} 0 1 = cc in absurd (omega arith)

alone-nothing : (l : List (Option Spot)) → (get_or l 0 None ≡ None → l ≡ []) → alone l ≡ None → length l ≡ 1 → ⊥
alone-nothing l g h q = let z : length l ≡ 0 = ap length (g (rw (eq-eqb (length l) 1 q) at h)) in omega arith

module _ (w : ℕ) (m : List ℕ) where
  pub only_at : {p s n : ℕ} → only_of w m ≡ Some (spot p s n) → options w (top m) ≡ Some (spot p s n) ∷ []
  unfolding only_of
  only_at h = alone_at (options w (top m)) h

  pub only-inside : {p s n : ℕ} → only_of w m ≡ Some (spot p s n) → s + n ≤ length m
  unfolding top
  only-inside h = nth_inside w 0 m 4 (length m) (ap (λ l. get_or l 0 None) (only_at h))

  pub only-nothing : only_of w m ≡ None → count w (top m) ≡ 1 → ⊥
  unfolding only_of
  only-nothing h = alone-nothing (options w (top m)) (nth-nothing w (top m)) h

pub record Standing (f : Option Spot) : Type 0 where
  pub place : ℕ
  pub start : ℕ
  pub len : ℕ
  pub is : f ≡ Some (spot place start len)

pub standing : (f : Option Spot) → (f ≡ None → ⊥) → Standing f
standing (Some o) h = record { place = o.place; start = o.start; len = o.len; is = refl }
standing None h = absurd (h refl)

-- ---------------------------------------------------------------- the Client ID

pub record ClientAt (m : List ℕ) (s n : ℕ) : Type 0 where
  pub within : s + n ≤ length m
  pub least : 3 ≤ n
  pub most : n ≤ 130
  pub bytes : part s n m ≡ client_of (read m)
  pub one : (read m).clients ≡ client_of (read m) ∷ []
  pub stretch : client_stretch m ≡ client_of (read m)

module _ (own : Duid) (m : List ℕ) (kind : served (read m).kind ≡ true) (row : row_holds own (read m) ≡ true) where
  pub client-at : {p s n : ℕ} → only_of 1 m ≡ Some (spot p s n) → ClientAt m s n
  unfolding read client_stretch
  client-at {p} {s} {n} h =
      let l = only_at 1 m h in
      let w = only-inside 1 m h in
      let c = row-one-client own (read m) kind row in
      let b : part s n m ≡ client_of (read m) = rw l in
      let g : good_duid (part s n m) ≡ true = rw b c.1 in
      let k = both (leb 3 (length (part s n m))) (leb (length (part s n m)) 130) g in
      let z = length_part s n m w in
      record {
        within = w;
        least = omega (arith, leb-true 3 (length (part s n m)) k.0);
        most = omega (arith, leb-true (length (part s n m)) 130 k.1);
        bytes = b;
        one = c.0;
        stretch = rw l;
      }

  pub client-stands : Standing (only_of 1 m)
  unfolding read
  client-stands = standing (only_of 1 m) (λ h. only-nothing 1 m h (sym (length-map (options 1 (top m)) (content m)) ∙ ap length (row-one-client own (read m) kind row).0))

-- ---------------------------------------------------------------- the IA_PD

module _ (m : List ℕ) {p s n : ℕ} (h : only_of 25 m ≡ Some (spot p s n)) where
  pub pd-formed : well_formed m ≡ true → PdFormed m s n
  pd-formed good = formed-pd m good 0 (ap (λ l. get_or l 0 None) (only_at 25 m h))

  pub pd-is : ia_of (read m) ≡ ia_at m (Some (spot 0 s n))
  unfolding read
  pd-is = rw (only_at 25 m h) (ia-place m p s n)
