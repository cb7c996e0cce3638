-- What is noted on the way: with what is left of the message it is what stands in the whole.
--   SoFar, -       the options of one code
--   good-          whether an option is good
--   Walked, -      what is noted at a place of the walk
--   heard-         a message walked to its end, or not well formed
--   noted-         the Client ID's stretch
use Rattle.std.specs.Prelude.{Err, None, Ok, Option, Some, is_ok}
use mathlib.Core.Path.{◌≡◌, refl, sym, ap, ◌∙◌}
use mathlib.Core.Bool.{Bool, true, false, cond, not, ◌&&◌, ◌||◌, and-false, or-false, or-true}
use mathlib.Core.List.{List, [], ◌∷◌}
use Prim.Native.Nat.{ℕ, zero, suc, ◌+◌, ◌%◌, ◌≤◌}
use native.Mathlib.Omega.{arith}
use borrow.Author.Tests.{eq-eqb, ne_eqb, ltb-false}
use lib.Dec.{eqb, leb, ltb}
use lib.ListN.{length, get_or}
use Rattle.rules.specs.Words.{any, cons_if, part}
use Rattle.rules.specs.Refusals.{wrong_size}
use Rattle.rules.specs.Options.{Area, over, stop, opt, step_at, area_of, wants, scan, and_then, own, check, options, content, spot, Checked}
use Rattle.rules.specs.Message.{asks67, top, read, well_formed}
use Rattle.rules.specs.declared.Level.TheVariants.{Top}
use Rattle.rules.specs.declared.Step.TheVariants.{End, Bad}
use Rattle.rules.specs.declared.Spot.{Spot}
use Rattle.laws.specs.Tests.{false-true, neither}
use Rattle.laws.specs.Steps.{Stepped, ended, any-hit, any-miss, any-stop, any-map}
use Rattle.laws.specs.Walk.{scan-opt, scan-end, scan-bad, options-opt}
use Rattle.wire.specs.Found.{Within, nth-within}
use Rattle.notes.specs.declared.Note.{Note}
use Rattle.notes.specs.declared.Notes.{Notes}
use Rattle.wire.specs.Client.{client_stretch}
use Rattle.wire.proofs.Laws.{client-other, client-one}
use Rattle.notes.specs.Noted.{note_on, is_counted, empty, notes, IsNote, Noted, Heard}

-- ---------------------------------------------------------------- the options of one code

-- of the options l, with r still to come
pub record SoFar (l r : List (Option Spot)) (x : Note) : Type 0 where
  pub counted : length l ≡ x.count + length r
  pub before : x.count ≡ 0 → (x.first ≡ None) × (get_or l 0 None ≡ get_or r 0 None)
  pub after : (x.count ≡ 0 → ⊥) → x.first ≡ get_or l 0 None

so-start : (l : List (Option Spot)) → SoFar l l empty
so-start l = record { counted = omega arith; before = λ h. (refl, refl); after = λ h. absurd (h refl) }

so-end : (l : List (Option Spot)) (x : Note) → SoFar l [] x → (x.count ≡ length l) × (x.first ≡ get_or l 0 None)
so-end l x h = (omega (arith, h.counted), by x.count refl)
  where
    by : (k : ℕ) → x.count ≡ k → x.first ≡ get_or l 0 None
    by zero q = (h.before q).0 ∙ sym (h.before q).1
    by (suc k) q = h.after (λ z. omega arith)

so-found : (l r : List (Option Spot)) (f : Option Spot) (x : Note) → SoFar l (f ∷ r) x → SoFar l r (record { count = x.count + 1; first = cond (eqb x.count 0) f x.first })
so-found l r f x h = record {
  counted = omega (arith, h.counted);
  before = λ z. absurd (omega arith);
  after = λ z. by x.count refl;
}
  where
    by : (k : ℕ) → x.count ≡ k → cond (eqb x.count 0) f x.first ≡ get_or l 0 None
    by zero q = rw (eq-eqb x.count 0 q) (sym (h.before q).1)
    by (suc k) q = let n : x.count ≡ 0 → ⊥ = λ z. omega arith in rw (ne_eqb x.count 0 n) (h.after n)

so-next : (w p c s n : ℕ) (l r : List (Option Spot)) (x : Note) → SoFar l (cons_if (eqb c w) (Some (spot p s n)) r) x → SoFar l r (note_on w p c s n x)
unfolding note_on
so-next w p c s n l r x h = by (eqb c w) h
  where
    by : (b : Bool) → SoFar l (cons_if b (Some (spot p s n)) r) x → SoFar l r (cond b (record { count = x.count + 1; first = cond (eqb x.count 0) (Some (spot p s n)) x.first }) x)
    by true h = so-found l r (Some (spot p s n)) x h
    by false h = h

-- as code notes it: an option of another code, the first of this one, a later one
module _ (w p c s n : ℕ) (x : Note) where
  pub note-past : (c ≡ w → ⊥) → x ≡ note_on w p c s n x
  unfolding note_on
  note-past h = rw (ne_eqb c w h)

  pub note-first : c ≡ w → x.count ≡ 0 → record { count = 1; first = Some (spot p s n) } ≡ note_on w p c s n x
  unfolding note_on
  note-first h z = rw (eq-eqb c w h, eq-eqb x.count 0 z, z)

  pub note-later : c ≡ w → (x.count ≡ 0 → ⊥) → record { count = x.count + 1; first = x.first } ≡ note_on w p c s n x
  unfolding note_on
  note-later h z = rw (eq-eqb c w h, ne_eqb x.count 0 z)

-- ---------------------------------------------------------------- the walk

-- at the message's own level it tells nothing how many PD Excludes came before
scan-any : (m : List ℕ) (k j : ℕ) (a : Area) → scan (own Top m) k a ≡ scan (own Top m) j a
unfolding scan own
scan-any m k j over = refl
scan-any m k j (stop p) = refl
scan-any m k j (opt p c s n r) = ap (and_then (own Top m 0 p c s n)) (scan-any m (cond (eqb c 67) (k + 1) k) (cond (eqb c 67) (j + 1) j) r)

-- one option there, as code judges it
module _ (m : List ℕ) (p c s n : ℕ) where
  pub good-request : c ≡ 6 → eqb (n % 2) 0 ≡ is_ok (own Top m 0 p c s n)
  unfolding own
  good-request h = rw h (by (eqb (n % 2) 0))
    where
      by : (b : Bool) → b ≡ is_ok (wants b p)
      by true = refl
      by false = refl

  pub good-other : (c ≡ 25 → ⊥) → (c ≡ 6 → ⊥) → not (eqb c 13) || leb 2 n ≡ is_ok (own Top m 0 p c s n)
  unfolding own
  good-other h g = rw (ne_eqb c 25 h, ne_eqb c 6 g) (by (eqb c 13) (leb 2 n))
    where
      by : (b d : Bool) → not b || d ≡ is_ok (cond b (wants d p) (Ok tt))
      by true true = refl
      by true false = refl
      by false d = refl

is-good : (r : Checked) → is_ok r ≡ true → r ≡ Ok tt
is-good (Ok u) h = refl
is-good (Err p) h = absurd (false-true h)

-- a message that isn't well formed, or isn't walked
abbrev unheard : Notes
unheard = notes false empty empty empty false

not_noted : (m : List ℕ) → not (wrong_size m) && well_formed m ≡ false → Heard m unheard
not_noted m h = record { formed = sym h; noted = λ z. absurd (false-true z) }

not-formed : (m : List ℕ) → is_ok (scan (own Top m) 0 (area_of m 4 (length m))) ≡ false → Heard m unheard
unfolding well_formed check
not-formed m h = not_noted m (rw h (and-false (not (wrong_size m))))

pub heard-size : (m : List ℕ) → wrong_size m ≡ true → Heard m unheard
heard-size m h = not_noted m (rw h)

pub size_fits : (m : List ℕ) → wrong_size m ≡ false → length m ≤ 1232
size_fits m h = ltb-false 1232 (length m) (neither (ltb (length m) 4) (ltb 1232 (length m)) h).1

then-bad : (r t : Checked) → is_ok r ≡ false → is_ok (and_then r t) ≡ false
then-bad (Ok u) t h = absurd (false-true (sym h))
then-bad (Err p) t h = refl

abbrev asks_at : List ℕ → Option Spot → Bool
asks_at m f = asks67 (content m f)

-- a code that isn't counted is none of the three
uncounted : (c w : ℕ) → is_counted w ≡ true → is_counted c ≡ false → c ≡ w → ⊥
uncounted c w h g e = false-true (sym g ∙ rw e h)

module _ (m : List ℕ) where
  abbrev rest : ℕ → Area
  rest p = area_of m p (length m)

  abbrev Left : ℕ → ℕ → Note → Type 0
  Left w p x = SoFar (options w (rest 4)) (options w (rest p)) x × (x.count ≤ p)

  -- what is noted at the place p
  pub record Walked (p : ℕ) (client server pd : Note) (asks : Bool) : Type 0 where
    pub clients : Left 1 p client
    pub servers : Left 2 p server
    pub pds : Left 25 p pd
    pub asked : any (asks_at m) (options 6 (rest 4)) ≡ asks || any (asks_at m) (options 6 (rest p))
    pub good : scan (own Top m) 0 (rest 4) ≡ scan (own Top m) 0 (rest p)

  pub walked_start : {a b c : Note} → a ≡ empty → b ≡ empty → c ≡ empty → Walked 4 a b c false
  walked_start ha hb hc = record { clients = left 1 ha; servers = left 2 hb; pds = left 25 hc; asked = refl; good = refl }
    where
      left : (w : ℕ) {x : Note} → x ≡ empty → Left w 4 x
      left w h = rw h (so-start (options w (rest 4)), omega arith)

  module _ {p c s n x : ℕ} (h : Stepped m p (length m) c s n x) where
    left_step : (w : ℕ) (y : Note) → Left w p y → Left w x (note_on w p c s n y)
    unfolding note_on
    left_step w y g = (so-next w p c s n (options w (rest 4)) (options w (rest x)) y (rw (options-opt w m p (length m) h.is) at g.0), by (eqb c w))
      where
        by : (b : Bool) → (cond b (record { count = y.count + 1; first = cond (eqb y.count 0) (Some (spot p s n)) y.first }) y).count ≤ x
        by true = omega (arith, h, g.1)
        by false = omega (arith, h, g.1)

    asks-step : (a all : Bool) → all ≡ a || any (asks_at m) (options 6 (rest p)) → all ≡ (a || (eqb c 6 && asks67 (part s n m))) || any (asks_at m) (options 6 (rest x))
    asks-step a all g = by (eqb c 6 && asks67 (part s n m)) refl
      where
        by : (b : Bool) → b ≡ eqb c 6 && asks67 (part s n m) → all ≡ (a || b) || any (asks_at m) (options 6 (rest x))
        by true q = g ∙ rw (any-hit (asks_at m) 6 h q refl, or-true a)
        by false q = g ∙ rw (any-miss (asks_at m) 6 h q refl, or-false a)

    module _ {client server pd : Note} {asks : Bool} (g : Walked p client server pd asks) where
      pub heard-bad : is_ok (own Top m 0 p c s n) ≡ false → Heard m unheard
      heard-bad k =
          not-formed m (rw (g.good, scan-opt (own Top m) 0 m p (length m) h.is refl) (then-bad (own Top m 0 p c s n) (scan (own Top m) (cond (eqb c 67) 1 0) (rest x)) k))

      module _ (k : is_ok (own Top m 0 p c s n) ≡ true) {asks' : Bool} (q : asks' ≡ asks || (eqb c 6 && asks67 (part s n m))) where
        pub walked-counted : {a b d : Note} → a ≡ note_on 1 p c s n client → b ≡ note_on 2 p c s n server → d ≡ note_on 25 p c s n pd → Walked x a b d asks'
        walked-counted ea eb ed = record {
          clients = rw ea (left_step 1 client g.clients);
          servers = rw eb (left_step 2 server g.servers);
          pds = rw ed (left_step 25 pd g.pds);
          asked = rw q (asks-step asks (any (asks_at m) (options 6 (rest 4))) g.asked);
          good =
              g.good
              ∙ scan-opt (own Top m) 0 m p (length m) h.is (is-good (own Top m 0 p c s n) k)
              ∙ scan-any m (cond (eqb c 67) 1 0) 0 (rest x);
        }

        pub walked-past : is_counted c ≡ false → Walked x client server pd asks'
        unfolding is_counted
        walked-past f =
            walked-counted
            (note-past 1 p c s n client (uncounted c 1 refl f))
            (note-past 2 p c s n server (uncounted c 2 refl f))
            (note-past 25 p c s n pd (uncounted c 25 refl f))

  module _ {p : ℕ} {client server pd : Note} {asks : Bool} (g : Walked p client server pd asks) where
    pub heard-cut : {q : ℕ} → step_at m p (length m) ≡ Bad q → Heard m unheard
    heard-cut k = not-formed m (rw (g.good, scan-bad (own Top m) 0 m p (length m) k))

    module _ (k : step_at m p (length m) ≡ End) where
      is-note : (w : ℕ) (x : Note) → Left w p x → IsNote w m x
      unfolding top
      is-note w x h = let e = so-end (options w (rest 4)) x (rw ((ended m p (length m) k).none w) at h.0) in record { counts = e.0; begins = e.1 }

      all_noted : Noted m (notes true client server pd asks)
      unfolding read top
      all_noted = record {
        client = is-note 1 client g.clients;
        server = is-note 2 server g.servers;
        pd = is-note 25 pd g.pds;
        asks =
            sym (any-map asks67 (content m) (options 6 (rest 4)) ∙ g.asked ∙ rw (any-stop (asks_at m) 6 (ended m p (length m) k), or-false asks));
      }

      pub heard_all : wrong_size m ≡ false → Heard m (notes true client server pd asks)
      unfolding well_formed check
      heard_all h = record { formed = sym (rw (h, g.good, scan-end (own Top m) 0 m p (length m) k)); noted = λ z. all_noted }

-- ---------------------------------------------------------------- the Client ID

module _ (m : List ℕ) (x : Note) (h : IsNote 1 m x) where
  pub noted_other : (x.count ≡ 1 → ⊥) → [] ≡ client_stretch m
  unfolding top
  noted_other n = client-other m h.counts n

  pub noted_one : x.count ≡ 1 → {f : Option Spot} → x.first ≡ f → content m f ≡ client_stretch m
  unfolding top
  noted_one q g = client-one m h.counts q (sym g ∙ h.begins)

  pub noted-within : Within (length m) x.first
  unfolding top
  noted-within = nth-within 1 0 m 4 (length m) x.first (omega arith) h.begins
