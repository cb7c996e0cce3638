-- Where printed options stand in a message, walking the area gives these options at their places.
--   Stands, Heads          x stands in m at p; an option stands there, and something after it
--   stands-...             what stands, by its parts, bytes, numbers and options
--   placed, area_of_lem        the area of options from a place; it is what the walk gives where they are printed
--   bytes_of, bytes-...     the contents of a code among options, in order
--   Match, match           the places found hold these contents; so they do where the options are printed
--   Well, well             each option is good wherever it stands; then so is their area
--   match-values           what is read at the places is what was printed there
use Rattle.std.specs.Prelude.{◌≡◌, refl, Bool, true, false, cond, List, [], ◌∷◌, ◌++◌, map, ℕ, ◌+◌, ◌-◌, ◌*◌, ◌%◌, ◌^◌, ◌≤◌, ◌<◌, eqb, length, get_or, take, drop, None, Ok, Option, Some}
use Rattle.std.proofs.Math.Path.{ap}
use Rattle.std.proofs.Common.{sym, ◌∙◌, append_assoc, append-nil, add-zero, mod-eq_of_lt, arith, le-leb, le-ltb, length-append, get_or-drop, drop-drop}
use Rattle.std.proofs.lemmas.Bool.{lt-leb}
use Rattle.std.proofs.Math.Seq.{drop-append_seam, take_at}
use Rattle.rules.specs.Words.{cons_if, part, num, be, be16, num_at, u16_at}
use Rattle.rules.specs.Options.{step_at, Area, over, opt, area_of, and_then, scan, options, option, Item, item, printed, spot, Checked}
use Rattle.rules.specs.declared.Step.TheVariants.{Opt, End}
use Rattle.rules.specs.declared.Spot.{Spot}
use Rattle.laws.specs.Numbers.{length-be, num-be-fits}
use Rattle.laws.specs.Walk.{area-at}
use Rattle.laws.specs.Every.{Every}

-- ---------------------------------------------------------------- what stands at a place

-- x stands in m at the place p
pub record Stands (m : List ℕ) (p : ℕ) (x : List ℕ) : Type 0 where
  pub rest : List ℕ
  pub is : drop p m ≡ x ++ rest

pub stands-all : (m : List ℕ) → Stands m 0 m
stands-all m = record { rest = []; is = sym (append-nil m) }

module _ {m : List ℕ} {p : ℕ} where
  pub stands-head : (x y : List ℕ) → Stands m p (x ++ y) → Stands m p x
  stands-head x y h = record { rest = y ++ h.rest; is = h.is ∙ append_assoc x y h.rest }

  pub stands-tail : (x y : List ℕ) {q : ℕ} → Stands m p (x ++ y) → q ≡ p + length x → Stands m q y
  stands-tail x y {q} h e = record {
    rest = h.rest;
    is =
        ap (λ (k : ℕ). drop k m) e ∙ sym (drop-drop (length x) p m) ∙ ap (drop (length x)) (h.is ∙ append_assoc x y h.rest)
        ∙ drop-append_seam x (y ++ h.rest);
  }

  pub stands-part : {x : List ℕ} {n : ℕ} → Stands m p x → n ≡ length x → part p n m ≡ x
  unfolding part
  stands-part {x} {n} h e = ap (take n) h.is ∙ take_at x h.rest n (sym e)

  pub stands-byte : {k : ℕ} {x : List ℕ} → Stands m p (k ∷ x) → get_or m p 0 ≡ k
  stands-byte h = ap (λ (i : ℕ). get_or m i 0) (sym (add-zero p)) ∙ sym (get_or-drop p m 0 0) ∙ ap (λ (l : List ℕ). get_or l 0 0) h.is

  stands-second : {j k : ℕ} {x : List ℕ} → Stands m p (j ∷ k ∷ x) → get_or m (p + 1) 0 ≡ k
  stands-second h = sym (get_or-drop p m 1 0) ∙ ap (λ (l : List ℕ). get_or l 1 0) h.is

  -- every number is read back from its two bytes, since the first is no remainder
  pub stands-u16 : (c : ℕ) {x : List ℕ} → Stands m p (be16 c ++ x) → u16_at m p ≡ c
  stands-u16 c h = omega (arith, stands-byte h, stands-second h)

  -- a number of n bytes, and what comes after it
  pub stands-num : (n x : ℕ) (y : List ℕ) → Stands m p (be n x ++ y) → x < 2 ^ (8 * n) → num_at m p n ≡ x
  stands-num n x y h lt =
      ap (λ (k : ℕ). k % 2 ^ (8 * n)) (ap num (stands-part (stands-head (be n x) y h) (sym (length-be n x))) ∙ num-be-fits n x lt) ∙ mod-eq_of_lt lt

  pub stands_after : (n x : ℕ) (y : List ℕ) {q : ℕ} → Stands m p (be n x ++ y) → q ≡ p + n → Stands m q y
  stands_after n x y h e = stands-tail (be n x) y h (e ∙ ap (λ (k : ℕ). p + k) (sym (length-be n x)))

-- an option, and what comes after it
pub record Heads (m : List ℕ) (at c : ℕ) (s y : List ℕ) : Type 0 where
  pub code : u16_at m at ≡ c
  pub size : u16_at m (at + 2) ≡ length s
  pub here : Stands m (at + 4) s
  pub next : Stands m (at + 4 + length s) y

pub stands-option : {m : List ℕ} {at : ℕ} (c : ℕ) (s y : List ℕ) → Stands m at (option c s ++ y) → Heads m at c s y
unfolding option
stands-option c s y h =
    let t = stands-tail (be16 c) (be16 (length s) ++ (s ++ y)) h refl in
    let u = stands-tail (be16 c ++ be16 (length s)) (s ++ y) h refl in
    record { code = stands-u16 c h; size = stands-u16 (length s) t; here = stands-head s y u; next = stands-tail s y u refl }

-- ---------------------------------------------------------------- the area of printed options

pub option-length : (c : ℕ) (s : List ℕ) → length (option c s) ≡ 4 + length s
unfolding option
option-length c s = omega arith

-- an area with these options in it, the first at the place `at`
unfoldable pub placed : ℕ → List Item → Area
placed at [] = over
placed at (item c s ∷ r) = opt at c (at + 4) (length s) (placed (at + 4 + length s) r)

step_of : {m : List ℕ} {at e c : ℕ} {s y : List ℕ} → Heads m at c s y → at + 4 + length s ≤ e
    → step_at m at e ≡ Opt c (at + 4) (length s) (at + 4 + length s)
step_of {m} {at} {e} {c} {s} h le =
    simp (lt-leb e at (omega arith), le-ltb (e - at) 4 (omega arith), h.code, h.size, le-ltb (e - at - 4) (length s) (omega arith))

pub area_of_lem : {m : List ℕ} {at : ℕ} (os : List Item) {e : ℕ} → Stands m at (printed os) → e ≡ at + length (printed os) → area_of m at e ≡ placed at os
unfolding printed placed
area_of_lem {m} {at} [] {e} h q = area-at m at e {st = End} (simp (le-leb e at (omega arith)))
area_of_lem {m} {at} (item c s ∷ r) {e} h q =
    let k = stands-option c s (printed r) h in
    let l : e ≡ at + 4 + length s + length (printed r) = q ∙ omega (arith, length-append (option c s) (printed r), option-length c s) in
    area-at m at e (step_of k (omega arith)) ∙ ap (opt at c (at + 4) (length s)) (area_of_lem {at = at + 4 + length s} r k.next l)

-- ---------------------------------------------------------------- the contents of a code

unfoldable pub bytes_of : ℕ → List Item → List (List ℕ)
bytes_of w [] = []
bytes_of w (item c s ∷ r) = cons_if (eqb c w) s (bytes_of w r)

pub bytes-append : (w : ℕ) (xs ys : List Item) → bytes_of w (xs ++ ys) ≡ bytes_of w xs ++ bytes_of w ys
unfolding bytes_of
bytes-append w [] ys = refl
bytes-append w (item c s ∷ xs) ys = by (eqb c w) (bytes-append w xs ys)
  where
    by : (b : Bool) → bytes_of w (xs ++ ys) ≡ bytes_of w xs ++ bytes_of w ys → cons_if b s (bytes_of w (xs ++ ys)) ≡ cons_if b s (bytes_of w xs) ++ bytes_of w ys
    by true e = rw e
    by false e = e

-- of options of one code: all of them, or none
pub bytes-map : {A : Type 0} (w c : ℕ) (g : A → List ℕ) (l : List A) → bytes_of w (map (λ x. item c (g x)) l) ≡ cond (eqb c w) (map g l) []
unfolding bytes_of
bytes-map w c g [] = by (eqb c w)
  where
    by : (b : Bool) → ◌≡◌ {A = List (List ℕ)} [] (cond b [] [])
    by true = refl
    by false = refl
bytes-map w c g (x ∷ l) = by (eqb c w) (bytes-map w c g l)
  where
    by : (b : Bool) → bytes_of w (map (λ x. item c (g x)) l) ≡ cond b (map g l) []
        → cons_if b (g x) (bytes_of w (map (λ x. item c (g x)) l)) ≡ cond b (g x ∷ map g l) []
    by true e = rw e
    by false e = e

-- and of those with others after them
pub bytes-block : {A : Type 0} (w c : ℕ) (g : A → List ℕ) (l : List A) (r : List Item)
    → bytes_of w (map (λ x. item c (g x)) l ++ r) ≡ cond (eqb c w) (map g l) [] ++ bytes_of w r
bytes-block w c g l r = rw (bytes-append w (map (λ x. item c (g x)) l) r, bytes-map w c g l)

-- the places hold these contents
abbrev pub Holds : List ℕ → Option Spot → List ℕ → Type 0
Holds m (Some o) c = Stands m o.start c × (o.len ≡ length c)
Holds m None c = ⊥

abbrev pub Match : List ℕ → List (Option Spot) → List (List ℕ) → Type 0
Match m [] [] = Unit {0}
Match m [] (c ∷ cs) = ⊥
Match m (f ∷ fs) [] = ⊥
Match m (f ∷ fs) (c ∷ cs) = Holds m f c × Match m fs cs

match-if : (b : Bool) (m : List ℕ) (f : Option Spot) (c : List ℕ) (fs : List (Option Spot)) (cs : List (List ℕ))
    → Holds m f c → Match m fs cs → Match m (cons_if b f fs) (cons_if b c cs)
match-if true m f c fs cs h t = (h, t)
match-if false m f c fs cs h t = t

pub match : {m : List ℕ} {at : ℕ} (w : ℕ) (os : List Item) → Stands m at (printed os) → Match m (options w (placed at os)) (bytes_of w os)
unfolding printed placed options bytes_of
match w [] h = tt
match {m} {at} w (item c s ∷ r) h =
    let k = stands-option c s (printed r) h in
    match-if (eqb c w) m (Some (spot at (at + 4) (length s))) s (options w (placed (at + 4 + length s) r)) (bytes_of w r) (k.here, refl) (match {at = at + 4 + length s} w r k.next)

-- ---------------------------------------------------------------- well formed

abbrev pub WellAt : List ℕ → (ℕ → ℕ → ℕ → ℕ → ℕ → Checked) → ℕ → Item → Type 0
WellAt m own k (item c s) = (p q : ℕ) → Stands m q s → own k p c q (length s) ≡ Ok tt

abbrev pub Well : List ℕ → (ℕ → ℕ → ℕ → ℕ → ℕ → Checked) → ℕ → List Item → Type 0
Well m own k [] = Unit {0}
Well m own k (item c s ∷ r) = WellAt m own k (item c s) × Well m own (cond (eqb c 67) (k + 1) k) r

pub well : {m : List ℕ} {at : ℕ} (own : ℕ → ℕ → ℕ → ℕ → ℕ → Checked) (k : ℕ) (os : List Item)
    → Well m own k os → Stands m at (printed os) → scan own k (placed at os) ≡ Ok tt
unfolding printed placed scan
well own k [] g h = refl
well {m} {at} own k (item c s ∷ r) g h =
    let j = cond (eqb c 67) (k + 1) k in
    let t = stands-option c s (printed r) h in
    ap (λ (x : Checked). and_then x (scan own j (placed (at + 4 + length s) r))) (g.0 at (at + 4) t.here) ∙ well {at = at + 4 + length s} own j r g.1 t.next

-- options one after the other, where the later ones are good after any number of PD Excludes
pub well-append : (m : List ℕ) (own : ℕ → ℕ → ℕ → ℕ → ℕ → Checked) (k : ℕ) (xs ys : List Item)
    → Well m own k xs → ((j : ℕ) → Well m own j ys) → Well m own k (xs ++ ys)
well-append m own k [] ys h g = g k
well-append m own k (item c s ∷ xs) ys h g = (h.0, well-append m own (cond (eqb c 67) (k + 1) k) xs ys h.1 g)

-- ---------------------------------------------------------------- options of one code

module _ {A : Type 0} (m : List ℕ) (g : A → List ℕ) where
  pub well-map : (own : ℕ → ℕ → ℕ → ℕ → ℕ → Checked) (c k : ℕ) (l : List A)
      → Every (λ x. (j : ℕ) → WellAt m own j (item c (g x))) l → Well m own k (map (λ x. item c (g x)) l)
  well-map own c k [] h = tt
  well-map own c k (x ∷ l) h = (h.0 k, well-map own c (cond (eqb c 67) (k + 1) k) l h.1)

  pub match-values : (value : Option Spot → A) (l : List A) → Every (λ x. (p s : ℕ) → Stands m s (g x) → value (Some (spot p s (length (g x)))) ≡ x) l
      → (fs : List (Option Spot)) → Match m fs (map g l) → map value fs ≡ l
  match-values value [] e [] h = refl
  match-values value [] e (f ∷ fs) h = absurd h
  match-values value (x ∷ l) e [] h = absurd h
  match-values value (x ∷ l) e (None ∷ fs) h = absurd h.0
  match-values value (x ∷ l) e (Some o ∷ fs) h = rw (h.0.1, e.0 o.place o.start h.0.0, match-values value l e.1 fs h.1)
