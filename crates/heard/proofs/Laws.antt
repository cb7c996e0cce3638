-- Laws that only these proofs need.
use Rattle.std.specs.Prelude.{None, Option, Some, is_none, IfSome, Result, Ok, Err}
use Rattle.std.specs.Bool.{then_some}
use Rattle.std.specs.Result.{result_unwrap_or}
use mathlib.Core.Path.{◌≡◌, refl, sym, ap, ◌∙◌}
use mathlib.Core.Bool.{Bool, true, false, cond, not, ◌&&◌, ◌||◌, and-true, and_assoc}
use mathlib.Core.List.{List, [], ◌∷◌, ◌++◌, map, append_assoc, append-nil}
use Prim.Native.Nat.{ℕ, zero, suc, ◌+◌, ◌-◌, ◌≤◌, ◌<◌}
use native.Mathlib.Omega.{arith}
use native.Mathlib.Nat.{add-sub_cancel_left}
use native.Mathlib.Numerals.{add-one}
use borrow.Author.Tests.{eq-eqb, ne_eqb, le-leb, lt-leb, lt-ltb, ltb-true, ltb-false, leb-true}
use lib.Dec.{eqb, leb, ltb}
use lib.ListN.{length, get_or, take, drop, set, length-set, length-map, length-drop, get_or-eq_default}
use lib.Seq.{take-suc-set, drop-cons, take-length}
use Rattle.rules.specs.Words.{all, part, same_bytes, num_at}
use Rattle.rules.specs.Options.{area_of, options, count, nth, spot}
use Rattle.rules.specs.Message.{listed_at, ia_at, top, read}
use Rattle.rules.specs.Identity.{Duid, served, kind_of, kind_from, identity_rows, row_of, stands, row_holds}
use Rattle.rules.specs.Box.{wrong_pds}
use Rattle.rules.specs.declared.Kind.{Kind}
use Rattle.rules.specs.declared.Kind.TheVariants.{Release}
use Rattle.rules.specs.declared.Refusal.{Refusal}
use Rattle.rules.specs.declared.Refusal.TheVariants.{Unserved}
use Rattle.rules.specs.declared.Spot.{Spot}
use Rattle.laws.specs.Tests.{neither}
use Rattle.laws.specs.Steps.{Stepped, Stopped, options-here, options-past}
use Rattle.laws.specs.Parts.{length_part}
use Rattle.laws.specs.Same.{other_length}
use Rattle.laws.specs.Formed.{PdFormed, PrefixFormed, formed-prefix, listed-place, ia-place}
use Rattle.laws.specs.One.{map-append}
use Rattle.values.specs.Values.{listed_of, first_listed, ia_of}
use Rattle.values.specs.declared.IaPrefix.{IaPrefix}
use Rattle.values.specs.declared.Pd.{Pd}
use Rattle.notes.specs.Noted.{IsNote}
use Rattle.notes.specs.declared.Note.{Note}
use Rattle.heard.specs.Heard.{only_of, bare, bare_ia, AskedPd}
use Rattle.heard.specs.Ids.{id_wanted, id_good, ids_of, ids_hold}
use Rattle.heard.specs.Facts.{only_at, only-nothing, pd-is}

-- ---------------------------------------------------------------- the one option of a code

module _ (w : ℕ) (m : List ℕ) where
  pub only-other : {k : ℕ} → k ≡ count w (area_of m 4 (length m)) → (k ≡ 1 → ⊥) → None ≡ only_of w m
  unfolding only_of top
  only-other q h = rw (← q, ne_eqb _ _ h)

  pub only-found : {k : ℕ} {f : Option Spot} → k ≡ count w (area_of m 4 (length m)) → k ≡ 1 → f ≡ nth w 0 (area_of m 4 (length m)) → f ≡ only_of w m
  unfolding only_of top
  only-found q h g = rw (← q, eq-eqb _ _ h, ← g)

  -- by the note of it
  module _ (x : Note) (n : IsNote w m x) where
    pub only-other-noted : (x.count ≡ 1 → ⊥) → None ≡ only_of w m
    unfolding only_of
    only-other-noted h = rw (← n.counts, ne_eqb _ _ h)

    pub only-noted : x.count ≡ 1 → x.first ≡ only_of w m
    unfolding only_of
    only-noted h = rw (← n.counts, eq-eqb _ _ h, ← n.begins)

-- ---------------------------------------------------------------- the identity rows

abbrev pair : Bool × Bool → List Bool
pair r = r.0 ∷ r.1 ∷ []

unset : (i : ℕ) → get_or [] i false ≡ get_or (pair (false, false)) i false
unset zero = refl
unset (suc zero) = refl
unset (suc (suc i)) = refl

row-at : (l : List (Bool × Bool)) (k i : ℕ) → get_or (get_or (map pair l) k []) i false ≡ get_or (pair (get_or l k (false, false))) i false
row-at [] k i = unset i
row-at (r ∷ l) zero i = refl
row-at (r ∷ l) (suc k) i = row-at l k i

in_pair : (r : Bool × Bool) (i : ℕ) → i < 2 → get_or (pair r) i false ≡ cond (eqb i 0) r.0 r.1
in_pair r zero h = refl
in_pair r (suc zero) h = refl
in_pair r (suc (suc i)) h = absurd (omega arith)

-- the table of the code
pub rows-wanted : (k i : ℕ) → i < 2 → get_or (get_or (map pair identity_rows) k []) i false ≡ id_wanted k i
unfolding id_wanted
rows-wanted k i h = row-at identity_rows k i ∙ in_pair (row_of k) i h

pub past-wanted : (k i : ℕ) → 8 < k → i < 2 → false ≡ id_wanted k i
unfolding identity_rows
past-wanted k i h l = ap (λ r. get_or r i false) (sym (get_or-eq_default (map pair identity_rows) [] {n = k} (omega arith))) ∙ rows-wanted k i l

-- ---------------------------------------------------------------- the identity options

-- the DUID of an option, and the box's own
module _ (m own : List ℕ) (s n : ℕ) (w : s + n ≤ length m) where
  pub own-other : (n ≡ length own → ⊥) → false ≡ same_bytes own (part s n m)
  own-other h = sym (other_length own (part s n m) (λ q. h (sym (q ∙ length_part s n m w))))

  pub own_same : {r : Bool} → n ≡ length own → r ≡ same_bytes (part 0 (length (take (s + n - s) (drop s m))) own) (take (s + n - s) (drop s m)) → r ≡ same_bytes own (part s n m)
  unfolding part
  own_same q e = e ∙ rw (add-sub_cancel_left, length_part s n m w, q, take-length)

  pub client-good : {i : ℕ} → i ≡ 0 → leb 3 n && leb n 130 ≡ id_good own i (part s n m)
  unfolding id_good
  client-good q = rw (eq-eqb _ _ q, length_part s n m w)

  pub server-good : {i : ℕ} {r : Bool} → (i ≡ 0 → ⊥) → r ≡ same_bytes own (part s n m) → r ≡ id_good own i (part s n m)
  unfolding id_good
  server-good q e = rw (ne_eqb _ _ q) e

none-stands : (f : Duid → Bool) (l : List Duid) → stands false l && all f l ≡ eqb (length l) 0
none-stands f [] = refl
none-stands f (d ∷ l) = rw (ne_eqb (length (d ∷ l)) 0 (λ q. omega arith))

module _ (own : Duid) (k i : ℕ) (m : List ℕ) where
  pub hold-none : {r : Bool} {c : ℕ} → r ≡ id_wanted k i → r ≡ false → c ≡ count (i + 1) (top m) → eqb c 0 ≡ ids_hold own k i m
  unfolding ids_hold
  hold-none q e h = rw (← q, e, none-stands (id_good own i) (ids_of i m), length-map, h)

  pub hold-one : {r b : Bool} {p s n : ℕ} → r ≡ id_wanted k i → r ≡ true → only_of (i + 1) m ≡ Some (spot p s n) → b ≡ id_good own i (part s n m) → b ≡ ids_hold own k i m
  unfolding ids_hold
  hold-one q e h g = rw (← q, e, only_at (i + 1) m h, and-true, ← g)

  pub hold-other : {r : Bool} → r ≡ id_wanted k i → r ≡ true → only_of (i + 1) m ≡ None → false ≡ ids_hold own k i m
  unfolding ids_hold
  hold-other q e h = rw (← q, e, length-map, ne_eqb (count (i + 1) (top m)) 1 (only-nothing (i + 1) m h))

-- both rows together
pub rows-hold : (own : Duid) (m : List ℕ) {k : ℕ} {a b : Bool} → k ≡ get_or m 0 0 → a ≡ ids_hold own k 0 m → b ≡ ids_hold own k 1 m → a && b ≡ row_holds own (read m)
unfolding ids_hold id_wanted id_good row_holds read
rows-hold own m {k} q e h =
    let l = ids_of 1 m in
    rw (e, h, ← q) (sym (and_assoc (ids_hold own k 0 m) (stands (row_of k).1 l) (all (same_bytes own) l)))

-- ---------------------------------------------------------------- the IA_PD

more-than : (k n : ℕ) → ltb n k ≡ not (leb k n)
more-than k n = by (ltb n k) refl
  where
    by : (b : Bool) → ltb n k ≡ b → b ≡ not (leb k n)
    by true e = rw (lt-leb k n (ltb-true n k e))
    by false e = rw (le-leb k n (ltb-false n k e))

few-pds : (m : List ℕ) {p s n : ℕ} → only_of 25 m ≡ Some (spot p s n) → ltb 4 (length (ia_at m (Some (spot 0 s n))).listed) ≡ wrong_pds (read m)
unfolding read
few-pds m {p} {s} {n} h = rw (only_at 25 m h, ia-place m p s n) (more-than (length (ia_at m (Some (spot 0 s n))).listed) 4)

pub other-pds : (m : List ℕ) → only_of 25 m ≡ None → true ≡ wrong_pds (read m)
unfolding read
other-pds m h = rw (length-map, ne_eqb (count 25 (top m)) 1 (only-nothing 25 m h))

-- ---------------------------------------------------------------- its prefixes

-- what is left from the k-th on begins with the k-th
first-left : {A : Type 0} (l r : List A) (k : ℕ) (x d : A) → drop k l ≡ x ∷ r → (k < length l) × (get_or l k d ≡ x) × (drop (k + 1) l ≡ r)
first-left l r k x d h =
    let z : length (drop k l) ≡ suc (length r) = ap length h in
    let w : k < length l = omega (arith, length-drop k l) in
    let e = drop-cons l k d w in
    (w, cc, rw add-one (cc))

module _ (m : List ℕ) (s n : ℕ) where
  -- the IA Prefixes from a place on, and all of them
  abbrev from : ℕ → List (Option Spot)
  from p = options 26 (area_of m p (s + n))

  abbrev every : List (Option Spot)
  every = from (s + 12)

  -- k of them stand in the array, and with those still to come they are all
  pub record Filled (ps : List IaPrefix) (k p : ℕ) : Type 0 where
    pub size : length ps ≡ 5
    pub few : k ≤ length every
    pub left : drop k every ≡ from p
    pub whole : first_listed k ps ++ map bare (map (listed_at m) (from p)) ≡ map bare (map (listed_at m) every)

  module _ {ps : List IaPrefix} {k p : ℕ} (f : Filled ps k p) where
    module _ {c t l x : ℕ} (h : Stepped m p (s + n) c t l x) where
      pub filled-past : (c ≡ 26 → ⊥) → Filled ps k x
      filled-past q = let e = options-past 26 h q in record { size = f.size; few = f.few; left = f.left ∙ e; whole = rw e at f.whole }

      module _ (q : c ≡ 26) where
        next : (k < length every) × (nth 26 k (area_of m (s + 12) (s + n)) ≡ Some (spot p t l)) × (drop (k + 1) every ≡ from x)
        next = first-left every (from x) k (Some (spot p t l)) None (f.left ∙ options-here 26 h q)

        pub filled-formed : PdFormed m s n → PrefixFormed m t l
        filled-formed g = formed-prefix m s n g k next.1

        pub filled_next : (y : IaPrefix) → k < 5 → listed_of y (listed_at m (Some (spot 0 t l))).statuses ≡ listed_at m (Some (spot 0 t l)) → Filled (set ps k y) (k + 1) x
        unfolding listed_of
        filled_next y g r =
            let o : k < length ps = omega (arith, f.size) in
            let b : listed_of y [] ≡ bare (listed_at m (Some (spot p t l))) = rw (listed-place m p t l) (ap bare r) in
            let w : first_listed k ps ++ (listed_of y [] ∷ map bare (map (listed_at m) (from x))) ≡ map bare (map (listed_at m) every) = rw b (rw (options-here 26 h q) at f.whole) in
            record {
              size = length-set ps k y ∙ f.size;
              few = omega (arith, next.0);
              left = next.2;
              whole = rw (add-one, take-suc-set ps k y o, map-append, append_assoc) w;
            }

    abbrev Read : Type 0
    Read = (ltb 4 k ≡ ltb 4 (length (ia_at m (Some (spot 0 s n))).listed)) × (k ≤ 4 → first_listed k ps ≡ map bare (ia_at m (Some (spot 0 s n))).listed)

    -- all were read, or five
    pub filled-end : Stopped m p (s + n) → Read
    unfolding ia_at
    filled-end h =
        let e = h.none 26 in
        let z : length (drop k every) ≡ 0 = ap length (f.left ∙ e) in
        let l : k ≡ length (map (listed_at m) every) = omega (arith, f.few, length-drop k every, length-map every (listed_at m)) in
        (ap (ltb 4) l, λ _. sym (append-nil (first_listed k ps)) ∙ (rw e at f.whole))

    pub filled-five : 5 ≤ k → Read
    unfolding ia_at
    filled-five h =
        (lt-ltb 4 k (omega arith) ∙ sym (lt-ltb 4 (length (map (listed_at m) every)) (omega (arith, f.few, length-map every (listed_at m)))), λ g. absurd (omega arith))

-- the whole IA_PD
pub pd-read : (m : List ℕ) (s n : ℕ) (d : Pd) → d.iaid ≡ num_at m s 4 → d.t1 ≡ num_at m (s + 4) 4 → d.t2 ≡ num_at m (s + 8) 4 → d.says ≡ false
    → first_listed d.count d.prefixes ≡ map bare (ia_at m (Some (spot 0 s n))).listed → ia_of d ≡ bare_ia (ia_at m (Some (spot 0 s n)))
unfolding ia_of bare_ia ia_at
pd-read m s n d i a b f l = rw (i, a, b, f, l)

-- ---------------------------------------------------------------- the kind

-- every type but the four others is told as a Release
released : (k : ℕ) → result_unwrap_or (kind_from k) Release ≡ kind_of k
released k = by (served k) refl
  where
    by : (b : Bool) → served k ≡ b → result_unwrap_or (cond b (Ok (kind_of k)) (Err Unserved)) Release ≡ kind_of k
    by true h = refl
    by false h =
        let p = neither (eqb k 1 || eqb k 3 || eqb k 5 || eqb k 6) (eqb k 8) h in
        let q = neither (eqb k 1 || eqb k 3 || eqb k 5) (eqb k 6) p.0 in
        let r = neither (eqb k 1 || eqb k 3) (eqb k 5) q.0 in
        let s = neither (eqb k 1) (eqb k 3) r.0 in
        rw (s.0, s.1, r.1, q.1)

pub kind-read : (m : List ℕ) {k : ℕ} {r : Result Kind Refusal} {x : Kind} → k ≡ get_or m 0 0 → r ≡ kind_from k → x ≡ result_unwrap_or r Release → x ≡ kind_of (read m).kind
unfolding read
kind-read m {k} e h g = g ∙ ap (λ (q : Result Kind Refusal). result_unwrap_or q Release) h ∙ released k ∙ ap kind_of e

-- ---------------------------------------------------------------- the IA_PD that is asked about

module _ (m : List ℕ) {p s n : ℕ} (h : only_of 25 m ≡ Some (spot p s n)) (d : Pd) where
  pub pd-asked : ltb 4 d.count ≡ ltb 4 (length (ia_at m (Some (spot 0 s n))).listed) → (d.count ≤ 4 → ia_of d ≡ bare_ia (ia_at m (Some (spot 0 s n))))
      → {r : Option Pd} → r ≡ then_some (leb d.count 4) d → (is_none r ≡ wrong_pds (read m)) × IfSome r (λ x. AskedPd m x)
  pd-asked w e g = rw g (by (leb d.count 4) refl)
    where
      wrong : not (leb d.count 4) ≡ wrong_pds (read m)
      wrong = sym (more-than d.count 4) ∙ w ∙ few-pds m h

      by : (b : Bool) → leb d.count 4 ≡ b → (is_none (then_some b d) ≡ wrong_pds (read m)) × IfSome (then_some b d) (λ x. AskedPd m x)
      by true q = let few = leb-true d.count 4 q in (sym (ap not q) ∙ wrong, record { is = e few ∙ ap bare_ia (sym (pd-is m h)); few = few })
      by false q = (sym (ap not q) ∙ wrong, tt)
