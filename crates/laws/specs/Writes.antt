-- Writers one after another: each puts its bytes in at a place, and gives the place after them.
--   Wrote                       what a writer did
--   wrote_then                  two writers make one
--   wrote-option, wrote-front   an option, its head written first, or last
--   Left, left-...              a loop of writers: what is left to put in
--   be-8, be-16, be-sixteen     the bytes of a number as they are written
use Rattle.std.specs.Prelude.{◌≡◌, refl, List, [], ◌∷◌, ◌++◌, ℕ, ◌+◌, ◌-◌, ◌/◌, ◌%◌, ◌≤◌, ◌<◌, length, take, drop}
use Rattle.std.proofs.Common.{ap, sym, ◌∙◌, append_assoc, zero-add, add-zero, arith, length-append, take-take, drop_at, length-take-le}
use Rattle.std.proofs.lemmas.List.{take-append-le}
use Rattle.rules.specs.Words.{splice, num, be, be16}
use Rattle.rules.specs.Options.{option}
use Rattle.laws.specs.Parts.{splice-nil, splice-splice}
use Rattle.laws.specs.Numbers.{be-num}
use Rattle.laws.specs.Bits.{Sixteen}

-- d became e, with s put in at a place that ends at r
pub record Wrote (at : ℕ) (s : List ℕ) (r : ℕ) (d e : List ℕ) : Type 0 where
  pub end : r ≡ at + length s
  pub is : e ≡ splice at s d

pub wrote_nothing : {at : ℕ} {d : List ℕ} → Wrote at [] at d d
wrote_nothing {at} {d} = record { end = sym (add-zero at); is = sym (splice-nil at d) }

-- n bytes
pub wrote-all : {at n : ℕ} {s d e : List ℕ} → length s ≡ n → e ≡ splice at s d → Wrote at s (at + n) d e
wrote-all {at} l h = record { end = ap (λ (k : ℕ). at + k) (sym l); is = h }

-- from the start
pub wrote-whole : {r : ℕ} {s d e : List ℕ} → Wrote 0 s r d e → (r ≡ length s) × (e ≡ splice 0 s d)
wrote-whole {s = s} w = (w.end ∙ zero-add (length s), w.is)

-- the same bytes
pub wrote_as : {at r : ℕ} {s t d e : List ℕ} → s ≡ t → Wrote at s r d e → Wrote at t r d e
wrote_as q w = rw (← q) w

-- one after the other
pub wrote_then : {at m r : ℕ} {s t d e f : List ℕ} → at ≤ length d → Wrote at s m d e → Wrote m t r e f → Wrote at (s ++ t) r d f
wrote_then {at} {m} {r} {s} {t} {d} h p q = record {
  end = omega (arith, length-append s t, p.end, q.end);
  is = q.is ∙ ap (splice m t) p.is ∙ splice-splice at m s t d p.end h;
}

splice_front : (at : ℕ) (s t d : List ℕ) → at + length s ≤ length d → splice at s (splice (at + length s) t d) ≡ splice at (s ++ t) d
unfolding splice
splice_front at s t d h =
    let n = at + length s in
    let p = take n d in
    let q = t ++ drop (n + length t) d in
    let e : length p ≡ n = length-take-le n d h in
    let f : at + length (s ++ t) ≡ n + length t = simp length-append (omega arith) in
    ap (λ (x : List ℕ). x ++ (s ++ drop n (p ++ q))) (take-append-le at p q (omega arith) ∙ take-take at n d (omega arith))
    ∙ ap (λ (x : List ℕ). take at d ++ (s ++ x)) (drop_at p q n e)
    ∙ ap (λ (i : ℕ). take at d ++ (s ++ (t ++ drop i d))) (sym f)
    ∙ simp append_assoc

-- an option, its head first
pub wrote-option : (c n : ℕ) {at m r : ℕ} {s d e f : List ℕ} → at ≤ length d → n ≡ length s → Wrote at (be16 c ++ be16 n) m d e → Wrote m s r e f → Wrote at (option c s) r d f
unfolding option
wrote-option c n {s = s} h l p q = wrote_as (ap (λ (k : ℕ). be16 c ++ (be16 k ++ s)) l) (wrote_then h p q)

-- and its head last
pub wrote-front : (c : ℕ) {at m r : ℕ} {s d e f : List ℕ} → at + 4 ≤ length d → Wrote (at + 4) s r d e → Wrote at (be16 c ++ be16 (r - (at + 4))) m e f → Wrote at (option c s) r d f
unfolding option
wrote-front c {at} {m} {r} {s} {d} h p q =
    let l : r - (at + 4) ≡ length s = omega (arith, p.end) in
    record {
      end = omega (arith, p.end);
      is =
          q.is ∙ ap (splice at (be16 c ++ be16 (r - (at + 4)))) p.is ∙ splice_front at (be16 c ++ be16 (r - (at + 4))) s d h
          ∙ ap (λ (k : ℕ). splice at (be16 c ++ (be16 k ++ s)) d) l;
    }

-- ---------------------------------------------------------------- a loop of writers

-- what is left to put in at p, put in there, makes what s put in at a place of d does
pub record Left (p : ℕ) (rest t : List ℕ) (at : ℕ) (s d : List ℕ) : Type 0 where
  pub end : p + length rest ≡ at + length s
  pub is : splice p rest t ≡ splice at s d

pub left-all : {at : ℕ} {s d : List ℕ} → Left at s d at s d
left-all = record { end = refl; is = refl }

module _ {p : ℕ} {rest t : List ℕ} {at : ℕ} {s d : List ℕ} (l : Left p rest t at s d) where
  pub left-turn : {r : ℕ} {x y e : List ℕ} → p ≤ length t → rest ≡ x ++ y → Wrote p x r t e → Left r y e at s d
  left-turn {r} {x} {y} {e} h q w = record {
    end = omega (arith, w.end, l.end, ap length q, length-append x y);
    is =
        ap (splice r y) w.is ∙ splice-splice p r x y t w.end h ∙ ap (λ (z : List ℕ). splice p z t) (sym q)
        ∙ l.is;
  }

  pub left-none : rest ≡ [] → Wrote at s p d t
  left-none q = record { end = omega (arith, l.end, ap length q); is = sym (splice-nil p t) ∙ ap (λ (z : List ℕ). splice p z t) (sym q) ∙ l.is }

  pub left-room : (x y : List ℕ) → rest ≡ x ++ y → at + length s ≤ length d → length t ≡ length d → p + length x ≤ length t
  left-room x y q h e = omega (arith, l.end, ap length q, length-append x y)

-- ---------------------------------------------------------------- numbers

-- one that fits in one byte, and in two; and sixteen bytes
pub be-8 : (x : ℕ) → x < 256 → be 1 x ≡ x ∷ []
unfolding be
be-8 x h = let e : x / 1 % 256 ≡ x = omega arith in rw e

pub be-16 : (x : ℕ) → x < 65536 → be 2 x ≡ be16 x
unfolding be
be-16 x h =
    let e : x / 256 % 256 ≡ x / 256 = omega arith in
    let f : x / 1 % 256 ≡ x % 256 = omega arith in
    rw (e, f)

pub be-sixteen : (q : List ℕ) → Sixteen q → q ≡ be 16 (num q)
be-sixteen q s = sym (ap (λ (n : ℕ). be n (num q)) (sym s.long) ∙ be-num q s.bytes)
