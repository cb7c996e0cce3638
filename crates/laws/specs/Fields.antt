-- Laws of fields that stand one after another in a list, each of its own size.
--   sum, sizes_of        the sum of numbers; the sizes of fields
--   Fields              a list is these fields, of these sizes
--   field-change        a field put in at its place changes that field alone
--   field_at            the part at a field's place is the field
--   fields-same         a list beside fields, field by field
use Rattle.std.specs.Prelude.{◌≡◌, refl, Bool, true, ◌&&◌, List, [], ◌∷◌, ◌++◌, map, ℕ, zero, suc, ◌+◌, ◌<◌, length, get_or, take, drop, set}
use Rattle.std.proofs.Common.{sym, ap, ◌∙◌, append_assoc, add_assoc, zero-add, arith, length-append}
use Rattle.std.proofs.Math.ListN.{get_or-map}
use Rattle.std.proofs.Math.Seq.{drop-append-add, take-append-add, drop-append_seam, drop-length, map-set_same}
use Rattle.rules.specs.Words.{each, part, splice, same_bytes}
use Rattle.laws.specs.Parts.{part-past, part-first}
use Rattle.laws.specs.Same.{same-field}

abbrev pub sum : List ℕ → ℕ
sum [] = 0
sum (n ∷ l) = n + sum l

abbrev pub sizes_of : List (List ℕ) → List ℕ
sizes_of fs = map length fs

-- ---------------------------------------------------------------- putting a field in

splice-past : (d y e : List ℕ) (a : ℕ) → splice (length d + a) y (d ++ e) ≡ d ++ splice a y e
unfolding splice
splice-past d y e a = rw (take-append-add d e a, add_assoc (length d) a (length y), drop-append-add d e (a + length y)) (simp append_assoc)

splice-here : (x y e : List ℕ) → length y ≡ length x → splice 0 y (x ++ e) ≡ y ++ e
unfolding splice
splice-here x y e q = rw (zero-add, q, drop-append_seam x e)

splice-field : (fs : List (List ℕ)) (i : ℕ) (y : List ℕ) → i < length fs → length y ≡ length (get_or fs i []) → splice (sum (take i (sizes_of fs))) y (each fs) ≡ each (set fs i y)
splice-field [] i y h q = absurd (omega arith)
splice-field (f ∷ fs) zero y h q = splice-here f y (each fs) q
splice-field (f ∷ fs) (suc i) y h q = splice-past f y (each fs) (sum (take i (sizes_of fs))) ∙ ap (λ e. f ++ e) (splice-field fs i y (omega arith) q)

part_field : (fs : List (List ℕ)) (i : ℕ) → i < length fs → part (sum (take i (sizes_of fs))) (length (get_or fs i [])) (each fs) ≡ get_or fs i []
part_field [] i h = absurd (omega arith)
part_field (f ∷ fs) zero h = part-first (length f) f (each fs) refl
part_field (f ∷ fs) (suc i) h = part-past (length f) (sum (take i (sizes_of fs))) (length (get_or fs i [])) f (each fs) refl ∙ part_field fs i (omega arith)

length_fields : (fs : List (List ℕ)) → length (each fs) ≡ sum (sizes_of fs)
length_fields [] = refl
length_fields (f ∷ fs) = length-append f (each fs) ∙ ap (λ n. length f + n) (length_fields fs)

-- ---------------------------------------------------------------- a list that is fields

pub record Fields (b : List ℕ) (fs : List (List ℕ)) (ws : List ℕ) : Type 0 where
  pub is : b ≡ each fs
  pub sizes : sizes_of fs ≡ ws

module _ {b : List ℕ} {fs : List (List ℕ)} {ws : List ℕ} (f : Fields b fs ws) where
  size-at : (i : ℕ) → get_or ws i 0 ≡ length (get_or fs i [])
  size-at i = ap (λ l. get_or l i 0) (sym f.sizes) ∙ get_or-map length fs i []

  pub fields-length : length b ≡ sum ws
  fields-length = ap length f.is ∙ length_fields fs ∙ ap sum f.sizes

  -- a field put in at its place: that field is another
  pub field-change : (i : ℕ) (y : List ℕ) → i < length fs → length y ≡ get_or ws i 0 → Fields (splice (sum (take i ws)) y b) (set fs i y) ws
  field-change i y h q =
      let s : length y ≡ length (get_or fs i []) = q ∙ size-at i in
      record {
        is = ap (λ l. splice (sum (take i ws)) y l) f.is ∙ ap (λ l. splice (sum (take i l)) y (each fs)) (sym f.sizes) ∙ splice-field fs i y h s;
        sizes = map-set_same length fs i y [] s ∙ f.sizes;
      }

  pub field_put : (i : ℕ) (y : List ℕ) {c : List ℕ} → i < length fs → length y ≡ get_or ws i 0 → c ≡ splice (sum (take i ws)) y b → Fields c (set fs i y) ws
  field_put i y h q e = let g = field-change i y h q in record { is = e ∙ g.is; sizes = g.sizes }

  -- the part at a field's place is the field
  pub field_at : (i : ℕ) → i < length fs → part (sum (take i ws)) (get_or ws i 0) b ≡ get_or fs i []
  field_at i h =
      ap (λ l. part (sum (take i ws)) (get_or ws i 0) l) f.is
      ∙ ap (λ l. part (sum (take i l)) (get_or ws i 0) (each fs)) (sym f.sizes)
      ∙ ap (λ n. part (sum (take i (sizes_of fs))) n (each fs)) (size-at i)
      ∙ part_field fs i h

-- ---------------------------------------------------------------- beside the bytes of a list

-- each field beside the bytes at its place
abbrev pub fields_same : List (List ℕ) → List ℕ → ℕ → List ℕ → Bool
fields_same [] [] at b = true
fields_same [] (w ∷ ws) at b = true
fields_same (f ∷ fs) [] at b = true
fields_same (f ∷ fs) (w ∷ ws) at b = same_bytes f (part at w b) && fields_same fs ws (at + w) b

fields-beside : (fs : List (List ℕ)) (at : ℕ) (b : List ℕ) → at + sum (sizes_of fs) ≡ length b → same_bytes (each fs) (drop at b) ≡ fields_same fs (sizes_of fs) at b
fields-beside [] at b h = let e : at ≡ length b = omega arith in rw (e, drop-length b)
fields-beside (f ∷ fs) at b h =
    same-field f (each fs) b at (length f) refl (omega arith) ∙ ap (λ c. same_bytes f (part at (length f) b) && c) (fields-beside fs (at + length f) b (omega arith))

pub fields-same : (fs : List (List ℕ)) (ws b : List ℕ) → sizes_of fs ≡ ws → sum ws ≡ length b → same_bytes (each fs) b ≡ fields_same fs ws 0 b
fields-same fs ws b e h = fields-beside fs 0 b (zero-add (sum (sizes_of fs)) ∙ ap sum e ∙ h) ∙ ap (λ l. fields_same fs l 0 b) e
