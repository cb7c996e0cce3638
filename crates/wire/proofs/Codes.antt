-- The codes of an Option Request, two bytes each.
--   two             a chunk of two bytes is one code
--   codes-given     the chunks of a content, in order, are its codes
--   any-listed      whether some number of a list passes a test, in the library's words
use Rattle.std.specs.Prelude.{◌≡◌, refl, ℕ, ◌<◌, List, [], ◌∷◌, ◌++◌, Bool, length}
use Rattle.std.specs.List.{list_any}
use Rattle.std.specs.Slice.Iter.{chunks_exact_rest, chunks_exact_size, chunks_exact_steps}
use Rattle.std.specs.declared.slice.ChunksExact.{ChunksExact}
use Rattle.std.proofs.Common.{Bor, ◌∙◌, ap, arith}
use Rattle.std.proofs.lemmas.Iterator.{YieldsList}
use Rattle.std.proofs.lemmas.Iterator.Splits.{YieldsList-from_shown_while}
use Rattle.rules.specs.Words.{any, u16_at}
use Rattle.rules.specs.Message.{codes}

two : (x l : List ℕ) → length x ≡ 2 → codes (x ++ l) ≡ u16_at x 0 ∷ codes l
unfolding codes
two [] l h = absurd (omega arith)
two (a ∷ []) l h = absurd (omega arith)
two (a ∷ b ∷ []) l h = refl
two (a ∷ b ∷ c ∷ x) l h = absurd (omega arith)

few : (l : List ℕ) → length l < 2 → length (codes l) ≡ 0
unfolding codes
few [] h = refl
few (x ∷ []) h = refl
few (x ∷ y ∷ l) h = absurd (omega arith)

pub codes-given : (s : ChunksExact ℕ) → chunks_exact_size s ≡ 2 → YieldsList chunks_exact_steps (λ (c : Bor (List ℕ)). u16_at c.now 0) s (codes (chunks_exact_rest s))
codes-given = YieldsList-from_shown_while chunks_exact_steps (λ (c : Bor (List ℕ)). u16_at c.now 0) (λ s. codes (chunks_exact_rest s)) (λ s. chunks_exact_size s ≡ 2)
    (λ s t p h. few (chunks_exact_rest s) (omega (arith, h.1.0)))
    (λ s x t p h. (h.0 ∙ p, ap codes h.1.0 ∙ two x.now (chunks_exact_rest t) (h.1.1 ∙ p)))

pub any-listed : (f : ℕ → Bool) (l : List ℕ) → list_any f l ≡ any f l
any-listed f [] = refl
any-listed f (x ∷ l) = rw (any-listed f l)
