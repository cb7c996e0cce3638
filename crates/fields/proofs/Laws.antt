-- Bytes that are the same, by the last of them.
use mathlib.Core.Path.{◌≡◌, refl, sym, ap, ◌∙◌}
use mathlib.Core.Bool.{Bool, true, false}
use mathlib.Core.List.{List, [], ◌∷◌}
use Prim.Native.Nat.{ℕ, ◌+◌, ◌<◌}
use native.Mathlib.Omega.{arith}
use lib.ListN.{length, get_or, drop}
use lib.Seq.{get_or-take, get_or-drop}
use Rattle.rules.specs.Words.{part, same_bytes}
use Rattle.laws.specs.Kinds.{bytes-true}

pub none-same : (t s : List ℕ) (at : ℕ) → length s ≡ 0 → true ≡ same_bytes (part at (length s) t) s
unfolding part
none-same t [] at h = refl
none-same t (x ∷ s) at h = absurd (omega arith)

pub last-other : (t s : List ℕ) (at k : ℕ) → k < length s → (get_or t (at + k) 0 ≡ get_or s k 0 → ⊥) → false ≡ same_bytes (part at (length s) t) s
unfolding part
last-other t s at k h n = by (same_bytes (part at (length s) t) s) refl
  where
    by : (b : Bool) → same_bytes (part at (length s) t) s ≡ b → false ≡ b
    by false e = refl
    by true e =
        absurd (n (sym (get_or-take (length s) (drop at t) k 0 h ∙ get_or-drop at t k 0) ∙ ap (λ (l : List ℕ). get_or l k 0) (bytes-true (part at (length s) t) s e)))
