-- Laws that only these proofs need: the excluded prefix of one that is listed, and those that are returned, one turn at a time.
use mathlib.Core.Path.{◌≡◌, refl, sym, ap, ◌∙◌}
use mathlib.Core.Bool.{Bool, true, false, ◌&&◌}
use mathlib.Core.List.{List, [], ◌∷◌, ◌++◌, map, append-nil}
use Rattle.std.specs.Prelude.{Option}
use Rattle.std.specs.List.{list_any, list_all}
use Prim.Native.Nat.{ℕ, ◌+◌, ◌*◌, ◌^◌, ◌≤◌, ◌<◌}
use native.Mathlib.Omega.{arith}
use lib.Dec.{eqb}
use lib.ListN.{length, get_or, set}
use borrow.Author.Tests.{eq-eqb, ne_eqb}
use Rattle.rules.specs.Words.{all, any, num}
use Rattle.rules.specs.Prefix.{Prefix, same_prefix, last64, except_for}
use Rattle.rules.specs.Message.{Listed}
use Rattle.rules.specs.Box.{returned, others, same_except}
use Rattle.prefix.specs.Upper.{upper}
use Rattle.values.specs.Values.{except_of, lease_of, listed_of, first_listed}
use Rattle.values.specs.Listed.{blank, bare, rest_listed, rest-turn, rest_end, put_next}
use Rattle.values.specs.declared.IaPrefix.{IaPrefix}

-- the library's tests of a list, as the rules have them
module _ (f : Listed → Bool) where
  pub list-any : (xs : List IaPrefix) → list_any (λ x. f (bare x)) xs ≡ any f (map bare xs)
  list-any [] = refl
  list-any (x ∷ xs) = rw (list-any xs)

  pub list-all : (xs : List IaPrefix) → list_all (λ x. f (bare x)) xs ≡ all f (map bare xs)
  list-all [] = refl
  list-all (x ∷ xs) = rw (list-all xs)

module _ (x : IaPrefix) where
  pub goes-whole : (e : Option Prefix) → x.cut ≡ 0 → true ≡ same_except (bare x).lease.except e
  unfolding listed_of lease_of except_of
  goes-whole e h = rw (eq-eqb x.cut 0 h)

  pub goes-cut : (p a l : ℕ) {r : Bool} (e : Bool) → (x.cut ≡ 0 → ⊥) → upper l 64 ≡ last64 (upper p a) → r ≡ eqb (num x.out) (l * 2 ^ 64)
      → e && eqb x.cut 64 && r ≡ same_except (bare x).lease.except (except_for e (upper p a))
  unfolding listed_of lease_of except_of
  goes-cut p a l true h u q = rw (ne_eqb x.cut 0 h, ← u, q)
  goes-cut p a l false h u q = rw (ne_eqb x.cut 0 h)

-- a loop that returns them, one turn at a time: what stands in `out`, then what is left
module _ (i n : ℕ) (xs : List IaPrefix) (h : n ≤ length xs) where
  pub all-put : (out : List IaPrefix) (v : IaPrefix) {all : List Listed} → i < n → i < length out → bare v ≡ returned (bare (get_or xs i blank))
      → first_listed i out ++ map returned (rest_listed i n xs) ≡ all → first_listed (i + 1) (set out i v) ++ map returned (rest_listed (i + 1) n xs) ≡ all
  all-put out v l m e w =
      put_next i out v m (map returned (rest_listed (i + 1) n xs)) e ∙ ap (λ (r : List Listed). first_listed i out ++ map returned r) (sym (rest-turn i n xs h l)) ∙ w

  pub all_done : (out : List IaPrefix) {all : List Listed} → i ≤ n → n ≤ i → first_listed i out ++ map returned (rest_listed i n xs) ≡ all → first_listed n out ≡ all
  all_done out m l w =
      let e : n ≡ i = omega arith in
      ap (λ (k : ℕ). first_listed k out) e ∙ sym (append-nil (first_listed i out))
      ∙ ap (λ (r : List Listed). first_listed i out ++ map returned r) (sym (rest_end i n xs h l))
      ∙ w

  module _ (p : Prefix) (k : ℕ) (out : List IaPrefix) {all : List Listed} (w : first_listed k out ++ others p (rest_listed i n xs) ≡ all) where
    pub other-put : (v : IaPrefix) {j : ℕ} {to : List IaPrefix} → i < n → k < length out → to ≡ set out k v → j ≡ k + 1
        → same_prefix (bare (get_or xs i blank)).lease.prefix p ≡ false → bare v ≡ returned (bare (get_or xs i blank))
        → first_listed j to ++ others p (rest_listed (i + 1) n xs) ≡ all
    unfolding others
    other-put v l m eo ek e r =
        let t : others p (rest_listed i n xs) ≡ returned (bare (get_or xs i blank)) ∷ others p (rest_listed (i + 1) n xs) = rw (rest-turn i n xs h l, e) in
        rw (eo, ek) (put_next k out v m (others p (rest_listed (i + 1) n xs)) r ∙ ap (λ (l : List Listed). first_listed k out ++ l) (sym t) ∙ w)

    pub other-skip : {j : ℕ} {to : List IaPrefix} → i < n → to ≡ out → j ≡ k → same_prefix (bare (get_or xs i blank)).lease.prefix p ≡ true
        → first_listed j to ++ others p (rest_listed (i + 1) n xs) ≡ all
    unfolding others
    other-skip l eo ek e =
        let t : others p (rest_listed i n xs) ≡ others p (rest_listed (i + 1) n xs) = rw (rest-turn i n xs h l, e) in
        rw (eo, ek) (ap (λ (l : List Listed). first_listed k out ++ l) (sym t) ∙ w)

    pub others-done : n ≤ i → first_listed k out ≡ all
    unfolding others
    others-done l = sym (append-nil (first_listed k out)) ∙ ap (λ (r : List Listed). first_listed k out ++ others p r) (sym (rest_end i n xs h l)) ∙ w
