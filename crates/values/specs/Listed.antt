-- Laws of loops over the first n of the IA Prefixes in an array, for those that read them and those that write them.
--   rest_listed      what is left from place i on
--   rest-...        its first, and its end; any-..., all-...   one turn of a test over it
--   put_next        the one put at place k, with what is left after it
use Rattle.std.specs.Prelude.{◌≡◌, Bool, true, false, List, [], ◌∷◌, ◌++◌, map, ℕ, ◌+◌, ◌≤◌, ◌<◌, get_or, set, take, drop}
use Rattle.std.proofs.Math.Path.{ap}
use Rattle.std.proofs.Common.{◌∙◌, append_assoc, add-one, arith, drop_of_length-le, drop-cons, length-take-le, take-suc, get_or-set_same, lt-length-set}
use Rattle.std.proofs.Math.ListN.{length}
use Rattle.std.proofs.Math.Seq.{get_or-take}
use Rattle.std.proofs.lemmas.List.{take-set-le}
use Rattle.rules.specs.Words.{all, any}
use Rattle.rules.specs.Message.{Listed}
use Rattle.laws.specs.One.{map-append}
use Rattle.values.specs.Values.{listed_of, first_listed}
use Rattle.values.specs.declared.IaPrefix.{IaPrefix}

-- what no place past the end has
abbrev pub blank : IaPrefix
blank = record { preferred = 0; valid = 0; length = 0; bits = []; cut = 0; out = [] }

abbrev pub bare : IaPrefix → Listed
bare x = listed_of x []

unfoldable pub rest_listed : ℕ → ℕ → List IaPrefix → List Listed
rest_listed i n xs = map bare (drop i (take n xs))

module _ (i n : ℕ) (xs : List IaPrefix) (h : n ≤ length xs) where
  pub rest-turn : i < n → rest_listed i n xs ≡ bare (get_or xs i blank) ∷ rest_listed (i + 1) n xs
  unfolding rest_listed
  rest-turn l =
      let k : i < length (take n xs) = rw (length-take-le n xs h) l in
      rw (drop-cons (take n xs) i blank k, get_or-take n xs i blank l, add-one)

  pub rest_end : n ≤ i → rest_listed i n xs ≡ []
  unfolding rest_listed
  rest_end l = ap (map bare) (drop_of_length-le (take n xs) {i = i} (rw (length-take-le n xs h) l))

  module _ (f : Listed → Bool) where
    pub any-stop : i < n → f (bare (get_or xs i blank)) ≡ true → any f (rest_listed i n xs) ≡ true
    any-stop l e = rw (rest-turn l, e)

    pub any-go : i < n → f (bare (get_or xs i blank)) ≡ false → any f (rest_listed i n xs) ≡ any f (rest_listed (i + 1) n xs)
    any-go l e = rw (rest-turn l, e)

    pub any-end : n ≤ i → any f (rest_listed i n xs) ≡ false
    any-end l = rw (rest_end l)

    pub all-stop : i < n → f (bare (get_or xs i blank)) ≡ false → all f (rest_listed i n xs) ≡ false
    all-stop l e = rw (rest-turn l, e)

    pub all_go : i < n → f (bare (get_or xs i blank)) ≡ true → all f (rest_listed i n xs) ≡ all f (rest_listed (i + 1) n xs)
    all_go l e = rw (rest-turn l, e)

    pub all_end : n ≤ i → all f (rest_listed i n xs) ≡ true
    all_end l = rw (rest_end l)

module _ (k : ℕ) (xs : List IaPrefix) (x : IaPrefix) (h : k < length xs) where
  pub put_last : first_listed (k + 1) (set xs k x) ≡ first_listed k xs ++ (bare x ∷ [])
  put_last =
      let e : take (k + 1) (set xs k x) ≡ take k xs ++ (x ∷ []) =
      rw (add-one, take-suc (set xs k x) k blank (lt-length-set xs k x h), take-set-le k xs k x (omega arith), get_or-set_same xs k x blank h) in
      ap (map bare) e ∙ map-append bare (take k xs) (x ∷ [])

  pub put_next : (ys : List Listed) {y : Listed} → bare x ≡ y → first_listed (k + 1) (set xs k x) ++ ys ≡ first_listed k xs ++ (y ∷ ys)
  put_next ys e = ap (λ (l : List Listed). l ++ ys) put_last ∙ append_assoc (first_listed k xs) (bare x ∷ []) ys ∙ ap (λ (z : Listed). first_listed k xs ++ (z ∷ ys)) e
