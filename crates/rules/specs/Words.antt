-- Words that every other page uses: tests over lists, parts of lists, and numbers in bytes.
--   all, any, no_two      every element passes; some element does; each goes beside every later one
--   cons_if, keep, first  an element in front if a test says so; those that pass, in order; the first that passes
--   each, from           one list after another; the k things at places i, i + 1, ..
--   same_bytes, filled    the same list of numbers; a list with zeros up to a length
--   part, splice         n elements from a place; a list with another put in from a place
--   num, be, be16        the number that bytes write, highest first; the n bytes, the two bytes of a number
--   num_at, u16_at         the number in n bytes, in two bytes, from a place
use Rattle.std.specs.Prelude.{ℕ, zero, suc, ◌+◌, ◌-◌, ◌*◌, ◌/◌, ◌%◌, ◌^◌, Bool, true, false, cond, ◌&&◌, ◌||◌, List, [], ◌∷◌, ◌++◌, eqb, length, get_or, take, drop, replicate, Option, None, Some}

module _ {A : Type 0} where
  abbrev pub all : (A → Bool) → List A → Bool
  all f [] = true
  all f (x ∷ xs) = f x && all f xs

  abbrev pub any : (A → Bool) → List A → Bool
  any f [] = false
  any f (x ∷ xs) = f x || any f xs

  abbrev pub no_two : (A → A → Bool) → List A → Bool
  no_two r [] = true
  no_two r (x ∷ xs) = all (r x) xs && no_two r xs

  abbrev pub cons_if : Bool → A → List A → List A
  cons_if true x xs = x ∷ xs
  cons_if false x xs = xs

  abbrev pub keep : (A → Bool) → List A → List A
  keep f [] = []
  keep f (x ∷ xs) = cons_if (f x) x (keep f xs)

  abbrev pub first : (A → Bool) → List A → Option A
  first f [] = None
  first f (x ∷ xs) = cond (f x) (Some x) (first f xs)

  abbrev pub each : List (List A) → List A
  each [] = []
  each (x ∷ xs) = x ++ each xs

  abbrev pub from : (ℕ → A) → ℕ → ℕ → List A
  from f i zero = []
  from f i (suc k) = f i ∷ from f (i + 1) k

  unfoldable pub part : ℕ → ℕ → List A → List A
  part at n l = take n (drop at l)

  unfoldable pub splice : ℕ → List A → List A → List A
  splice at e l = take at l ++ (e ++ drop (at + length e) l)

abbrev pub same_bytes : List ℕ → List ℕ → Bool
same_bytes [] [] = true
same_bytes [] (y ∷ ys) = false
same_bytes (x ∷ xs) [] = false
same_bytes (x ∷ xs) (y ∷ ys) = eqb x y && same_bytes xs ys

unfoldable pub filled : ℕ → List ℕ → List ℕ
filled n l = l ++ replicate (n - length l) 0

-- "Numbers are big-endian."
unfoldable pub num : List ℕ → ℕ
num [] = 0
num (x ∷ l) = x * 2 ^ (8 * length l) + num l

unfoldable pub be : ℕ → ℕ → List ℕ
be zero x = []
be (suc n) x = x / 2 ^ (8 * n) % 256 ∷ be n x

abbrev pub be16 : ℕ → List ℕ
be16 x = x / 256 ∷ x % 256 ∷ []

-- of bytes the remainder changes nothing; with it the number fits its n bytes in any list
abbrev pub num_at : List ℕ → ℕ → ℕ → ℕ
num_at m at n = num (part at n m) % 2 ^ (8 * n)

abbrev pub u16_at : List ℕ → ℕ → ℕ
u16_at m at = get_or m at 0 * 256 + get_or m (at + 1) 0
