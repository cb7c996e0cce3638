-- Numbers of a list that are not the same, and where they are marked: number x by a mark x + 1 at one of the eight places from its own.
use Rattle.std.specs.Prelude.{ℕ, ◌+◌, ◌-◌, ◌%◌, ◌≤◌, ◌<◌, ◌≡◌, List, get_or}

abbrev pub at : List ℕ → ℕ → ℕ
at l i = get_or l i 0

-- no two of the first n are the same
abbrev pub Distinct : List ℕ → ℕ → Type 0
Distinct l n = (x y : ℕ) → x < y → y < n → at l x ≡ at l y → ⊥

-- a number's own place
abbrev pub home : ℕ → ℕ
home k = k % 2039

-- from s to before p each place is marked, none of them for the number k
pub record Passed (keys marks : List ℕ) (s k p : ℕ) : Type 0 where
  pub passed : (e : ℕ) → s ≤ e → e < p → (at marks e ≡ 0 → ⊥) × (at keys (at marks e - 1) ≡ k → ⊥)

-- the first place without a mark, one of the eight from s
pub record Free (keys marks : List ℕ) (s k p : ℕ) : Type 0 where
  pub from-home : s ≤ p
  pub near : p < s + 8
  pub free : at marks p ≡ 0
  pub before : Passed keys marks s k p
