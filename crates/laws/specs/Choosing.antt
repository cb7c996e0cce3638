-- The choice, as code makes it.
--   same-...      only the pool, the shortest and the standard length count
--   longer-...    the lengths from a to 60, one a turn
--   free-...      free by the first record that overlaps
--   hint-...      a hint by the two halves of its bits
--   choose-...    the choice, test by test
use Rattle.std.specs.Prelude.{◌≡◌, Bool, ◌&&◌, List, eqb, leb, length, Option, None, Some}
use Rattle.std.proofs.Math.Path.{refl, ap}
use Rattle.std.proofs.Common.{sym, ◌∙◌, eqb-true, le-leb}
use Rattle.std.proofs.Math.Bool.{true, false, not}
use Rattle.std.proofs.Math.Logic.{⊎_elim}
use Prim.Native.Nat.{ℕ, zero, suc, ◌+◌, ◌-◌, ◌*◌, ◌^◌, ◌≤◌, ◌<◌}
use native.Mathlib.Omega.{arith}
use Rattle.std.proofs.Math.Pow.{low}
use Rattle.std.proofs.lemmas.Bool.{eqb-false, lt-leb}
use Rattle.rules.specs.Words.{all, from}
use Rattle.rules.specs.Prefix.{Prefix, prefix, zero_after, inside}
use Rattle.rules.specs.Settings.{Settings}
use Rattle.rules.specs.Table.{Record}
use Rattle.rules.specs.Choose.{wanted, wanted_for, hits, free, is_place, within, walk_from, lowest, or_longer, shortest_from, otherwise, unless_full, choose}
use Rattle.laws.specs.Tests.{false-true, lt-or-ge}
use Rattle.laws.specs.Parts.{left}
use Rattle.laws.specs.Loops.{first_place, all-at, place-passes, place_none}
use Rattle.laws.specs.Prefix.{finer}
use Rattle.laws.specs.Halves.{zero-times}

-- ---------------------------------------------------------------- settings

module _ (s s' : Settings) (rs : List Record) (p : s.pool ≡ s'.pool) where
  same-walk : (a k x : ℕ) → walk_from k s rs a x ≡ walk_from k s' rs a x
  unfolding walk_from
  same-walk a zero x = refl
  same-walk a (suc k) x = λ i. within (λ y. same-walk a k y i) rs a x (inside (prefix x a) (p i))

  pub same-lowest : (a : ℕ) → lowest s rs a ≡ lowest s' rs a
  unfolding lowest
  same-lowest a =
      ap (λ (q : Prefix). walk_from (2 ^ (a - q.length)) s rs a q.bits) p
      ∙ same-walk a (2 ^ (a - s'.pool.length)) s'.pool.bits

  pub same-shortest : (k a : ℕ) → shortest_from k s rs a ≡ shortest_from k s' rs a
  unfolding shortest_from
  same-shortest zero a = refl
  same-shortest (suc k) a = λ i. or_longer (λ b. same-shortest k b i) a (same-lowest a i)

  module _ (q : s.shortest ≡ s'.shortest) where
    pub same_place : (h : Option Prefix) → is_place s rs h ≡ is_place s' rs h
    unfolding is_place
    same_place None = refl
    same_place (Some x) = rw (p, q)

    same-wanted : s.standard ≡ s'.standard → (h : Option Prefix) → wanted s h ≡ wanted s' h
    unfolding wanted
    same-wanted d None = d
    same-wanted d (Some x) = rw (q, d)

    pub same-choose : s.standard ≡ s'.standard → (h : Option Prefix) → choose s rs h ≡ choose s' rs h
    unfolding choose
    same-choose d h = full (leb 256 (length rs))
      where
        other : (b : Bool) → otherwise s rs h b ≡ otherwise s' rs h b
        other true = refl
        other false = rw (same-wanted d h) (same-shortest (61 - wanted s' h) (wanted s' h))

        full : (b : Bool) → unless_full s rs h b ≡ unless_full s' rs h b
        full true = refl
        full false = rw (same_place h) (other (is_place s' rs h))

-- ---------------------------------------------------------------- the lengths

module _ (s : Settings) (rs : List Record) (a : ℕ) where
  pub longer-turn : a ≤ 60 → {f : Option ℕ} → lowest s rs a ≡ f → shortest_from (61 - a) s rs a ≡ or_longer (λ b. shortest_from (61 - (a + 1)) s rs b) a f
  unfolding shortest_from
  longer-turn h e = rw (left 61 a (omega arith), e)

  pub longer-end : 60 < a → shortest_from (61 - a) s rs a ≡ None
  unfolding shortest_from
  longer-end h = let z : 61 - a ≡ 0 = omega arith in rw z

-- ---------------------------------------------------------------- free

module _ (g : ℕ → Record) (n : ℕ) (p : Prefix) where
  pub free-nothing : first_place (hits p) (from g 0 n) 0 ≡ None → free (from g 0 n) p ≡ true
  unfolding free
  free-nothing e = place_none g (hits p) n 0 e

  pub free-at : {i : ℕ} → first_place (hits p) (from g 0 n) 0 ≡ Some i → free (from g 0 n) p ≡ false
  unfolding free
  free-at {i} e = by (all (λ r. not (hits p r)) (from g 0 n)) refl
    where
      by : (b : Bool) → all (λ r. not (hits p r)) (from g 0 n) ≡ b → b ≡ false
      by true q =
          let f = place-passes g (hits p) n 0 i e in
          let h : not (hits p (g i)) ≡ true = all-at g (λ r. not (hits p r)) n 0 i (omega arith) f.1 q in
          absurd (false-true (rw f.2 at h))
      by false q = refl

-- ---------------------------------------------------------------- the hint

and-false : (b : Bool) → b && false ≡ false
and-false true = refl
and-false false = refl

module _ (s : Settings) (rs : List Record) (u l n : ℕ) where
  -- a 1 in the lower half is a 1 after at most 60 bits
  pub hint-lower : l < 2 ^ 64 → (l ≡ 0 → ⊥) → is_place s rs (Some (prefix (u * 2 ^ 64 + l) n)) ≡ false
  unfolding is_place
  hint-lower f z = ⊎_elim long short (lt-or-ge 60 n)
    where
      p : Prefix
      p = prefix (u * 2 ^ 64 + l) n

      long : 60 < n → not (eqb p.bits 0) && leb s.shortest n && leb n 60 && zero_after p && inside p s.pool && free rs p ≡ false
      long h = rw (lt-leb n 60 h, and-false (not (eqb p.bits 0) && leb s.shortest n))

      not-zero : n ≤ 60 → (b : Bool) → zero_after p ≡ b → b ≡ false
      not-zero h true q = absurd (z (sym (low u 64 f) ∙ finer p.bits n 64 (omega arith) (eqb-true _ 0 q)))
      not-zero h false q = refl

      short : n ≤ 60 → not (eqb p.bits 0) && leb s.shortest n && leb n 60 && zero_after p && inside p s.pool && free rs p ≡ false
      short h = rw (not-zero h (zero_after p) refl, and-false (not (eqb p.bits 0) && leb s.shortest n && leb n 60))

  pub hint-upper : l ≡ 0 → is_place s rs (Some (prefix (u * 2 ^ 64 + l) n))
      ≡ not (eqb u 0) && leb s.shortest n && leb n 60 && zero_after (prefix (u * 2 ^ 64) n) && inside (prefix (u * 2 ^ 64) n) s.pool && free rs (prefix (u * 2 ^ 64) n)
  unfolding is_place
  hint-upper z = let e : u * 2 ^ 64 + l ≡ u * 2 ^ 64 = omega arith in rw (e, zero-times u)

  -- so a hint that is a place has a lower half of zero
  pub hint-place : l < 2 ^ 64 → is_place s rs (Some (prefix (u * 2 ^ 64 + l) n)) ≡ true → prefix (u * 2 ^ 64 + l) n ≡ prefix (u * 2 ^ 64) n
  hint-place f e = by (eqb l 0) refl
    where
      by : (b : Bool) → eqb l 0 ≡ b → prefix (u * 2 ^ 64 + l) n ≡ prefix (u * 2 ^ 64) n
      by true q = let z = eqb-true l 0 q in let w : u * 2 ^ 64 + l ≡ u * 2 ^ 64 = omega arith in ap (λ (x : ℕ). prefix x n) w
      by false q = absurd (false-true (sym (hint-lower f (eqb-false l 0 q)) ∙ e))

-- ---------------------------------------------------------------- the choice, test by test

module _ (s : Settings) (rs : List Record) where
  pub choose-full : (h : Option Prefix) → 256 ≤ length rs → choose s rs h ≡ None
  unfolding choose
  choose-full h l = rw (le-leb 256 (length rs) l)

  module _ (room : length rs < 256) where
    pub choose-unasked : choose s rs None ≡ shortest_from (61 - s.standard) s rs s.standard
    unfolding choose is_place wanted
    choose-unasked = rw (lt-leb 256 (length rs) room)

    pub choose-asked : (p : Prefix) → is_place s rs (Some p) ≡ true → choose s rs (Some p) ≡ Some p
    unfolding choose
    choose-asked p e = rw (lt-leb 256 (length rs) room, e)

    pub choose-other : (p : Prefix) → is_place s rs (Some p) ≡ false
        → choose s rs (Some p) ≡ shortest_from (61 - wanted_for s p.length) s rs (wanted_for s p.length)
    unfolding choose wanted
    choose-other p e = rw (lt-leb 256 (length rs) room, e)
