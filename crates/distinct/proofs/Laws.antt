-- Marks for numbers: what each turn of `plain` keeps.
use mathlib.Core.Path.{◌≡◌, refl, sym, ap, ◌∙◌}
use mathlib.Core.Bool.{Bool, true, false, cond}
use mathlib.Core.Logic.{◌⊎◌, inl, inr}
use mathlib.Core.List.{List}
use Prim.Native.Nat.{ℕ, ◌+◌, ◌-◌, ◌%◌, ◌≤◌, ◌<◌}
use native.Mathlib.Omega.{arith}
use native.Mathlib.Nat.{mod-lt, mod-eq_of_lt}
use lib.Dec.{eqb}
use lib.ListN.{length, replicate, set, length-replicate, length-set}
use lib.Seq.{get_or-set_same, get_or-set_other}
use borrow.Author.Tests.{eqb-true, eqb-false}
use Rattle.laws.specs.Tests.{lt-or-ge}
use Rattle.distinct.specs.Distinct.{at, home, Distinct, Free}

-- ---------------------------------------------------------------- the numbers marked so far

-- number x is marked at p, and each place from its own to there is marked
pub record MarkedAt (keys marks : List ℕ) (x p : ℕ) : Type 0 where
  pub from-home : home (at keys x) ≤ p
  pub near : p < home (at keys x) + 8
  pub here : at marks p ≡ x + 1
  pub before : (e : ℕ) → home (at keys x) ≤ e → e < p → at marks e ≡ 0 → ⊥

-- of the first i numbers each is marked, but for the last of 256, after which none is looked for; and no two are the same
pub record Marked (keys marks : List ℕ) (i : ℕ) : Type 0 where
  pub size : length marks ≡ 2048
  pub place : ℕ → ℕ
  pub marked : (x : ℕ) → x < i → x < 255 → MarkedAt keys marks x (place x)
  pub apart : Distinct keys i

pub none-marked : (keys : List ℕ) → Marked keys (replicate 2048 0) 0
none-marked keys = record {
  size = length-replicate {A = ℕ} 2048 0;
  place = λ x. 0;
  marked = λ x h g. absurd (omega arith);
  apart = λ x y h g. absurd (omega arith);
}

home_below : (k : ℕ) → home k < 2039
home_below k = let p : 0 < 2039 = omega arith in mod-lt k p

module _ (keys marks : List ℕ) (i r : ℕ) (few : i < 256) (h : Marked keys marks i) (f : Free keys marks (home (at keys i)) (at keys i) r) where
  -- the look met no earlier number that is the same
  met : (x p : ℕ) → at keys x ≡ at keys i → MarkedAt keys marks x p → ⊥
  met x p e m = by (eqb p r) refl (lt-or-ge p r)
    where
      same : home (at keys x) ≡ home (at keys i)
      same = ap home e

      by : (b : Bool) → eqb p r ≡ b → (p < r) ⊎ (r ≤ p) → ⊥
      by true q o = let a = m.here in let c = ap (at marks) (eqb-true p r q) in let d = f.free in omega arith
      by false q (inl o) =
          let back : at marks p - 1 ≡ x = (let a = m.here in omega arith) in
          (f.before.passed p (let a = m.from-home in omega arith) o).1 (ap (at keys) back ∙ e)
      by false q (inr o) = let z = eqb-false p r q in m.before r (let a = f.from-home in omega arith) (omega arith) f.free

  new : (x : ℕ) → x < i → at keys x ≡ at keys i → ⊥
  new x l e = met x (h.place x) e (h.marked x l (omega arith))

  within : r < length marks
  within = let a = h.size in let b = home_below (at keys i) in let c = f.near in omega arith

  module _ (v : ℕ) (after : List ℕ) (put : after ≡ set marks r v) where
    -- a place that is marked stays as it is
    stays : (e : ℕ) → (at marks e ≡ 0 → ⊥) → at after e ≡ at marks e
    stays e n = ap (λ l. at l e) put ∙ get_or-set_other marks r e v 0 (λ q. n (ap (at marks) q ∙ f.free))

    kept : (x p : ℕ) → MarkedAt keys marks x p → MarkedAt keys after x p
    kept x p m = record {
      from-home = m.from-home;
      near = m.near;
      here = stays p (λ z. let a = m.here in omega arith) ∙ m.here;
      before = λ e a b z. m.before e a b (sym (stays e (m.before e a b)) ∙ z);
    }

    added : v ≡ i + 1 → MarkedAt keys after i r
    added q = record {
      from-home = f.from-home;
      near = f.near;
      here = ap (λ l. at l r) put ∙ get_or-set_same marks r v 0 within ∙ q;
      before = λ e a b z. let n = (f.before.passed e a b).0 in n (sym (stays e n) ∙ z);
    }

    pub one-marked : v ≡ (i + 1) % 256 → Marked keys after (i + 1)
    one-marked q = record {
      size = ap length put ∙ length-set marks r v ∙ h.size;
      place = λ x. cond (eqb x i) r (h.place x);
      marked = λ x l g. at_place x l g (eqb x i) refl;
      apart = λ x y l g e. differ x y l g e (eqb y i) refl;
    }
      where
        at_place : (x : ℕ) → x < i + 1 → x < 255 → (b : Bool) → eqb x i ≡ b → MarkedAt keys after x (cond b r (h.place x))
        at_place x l g true z =
            let e = eqb-true x i z in
            let w : i + 1 < 256 = omega arith in
            rw e (added (q ∙ mod-eq_of_lt w))
        at_place x l g false z = let n = eqb-false x i z in kept x (h.place x) (h.marked x (omega arith) g)

        differ : (x y : ℕ) → x < y → y < i + 1 → at keys x ≡ at keys y → (b : Bool) → eqb y i ≡ b → ⊥
        differ x y l g e true z = let w = eqb-true y i z in new x (omega arith) (e ∙ ap (at keys) w)
        differ x y l g e false z = let w = eqb-false y i z in h.apart x y l (omega arith) e
