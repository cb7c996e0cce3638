-- Records of a lent table, read in place: a field of a record is one of the table, from the record's place on.
--   row_number, good-row-read      a number in a record; when its bytes are good
--   owner-length, owner-part       how many bytes it has of its DUID; which they are
--   owner-other, owner-same        whether they are those of a given DUID
use Rattle.std.specs.Prelude.{◌≡◌, Bool, false, ◌&&◌, List, ◌⊎◌, ℕ, ◌+◌, ◌-◌, ◌*◌, ◌%◌, ◌≤◌, ◌<◌, ◌^◌, min, length, take, drop}
use Rattle.std.proofs.Common.{sym, ◌∙◌, inl, inr, add-zero, lit≤, length-take, take-take, take_all}
use Rattle.std.proofs.Math.Path.{ap}
use native.Mathlib.Omega.{arith}
use Rattle.rules.specs.Words.{part, same_bytes, num, num_at}
use Rattle.rules.specs.Settings.{Settings}
use Rattle.rules.specs.TableBytes.{record_size, table_size, place, row_at, record_of, record_at}
use Rattle.laws.specs.Tests.{lt-or-ge}
use Rattle.laws.specs.Parts.{length_part, part-part, drop-part}
use Rattle.laws.specs.Same.{other_length}
use Rattle.laws.specs.Flat.{duid_in, good_numbers, good_row}

take-least : (m n : ℕ) (l : List ℕ) → take m (take n l) ≡ take (min m n) l
take-least m n l = by (lt-or-ge n m)
  where
    by : (n < m) ⊎ (m ≤ n) → take m (take n l) ≡ take (min m n) l
    by (inl h) =
        let e : min m n ≡ n = omega arith in
        take_all m (take n l) (rw length-take (omega arith)) ∙ rw e
    by (inr h) = let e : min m n ≡ m = omega arith in take-take m n l h ∙ rw e

module _ (t : List ℕ) (i : ℕ) where
  pub row_number : (a n : ℕ) → a + n ≤ record_size → num_at (row_at t i) a n ≡ num_at t (place i + a) n
  row_number a n h = ap (λ l. num l % 2 ^ (8 * n)) (part-part a n (place i) record_size t h)

  pub row-length : num_at (row_at t i) 0 1 ≡ num_at t (place i) 1
  row-length = row_number 0 1 (lit≤ tt) ∙ ap (λ k. num_at t k 1) (add-zero (place i))

  -- what follows a DUID of n bytes
  row-rest : (n : ℕ) → part (23 + n) (130 - n) (row_at t i) ≡ part (place i + 23 + n) (130 - n) t
  unfolding part
  row-rest n = by (lt-or-ge 130 n)
    where
      by : (130 < n) ⊎ (n ≤ 130) → part (23 + n) (130 - n) (row_at t i) ≡ part (place i + 23 + n) (130 - n) t
      by (inl h) = let z : 130 - n ≡ 0 = omega arith in rw z
      by (inr h) = let e : place i + (23 + n) ≡ place i + 23 + n = omega arith in part-part (23 + n) (130 - n) (place i) record_size t (omega arith) ∙ rw e

  pub good-row-read : (s : Settings) → good_row s (row_at t i)
      ≡ duid_in (place i + 23) (num_at t (place i) 1) t
      && good_numbers s (num_at t (place i + 5) 8) (num_at t (place i + 13) 1) (num_at t (place i + 14) 1) (num_at t (place i + 15) 8)
  unfolding good_row
  good-row-read s =
      rw (row-length, row-rest (num_at t (place i) 1), row_number 5 8 (lit≤ tt), row_number 13 1 (lit≤ tt), row_number 14 1 (lit≤ tt), row_number 15 8 (lit≤ tt))

  -- ---------------------------------------------------------------- its DUID

  -- n bytes of it, of the 130 that there are
  pub row-duid : (n : ℕ) → part 23 n (row_at t i) ≡ take n (part (place i + 23) 130 t)
  unfolding part
  row-duid n = ap (take n) (drop-part 23 record_size (place i) t)

  abbrev duid : List ℕ
  duid = (record_at t i).owner.duid

  owner-duid : duid ≡ part (place i + 23) (min (num_at t (place i) 1) 130) t
  unfolding record_of part
  owner-duid = rw row-length (row-duid (num_at t (place i) 1) ∙ take-least (num_at t (place i) 1) 130 (drop (place i + 23) t))

  module _ (h : i < 256) (room : table_size ≤ length t) where
    -- as many as its length says, and at most the 130
    pub owner-length : length duid ≡ min (num_at t (place i) 1) 130
    owner-length = ap length owner-duid ∙ length_part (place i + 23) (min (num_at t (place i) 1) 130) t (omega arith)

    pub owner-part : duid ≡ part (place i + 23) (length duid) t
    owner-part = owner-duid ∙ ap (λ n. part (place i + 23) n t) (sym owner-length)

    -- whether it is d, by the lengths first
    module _ (d : List ℕ) {n : ℕ} (p : n ≡ length duid) where
      pub owner-other : (n ≡ length d → ⊥) → false ≡ same_bytes duid d
      owner-other q = sym (other_length duid d (λ e. q (p ∙ e)))

      pub owner-same : {r : Bool} → n ≡ length d → r ≡ same_bytes (part (place i + 23) (length d) t) d → r ≡ same_bytes duid d
      owner-same q e = e ∙ ap (λ k. same_bytes (part (place i + 23) k t) d) (sym q ∙ p) ∙ ap (λ l. same_bytes l d) (sym owner-part)
