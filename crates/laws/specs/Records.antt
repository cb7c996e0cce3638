-- Records of a lent table by their places, and what code asks of them.
--   read, read-...          a record by its places; one field
--   counted, all-counted    one more record in a count of those that pass; all of them
use Rattle.std.specs.Prelude.{◌≡◌, Bool, true, false, not, List, ℕ, ◌+◌, ◌-◌, ◌*◌, ◌^◌, ◌≤◌, ◌<◌, eqb, length, take}
use Rattle.std.proofs.Common.{sym, ap, ◌∙◌, arith, lit≤}
use mir.Val.{bool_byte}
use Rattle.rules.specs.Words.{cons_if, keep, from, part, num_at}
use Rattle.rules.specs.Prefix.{prefix}
use Rattle.rules.specs.Identity.{identity}
use Rattle.rules.specs.Table.{Record, area}
use Rattle.rules.specs.TableBytes.{place, leased, record_of, record_at}
use Rattle.laws.specs.Loops.{keep-turn, keep-end}
use Rattle.laws.specs.InPlace.{row_number, row-length, row-duid}

module _ (l : List ℕ) (i : ℕ) where
  pub read : record_at l i ≡ record {
    owner = identity (take (num_at l (place i) 1) (part (place i + 23) 130 l)) (num_at l (place i + 1) 4);
    lease = leased (num_at l (place i + 5) 8) (num_at l (place i + 13) 1) (not (eqb (num_at l (place i + 14) 1) 0));
    end = num_at l (place i + 15) 8;
  }
  unfolding record_of
  read =
      rw (
        row-duid l i,
        row-length l i,
        row_number l i 1 4 (lit≤ tt),
        row_number l i 5 8 (lit≤ tt),
        row_number l i 13 1 (lit≤ tt),
        row_number l i 14 1 (lit≤ tt),
        row_number l i 15 8 (lit≤ tt),
      )

  pub read-area : {q b : ℕ} → q ≡ num_at l (place i + 5) 8 → b ≡ num_at l (place i + 13) 1 → prefix (q * 2 ^ 64) b ≡ area (record_at l i)
  read-area eq eb = sym (ap area read ∙ rw (eq, eb))

  pub read-iaid : (record_at l i).owner.iaid ≡ num_at l (place i + 1) 4
  read-iaid = ap (λ (r : Record). r.owner.iaid) read

  pub read-end : (record_at l i).end ≡ num_at l (place i + 15) 8
  read-end = ap (λ (r : Record). r.end) read

-- ---------------------------------------------------------------- a count

-- one more where a test that code adds as a number passed
pub at_most_one : (b : Bool) → bool_byte b ≤ 1
at_most_one true = omega arith
at_most_one false = omega arith

pub counted : {A : Type 0} (f : A → Bool) (g : ℕ → A) (i n k m : ℕ) {b : Bool} → i < n → b ≡ f (g i) → k + length (keep f (from g i (n - i))) ≡ m
    → k + bool_byte b + length (keep f (from g (i + 1) (n - (i + 1)))) ≡ m
counted f g i n k m {b} h e s = by b (ap length (keep-turn g i n f h (sym e)))
  where
    by : (c : Bool) → length (keep f (from g i (n - i))) ≡ length (cons_if c (g i) (keep f (from g (i + 1) (n - (i + 1))))) → k + bool_byte c + length (keep f (from g (i + 1) (n - (i + 1)))) ≡ m
    by true q = omega arith
    by false q = omega arith

pub all-counted : {A : Type 0} (f : A → Bool) (g : ℕ → A) (i n k m : ℕ) → n ≤ i → k + length (keep f (from g i (n - i))) ≡ m → k ≡ m
all-counted f g i n k m h s = let z = ap length (keep-end g i n f h) in omega arith
