-- Rows of a lent table: a filter that shifts the rows that it keeps, in place; and what is then left.
--   dropped          the header, the rows of the first n that pass, zeros, and what stood after them
--   Going            a turn of the filter: what is kept so far, and what will be kept of the rest, is the result
--   rows_dropped     the rows of what is left
use Rattle.std.specs.Prelude.{◌≡◌, refl, Bool, true, false, cond, List, [], ◌∷◌, ◌++◌, ℕ, zero, suc, ◌+◌, ◌-◌, ◌*◌, ◌≤◌, ◌<◌, length, take, drop, replicate}
use Rattle.std.proofs.Common.{sym, ap, ◌∙◌, append_assoc, append-nil, add-zero, zero-add, arith, length-append, length-take-le}
use Rattle.std.proofs.Math.Nat.{sub-zero}
use Rattle.std.proofs.lemmas.List.{length-replicate}
use Rattle.rules.specs.Words.{cons_if, keep, each, from, part, splice}
use Rattle.rules.specs.TableBytes.{header_size, record_size, table_size, place, flag, row_at}
use Rattle.laws.specs.Parts.{left, length_part, length-splice, part-after, take-splice, drop-splice, part-mid}

abbrev pub rows : List ℕ → ℕ → ℕ → List (List ℕ)
rows t i k = from (row_at t) i k

abbrev pub kept : (List ℕ → Bool) → ℕ → List ℕ → List (List ℕ)
kept f n l = keep f (rows l 0 n)

unfoldable pub dropped : (List ℕ → Bool) → ℕ → List ℕ → List ℕ
dropped f n l = take header_size l ++ (each (kept f n l) ++ (replicate ((n - length (kept f n l)) * record_size) 0 ++ drop (place n) l))

-- ---------------------------------------------------------------- a turn

-- the rows behind what was put in are as they were
pub rows-after : (m k j : ℕ) (e l : List ℕ) → length e ≡ record_size → j < k → place j ≤ length l → rows (splice (place j) e l) k m ≡ rows l k m
rows-after zero k j e l q h r = refl
rows-after (suc m) k j e l q h r =
    rw (part-after (place k) record_size (place j) e l (omega arith) r, rows-after m (k + 1) j e l q (omega arith) r)

-- i of the n rows of l are behind us, and j of them were kept
pub record Going (f : List ℕ → Bool) (n : ℕ) (l t : List ℕ) (i j : ℕ) : Type 0 where
  pub i≤n : i ≤ n
  pub j≤i : j ≤ i
  pub same : length t ≡ length l
  pub bytes : take (place j) t ++ each (keep f (rows t i (n - i))) ≡ take header_size l ++ each (kept f n l)
  pub count : j + length (keep f (rows t i (n - i))) ≡ length (kept f n l)
  pub after : drop (place n) t ≡ drop (place n) l

pub going : (f : List ℕ → Bool) (n : ℕ) (l : List ℕ) → Going f n l l 0 0
going f n l = record { i≤n = omega arith; j≤i = omega arith; same = refl; bytes = rw sub-zero; count = rw (sub-zero, zero-add); after = refl }

module _ (f : List ℕ → Bool) (n : ℕ) (l t : List ℕ) (i j : ℕ) (g : Going f n l t i j) (h : i < n) (n≤ : n ≤ 256) (room : table_size ≤ length l) where
  more : place (i + 1) ≤ length t
  more = omega (arith, g.same)

  sized : length (row_at t i) ≡ record_size
  sized = length_part (place i) record_size t (omega (arith, more))

  kept_on : f (row_at t i) ≡ true → Going f n l (splice (place j) (row_at t i) t) (i + 1) (j + 1)
  kept_on e =
      let s = sized in
      let m = more in
      let T : take (place (j + 1)) (splice (place j) (row_at t i) t) ≡ take (place j) t ++ row_at t i =
      take-splice (place j) (place (j + 1)) (row_at t i) t (omega arith) (omega arith) in
      let R : rows (splice (place j) (row_at t i) t) (i + 1) (n - (i + 1)) ≡ rows t (i + 1) (n - (i + 1)) =
      rows-after (n - (i + 1)) (i + 1) j (row_at t i) t s (omega arith) (omega arith) in
      let c = rw (left n i h, e) at g.count in
      record {
        i≤n = omega arith;
        j≤i = omega arith;
        same = length-splice (place j) (row_at t i) t (omega arith) ∙ g.same;
        bytes = rw (T, R, append_assoc) (rw (left n i h, e) at g.bytes);
        count = rw R (omega arith);
        after = drop-splice (place n) (place j) (row_at t i) t (omega arith) (omega arith) ∙ g.after;
      }

  dropped-on : f (row_at t i) ≡ false → Going f n l t (i + 1) j
  dropped-on e = record {
    i≤n = omega arith;
    j≤i = omega arith;
    same = g.same;
    bytes = rw (left n i h, e) at g.bytes;
    count = rw (left n i h, e) at g.count;
    after = g.after;
  }

  pub going_on : (b : Bool) (t' : List ℕ) (r : ℕ) → f (row_at t i) ≡ b → r ≡ j + flag b → t' ≡ cond b (splice (place j) (row_at t i) t) t → Going f n l t' (i + 1) r
  going_on true t' r e p q = rw (p, q) (kept_on e)
  going_on false t' r e p q = rw (p, q, add-zero) (dropped-on e)

-- at the end the rest is cleared
pub gone-through : (f : List ℕ → Bool) (n : ℕ) (l t t' : List ℕ) (i j : ℕ) → Going f n l t i j → n ≤ i → n ≤ 256 → table_size ≤ length l
    → t' ≡ splice (place j) (replicate ((n - j) * record_size) 0) t → (j ≡ length (kept f n l)) × (t' ≡ dropped f n l)
unfolding dropped splice
gone-through f n l t t' i j g h n≤ room q =
    let z : n - i ≡ 0 = omega arith in
    let c : j + 0 ≡ length (kept f n l) = rw z at g.count in
    let b : take (place j) t ++ [] ≡ take header_size l ++ each (kept f n l) = rw z at g.bytes in
    let k : j ≡ length (kept f n l) = sym (add-zero j) ∙ c in
    let p : place j + length (replicate ((n - j) * record_size) (zero)) ≡ place n = rw length-replicate (omega arith) in
    (k, q ∙ rw (p, g.after, sym (append-nil (take (place j) t)) ∙ b, append_assoc, k))

-- ---------------------------------------------------------------- what is left

pub data Sized : List (List ℕ) → Type 0 where
  no_more : Sized []
  one_more : {e : List ℕ} {es : List (List ℕ)} → length e ≡ record_size → Sized es → Sized (e ∷ es)

pub sized_rows : (l : List ℕ) (k i : ℕ) → place (i + k) ≤ length l → Sized (rows l i k)
sized_rows l zero i h = no_more
sized_rows l (suc k) i h = one_more (length_part (place i) record_size l (omega arith)) (sized_rows l k (i + 1) (omega arith))

pub sized-keep : (f : List ℕ → Bool) {es : List (List ℕ)} → Sized es → Sized (keep f es)
sized-keep f no_more = no_more
sized-keep f (one_more {e} {es} q s) = by (f e) (sized-keep f s)
  where
    by : (b : Bool) → Sized (keep f es) → Sized (cons_if b e (keep f es))
    by true r = one_more q r
    by false r = r

pub each-length : {es : List (List ℕ)} → Sized es → length (each es) ≡ length es * record_size
each-length no_more = refl
each-length (one_more {e} {es} q s) = let r = each-length s in rw length-append (omega arith)

-- rows that are written one after another behind h are read back
pub rows-each : (h u : List ℕ) (i : ℕ) {es : List (List ℕ)} → Sized es → length h ≡ place i → rows (h ++ (each es ++ u)) i (length es) ≡ es
rows-each h u i no_more q = refl
rows-each h u i (one_more {e} {es} s r) q =
    let a : (h ++ e) ++ (each es ++ u) ≡ h ++ ((e ++ each es) ++ u) = simp append_assoc in
    let x : part (place i) record_size (h ++ ((e ++ each es) ++ u)) ≡ e = rw (← a, append_assoc) (part-mid (place i) record_size h e (each es ++ u) q s) in
    let y : rows ((h ++ e) ++ (each es ++ u)) (i + 1) (length es) ≡ es = rows-each (h ++ e) u (i + 1) r (rw length-append (omega arith)) in
    rw x (ap (λ (r : List (List ℕ)). e ∷ r) (ap (λ (l : List ℕ). from (row_at l) (i + 1) (length es)) (sym a) ∙ y))

module _ (f : List ℕ → Bool) (n : ℕ) (l : List ℕ) (h : n ≤ 256) (room : table_size ≤ length l) where
  abbrev rest : List ℕ
  rest = replicate ((n - length (kept f n l)) * record_size) 0 ++ drop (place n) l

  sized-kept : Sized (kept f n l)
  sized-kept = sized-keep f (sized_rows l n 0 (omega arith))

  header : length (take header_size l) ≡ header_size
  header = length-take-le header_size l (omega arith)

  pub rows_dropped : rows (dropped f n l) 0 (length (kept f n l)) ≡ kept f n l
  unfolding dropped
  rows_dropped = rows-each (take header_size l) rest 0 sized-kept header
