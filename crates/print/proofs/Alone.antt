-- Laws that only the proofs of options that stand alone need: how long they are, which have an encoding, and what a writer leaves.
use mathlib.Core.Path.{◌≡◌, refl, ap, sym, ◌∙◌}
use mathlib.Core.Bool.{Bool, true, false, cond, not, ◌&&◌, ◌||◌}
use mathlib.Core.List.{List, [], ◌∷◌, ◌++◌, map}
use Rattle.std.specs.Prelude.{None, Some, Result, Ok, Err}
use Rattle.std.specs.List.{list_all}
use Prim.Native.Nat.{ℕ, ◌+◌, ◌*◌, ◌^◌, ◌≤◌, ◌<◌}
use native.Mathlib.Omega.{arith}
use borrow.Author.Tests.{lt-ltb, le-ltb, le-leb, leb-true, ltb-true, ltb-false}
use lib.Dec.{eqb, leb, ltb}
use lib.ListN.{length, get_or, take, drop, length-append}
use lib.Seq.{take_all}
use Rattle.rules.specs.Words.{all, cons_if, num, be16}
use Rattle.rules.specs.Refusals.{done, number_of, unless}
use Rattle.rules.specs.Prefix.{Prefix, prefix, fits, bytes_for, exclude_bytes, encodable, lease_encodable}
use Rattle.rules.specs.Options.{option, printed}
use Rattle.rules.specs.Message.{Ia, name_of, status_item, listed_bytes, ia_bytes}
use Rattle.rules.specs.Lone.{write, listed_encodes, ia_encodes}
use Rattle.rules.specs.Lent.{ended, word_of, written}
use Rattle.rules.specs.declared.Refusal.{Refusal}
use Rattle.laws.specs.Refusals.{refused_by, numbered}
use Rattle.laws.specs.Tests.{both}
use Rattle.laws.specs.Loops.{all_map, all-sub}
use Rattle.laws.specs.Bits.{Sixteen, sixteen-lt}
use Rattle.laws.specs.Exclude.{encodes}
use Rattle.laws.specs.Stands.{option-length}
use Rattle.laws.specs.Round.{exclude-length}
use Rattle.laws.specs.Sizes.{name-most}
use Rattle.laws.specs.Writes.{Wrote, wrote-whole}
use Rattle.values.specs.Values.{except_of, lease_of, listed_of, lease_encodes, first_listed, ia_of, Able}
use Rattle.values.specs.declared.IaPrefix.{IaPrefix}
use Rattle.values.specs.declared.Pd.{Pd}
use Rattle.print.specs.Bytes.{prefix_bytes, prefixes_bytes}
use Rattle.print.specs.Lone.{refusal_of, Trimmed}
use Rattle.print.proofs.Laws.{status-named, status-nameless, exclude-size, listed-few, cut-none, cut-some, prefix-size, blank, rest-first, first-few, said-few, ia-size}

-- ---------------------------------------------------------------- how long they are

pub status-sized : (k j : ℕ) → k ≡ j → length (printed (status_item k ∷ [])) ≡ 6 + length (name_of j)
status-sized k j e = ap length (status-named k j e) ∙ option-length 13 (be16 k ++ name_of j) ∙ omega arith

pub status-bare : (k : ℕ) → (k ≡ 0 → ⊥) → (k ≡ 3 → ⊥) → (k ≡ 6 → ⊥) → length (printed (status_item k ∷ [])) ≡ 6
status-bare k a b c = ap length (status-nameless k a b c) ∙ option-length 13 (be16 k ++ []) ∙ omega arith

module _ (x : IaPrefix) where
  pub whole-size : x.cut ≡ 0 → length (prefix_bytes x) ≡ 29
  whole-size h = prefix-size x ∙ ap (λ (l : List ℕ). 29 + length l) (cut-none x h)

  pub cut-size : (x.cut ≡ 0 → ⊥) → length (prefix_bytes x) ≡ 34 + bytes_for x.length x.cut
  cut-size h =
      prefix-size x ∙ ap (λ (l : List ℕ). 29 + length l) (cut-some x h)
      ∙ omega (arith, exclude-size x.length (prefix (num x.out) x.cut))

pub rest-size : (i : ℕ) (xs : List IaPrefix) → i < length xs
    → length (prefixes_bytes (drop i xs)) ≡ length (prefix_bytes (get_or xs i blank)) + length (prefixes_bytes (drop (i + 1) xs))
rest-size i xs l = ap length (rest-first i xs l) ∙ length-append (prefix_bytes (get_or xs i blank)) (prefixes_bytes (drop (i + 1) xs))

-- ---------------------------------------------------------------- which have an encoding

and-true : (a : Bool) {b : Bool} → b ≡ true → a ≡ a && b
and-true true e = sym e
and-true false e = refl

-- sixteen bytes are of 128 bits
pub fits-sixteen : (q : List ℕ) (a : ℕ) → Sixteen q → leb a 128 ≡ fits (prefix (num q) a)
fits-sixteen q a s = and-true (leb a 128) (lt-ltb (num q) (2 ^ 128) (sixteen-lt q s))

lease-by : (p q : Prefix) (b : Bool) → fits p && (b || encodable p q) ≡ lease_encodable p (cond b None (Some q))
lease-by p q true = sym (and-true (fits p) refl)
lease-by p q false = refl

pub listed-encodes : (x : IaPrefix) → x.preferred < 2 ^ 32 → x.valid < 2 ^ 32
    → fits (prefix (num x.bits) x.length) && (eqb x.cut 0 || encodable (prefix (num x.bits) x.length) (prefix (num x.out) x.cut)) ≡ listed_encodes (listed_of x [])
unfolding listed_of lease_of except_of
listed-encodes x h g =
    rw (lt-ltb x.preferred (2 ^ 32) h, lt-ltb x.valid (2 ^ 32) g)
    (lease-by (prefix (num x.bits) x.length) (prefix (num x.out) x.cut) (eqb x.cut 0)
    ∙ and-true (lease_encodable (prefix (num x.bits) x.length) (cond (eqb x.cut 0) None (Some (prefix (num x.out) x.cut)))) refl)

pub encodes-lease : (x : IaPrefix) → listed_encodes (listed_of x []) ≡ true → lease_encodes x ≡ true
unfolding listed_of
encodes-lease x h = (both (ltb x.preferred (2 ^ 32) && ltb x.valid (2 ^ 32)) (lease_encodes x) (both (ltb x.preferred (2 ^ 32) && ltb x.valid (2 ^ 32) && lease_encodes x) true h).0).1

pub list-all : (xs : List IaPrefix) → list_all (λ x. listed_encodes (listed_of x [])) xs ≡ all listed_encodes (map (λ x. listed_of x []) xs)
list-all [] = refl
list-all (x ∷ xs) = rw (list-all xs)

-- what has an encoding isn't too long
able-few : (able : Bool) (s : List ℕ) → (able ≡ true → length s ≤ 65535) → able && leb (length s) 65535 ≡ able
able-few true s h = le-leb (length s) 65535 (h refl)
able-few false s h = refl

status-able : (k : ℕ) → ltb k 65536 && leb (length (be16 k ++ name_of k)) 65535 ≡ ltb k 65536
status-able k = able-few (ltb k 65536) (be16 k ++ name_of k) (λ h. omega (arith, name-most k))

exclude-able : (p e : Prefix) {t : Bool} → t ≡ encodable p e → encodable p e && leb (length (exclude_bytes p.length e)) 65535 ≡ t
exclude-able p e q =
    able-few (encodable p e) (exclude_bytes p.length e) (λ h. omega (arith, exclude-length p.length e, (encodes p e h).most)) ∙ sym q

prefix-able : (x : IaPrefix) {t : Bool} → t ≡ listed_encodes (listed_of x []) → listed_encodes (listed_of x []) && leb (length (listed_bytes (listed_of x []))) 65535 ≡ t
prefix-able x q = able-few (listed_encodes (listed_of x [])) (listed_bytes (listed_of x [])) (λ h. omega (arith, listed-few x (encodes-lease x h))) ∙ sym q

ia-few : (d : Pd) → Able d → length (ia_bytes (ia_of d)) ≤ 281
ia-few d a =
    omega
    (arith, ia-size d, option-length 25 (ia_bytes (ia_of d)), first-few d.count d.prefixes a.prefixes a.count, said-few d.says d.status)

-- past its end there is no more to take
pub take-over : {A : Type 0} (m n : ℕ) (l : List A) → length l ≤ m → length l ≤ n → take m l ≡ take n l
take-over m n l h g = take_all m l h ∙ sym (take_all n l g)

-- d, trimmed to e
module _ (d e : Pd) (t : Trimmed d e) {r : Bool} (q : r ≡ all listed_encodes (first_listed e.count e.prefixes) && ltb e.status 65536) where
  pd-ready : r ≡ true → Able e
  pd-ready h =
      let b = both (all listed_encodes (first_listed e.count e.prefixes)) (ltb e.status 65536) (sym q ∙ h) in
      let a : all (λ x. listed_encodes (listed_of x [])) (take e.count e.prefixes) ≡ true = sym (all_map listed_encodes (λ x. listed_of x []) (take e.count e.prefixes)) ∙ b.0 in
      record {
        count = t.count;
        prefixes = all-sub (λ x. listed_encodes (listed_of x [])) lease_encodes encodes-lease (take e.count e.prefixes) a;
        status = ltb-true e.status 65536 b.1;
      }

  said-encodes : (b : Bool) (k : ℕ) → (b ≡ false → k ≡ 0) → all (λ k. ltb k 65536) (cons_if b k []) ≡ ltb k 65536
  said-encodes true k h = sym (and-true (ltb k 65536) refl)
  said-encodes false k h = rw (h refl)

  module _ (x : d.iaid < 2 ^ 32) (y : d.t1 < 2 ^ 32) (z : d.t2 < 2 ^ 32) where
    pub pd-encodes : ia_encodes (ia_of d) ≡ r
    unfolding ia_of
    pd-encodes =
        let l : first_listed e.count e.prefixes ≡ first_listed d.count d.prefixes = ap (λ (i : Ia). i.listed) t.same in
        let m : cons_if e.says e.status [] ≡ cons_if d.says d.status [] = ap (λ (i : Ia). i.statuses) t.same in
        rw (lt-ltb d.iaid (2 ^ 32) x, lt-ltb d.t1 (2 ^ 32) y, lt-ltb d.t2 (2 ^ 32) z, ← l, ← m, said-encodes e.says e.status t.status) (sym q)

    pub pd-free : ia_encodes (ia_of d) ≡ true → Able e
    pd-free h = pd-ready (sym pd-encodes ∙ h)

    pd-able : ia_encodes (ia_of d) && leb (length (ia_bytes (ia_of d))) 65535 ≡ r
    pd-able = able-few (ia_encodes (ia_of d)) (ia_bytes (ia_of d)) few ∙ pd-encodes
      where
        few : ia_encodes (ia_of d) ≡ true → length (ia_bytes (ia_of d)) ≤ 65535
        few h = rw (← t.same) (omega (arith, ia-few e (pd-free h)))

-- ---------------------------------------------------------------- what a writer leaves

-- q judges the option of code w and content s, whose values have an encoding if `able`
pub record Judged (able : Bool) (w : ℕ) (s out : List ℕ) (q : Result (Unit {0}) Refusal) : Type 0 where
  pub is : refused_by q ≡ refusal_of (able && leb (length s) 65535) (length (option w s)) (length out)

judged : (w : ℕ) (s out : List ℕ) {able t : Bool} {size : ℕ} {q : Result (Unit {0}) Refusal} → able && leb (length s) 65535 ≡ t → size ≡ length (option w s)
    → refused_by q ≡ refusal_of t size (length out) → Judged able w s out q
judged w s out h l e = record { is = rw (h, ← l) e }

module _ (out : List ℕ) {q : Result (Unit {0}) Refusal} where
  pub id-judged : (w : ℕ) (duid : List ℕ) → refused_by q ≡ refusal_of (leb (length duid) 65535) (4 + length duid) (length out) → Judged true w duid out q
  id-judged w duid e = judged w duid out refl (sym (option-length w duid)) e

  pub request-judged : refused_by q ≡ refusal_of true 6 (length out) → Judged true 6 (be16 67) out q
  unfolding option
  request-judged e = judged 6 (be16 67) out refl refl e

  pub status-judged : (k : ℕ) {size : ℕ} → size ≡ length (printed (status_item k ∷ [])) → refused_by q ≡ refusal_of (ltb k 65536) size (length out)
      → Judged (ltb k 65536) 13 (be16 k ++ name_of k) out q
  status-judged k l e = judged 13 (be16 k ++ name_of k) out (status-able k) (l ∙ ap length (status-named k k refl)) e

  pub exclude-judged : (p e : Prefix) {t : Bool} {size : ℕ} → t ≡ encodable p e → size ≡ 5 + bytes_for p.length e.length → refused_by q ≡ refusal_of t size (length out)
      → Judged (encodable p e) 67 (exclude_bytes p.length e) out q
  exclude-judged p e h l g = judged 67 (exclude_bytes p.length e) out (exclude-able p e h) (l ∙ sym (exclude-size p.length e)) g

  pub prefix-judged : (x : IaPrefix) {t : Bool} {size : ℕ} → t ≡ listed_encodes (listed_of x []) → size ≡ length (prefix_bytes x) → refused_by q ≡ refusal_of t size (length out)
      → Judged (listed_encodes (listed_of x [])) 26 (listed_bytes (listed_of x [])) out q
  unfolding prefix_bytes
  prefix-judged x h l e = judged 26 (listed_bytes (listed_of x [])) out (prefix-able x h) l e

  -- d, trimmed to f
  pub pd-judged : (d f : Pd) (t : Trimmed d f) {r : Bool} {size : ℕ} → r ≡ all listed_encodes (first_listed f.count f.prefixes) && ltb f.status 65536 → size ≡ length (option 25 (ia_bytes (ia_of f)))
      → d.iaid < 2 ^ 32 → d.t1 < 2 ^ 32 → d.t2 < 2 ^ 32 → refused_by q ≡ refusal_of r size (length out) → Judged (ia_encodes (ia_of d)) 25 (ia_bytes (ia_of d)) out q
  pd-judged d f t h l x y z e =
      judged 25 (ia_bytes (ia_of d)) out (pd-able d f t h x y z) (l ∙ ap (λ (i : Ia). length (option 25 (ia_bytes i))) t.same) e

module _ {able : Bool} {w : ℕ} {s out : List ℕ} {q : Result (Unit {0}) Refusal} (j : Judged able w s out q) where
  pub lone-refused : {f : Refusal} {r : Result ℕ Refusal} → q ≡ Err f → r ≡ Err f → ended (word_of r) [] out ≡ written out (write able w s)
  lone-refused {f} h g = rw g (by (able && leb (length s) 65535) (ltb (length out) (length (option w s))) (rw h at j.is))
    where
      by : (a b : Bool) → number_of f ≡ cond (not a) 5 (cond b 2 0) → ended (number_of f * 65536) [] out ≡ written out (λ room. unless ((5, not a) ∷ (2, b) ∷ []) (done (option w s)))
      by false b e = rw e
      by true true e = rw e
      by true false e = absurd (numbered f e)

  -- what is not refused has an encoding, isn't too long and has room
  pub lone-able : {u : Unit {0}} → q ≡ Ok u → (able ≡ true) × (length s ≤ 65535) × (length (option w s) ≤ length out)
  lone-able h = by (able && leb (length s) 65535) (ltb (length out) (length (option w s))) refl refl (rw h at j.is)
    where
      by : (a b : Bool) → able && leb (length s) 65535 ≡ a → ltb (length out) (length (option w s)) ≡ b → ◌≡◌ {A = ℕ} 0 (cond (not a) 5 (cond b 2 0))
          → (able ≡ true) × (length s ≤ 65535) × (length (option w s) ≤ length out)
      by false b p r f = absurd (omega arith)
      by true true p r f = absurd (omega arith)
      by true false p r f = let a = both able (leb (length s) 65535) p in (a.0, leb-true (length s) 65535 a.1, ltb-false (length out) (length (option w s)) r)

  pub lone-written : {u : Unit {0}} {n : ℕ} {f : List ℕ} → q ≡ Ok u → Wrote 0 (option w s) n out f → ended n [] f ≡ written out (write able w s)
  lone-written h p =
      let a = lone-able h in
      rw (a.0, le-leb (length s) 65535 a.1, le-ltb (length out) (length (option w s)) a.2, (wrote-whole p).0, (wrote-whole p).1)
