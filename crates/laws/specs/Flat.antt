-- Soundness as a loop tests it: one flat test of the lent bytes, the same as `sound_bytes`.
--   good_row       a record, in its 153 bytes
--   row-sound     the same as a good record whose representation the bytes are
--   flat_sound     a table, in its bytes
use Rattle.std.specs.Prelude.{◌≡◌, refl, Bool, false, not, ◌&&◌, eqb, ltb, take, drop}
use Rattle.std.proofs.Math.Path.{sym, ap}
use Rattle.std.proofs.Common.{◌∙◌, mod-eq_of_lt, div-one, shl_lt, length-take, take-take, take_all}
use Rattle.std.proofs.Math.Bool.{true, and-true, and_assoc}
use mathlib.Core.List.{List, [], ◌∷◌, ◌++◌, map, append_assoc}
use Prim.Native.Nat.{ℕ, zero, suc, ◌+◌, ◌-◌, ◌*◌, ◌/◌, ◌%◌, ◌≤◌, ◌<◌, ◌^◌, min}
use native.Mathlib.Omega.{arith}
use Rattle.std.proofs.Math.Dec.{leb}
use Rattle.std.proofs.Math.Pow.{shl-shr}
use Rattle.std.proofs.Math.ListN.{length, replicate, length-append, length-drop}
use Rattle.std.proofs.lemmas.List.{length-map}
use borrow.Author.Tests.{eqb-true, eqb-false, eq-eqb, leb-true, le-leb, ltb-true, lt-ltb}
use Rattle.rules.specs.Words.{all, no_two, each, from, part, filled, same_bytes, be, num_at}
use Rattle.rules.specs.Prefix.{Prefix, prefix, zero_after, inside, same_prefix, last64, fits, except_for}
use Rattle.rules.specs.Clock.{for_ever, good_end}
use Rattle.rules.specs.Identity.{good_duid}
use Rattle.rules.specs.Settings.{Settings, good_settings}
use Rattle.rules.specs.Table.{may_stand, good_except, good_record, sound}
use Rattle.rules.specs.TableBytes.{table_size, place, flag, is_some, record_bytes, header_bytes, table_bytes, record_of, row_at, record_at, settings_of, count_of, table_of, sound_bytes}
use Rattle.laws.specs.Tests.{both, both-made}
use Rattle.laws.specs.Parts.{length_part, drop-part}
use Rattle.laws.specs.Loops.{from-length, all-at, all_made}
use Rattle.laws.specs.Rows.{Sized, no_more, one_more, each-length}
use Rattle.laws.specs.Numbers.{Bytes, bytes-part, num_at-fits, length-be}
use Rattle.laws.specs.Same.{same_bool, same-zeros, filled-length, same_number, same-filled, same-field, same_read}
use Rattle.laws.specs.Sound.{good-facts, sound-facts, sound-made, record-facts, record-made, same_refl}

-- ---------------------------------------------------------------- one byte

pub be-one : (x : ℕ) → x < 256 → be 1 x ≡ x ∷ []
unfolding be
be-one x h = ap (λ (k : ℕ). k % 256 ∷ []) (div-one x) ∙ ap (λ (k : ℕ). k ∷ []) (mod-eq_of_lt h)

pub same_byte : (x y : ℕ) → x < 256 → y < 256 → same_bytes (be 1 x) (be 1 y) ≡ eqb x y
same_byte x y h g = rw (be-one x h, be-one y g) (and-true (eqb x y))

-- ---------------------------------------------------------------- a record

-- the numbers of a record: upper half, length, excluded, end
abbrev pub good_numbers : Settings → ℕ → ℕ → ℕ → ℕ → Bool
good_numbers s u a x end =
    inside (prefix (u * 2 ^ 64) a) s.pool && leb s.shortest a && leb a 60 && zero_after (prefix (u * 2 ^ 64) a) && leb x (flag s.exclusion) && good_end end

-- n of the 130 bytes from `at` are a DUID, and zeros follow
abbrev pub duid_in : ℕ → ℕ → List ℕ → Bool
duid_in at n b = leb 3 n && leb n 130 && all (eqb 0) (part (at + n) (130 - n) b)

unfoldable pub good_row : Settings → List ℕ → Bool
good_row s e = duid_in 23 (num_at e 0 1) e && good_numbers s (num_at e 5 8) (num_at e 13 1) (num_at e 14 1) (num_at e 15 8)

-- ---------------------------------------------------------------- a DUID behind its length

module _ (b : List ℕ) (at n : ℕ) (h : at + 130 ≤ length b) where
  whole : length (part at 130 b) ≡ 130
  whole = length_part at 130 b h

  cut : n ≤ 130 → part at n b ≡ take n (part at 130 b)
  unfolding part
  cut l = sym (take-take n 130 (drop at b) l)

  -- the 130 bytes are the DUID with zeros after it
  pub duid-filled : n ≤ 130 → same_bytes (filled 130 (part at n b)) (part at 130 b) ≡ all (eqb 0) (part (at + n) (130 - n) b)
  duid-filled l = ap (λ d. same_bytes (filled 130 d) (part at 130 b)) (cut l) ∙ same-filled (part at 130 b) 130 n whole l ∙ ap (all (eqb 0)) (drop-part n 130 at b)

-- ---------------------------------------------------------------- the bytes of a record

min-is : (n : ℕ) → eqb (min n 130) n ≡ leb n 130
min-is n = same_bool (eqb (min n 130) n) (leb n 130) (λ h. le-leb n 130 (let z = eqb-true (min n 130) n h in omega arith))
    (λ h. eq-eqb (min n 130) n (let z = leb-true n 130 h in omega arith))

-- a flag that is read is written back where it is 0 or 1
flag-read : (x : ℕ) → x < 256 → eqb (flag (not (eqb x 0))) x ≡ leb x 1
flag-read x h = by (eqb x 0) refl
  where
    by : (b : Bool) → eqb x 0 ≡ b → eqb (flag (not b)) x ≡ leb x 1
    by true q = let z = eqb-true x 0 q in rw (eq-eqb 0 x (sym z), le-leb x 1 (omega arith))
    by false q = same_bool (eqb 1 x) (leb x 1) (λ h. le-leb x 1 (let z = eqb-true 1 x h in omega arith))
        (λ h. eq-eqb 1 x (let z = leb-true x 1 h in let w = eqb-false x 0 q in omega arith))

flag_small : (b : Bool) → flag b < 256
flag_small true = omega arith
flag_small false = omega arith

module _ (e : List ℕ) (y : Bytes e) (l : length e ≡ 153) where
  abbrev n : ℕ
  n = num_at e 0 1

  abbrev x : ℕ
  x = num_at e 14 1

  small : (at : ℕ) → num_at e at 1 < 256
  small at = num_at-fits e at 1

  -- the DUID's length, as it is read
  duid-length : length (part 23 n e) ≡ min n 130
  unfolding part
  duid-length = rw (length-take, length-drop, l)

  excluded : is_some (except_for (not (eqb x 0)) (prefix (num_at e 5 8 * 2 ^ 64) (num_at e 13 1))) ≡ not (eqb x 0)
  excluded = by (not (eqb x 0))
    where
      by : (b : Bool) → is_some (except_for b (prefix (num_at e 5 8 * 2 ^ 64) (num_at e 13 1))) ≡ b
      by true = refl
      by false = refl

  rest-same : same_bytes (filled 130 (part 23 n e)) (drop 23 e) ≡ same_bytes (filled 130 (part 23 n e)) (part 23 130 e)
  unfolding part
  rest-same = ap (same_bytes (filled 130 (part 23 n e))) (sym (take_all 130 (drop 23 e) (rw (length-drop, l) (omega arith))))

  -- the bytes are the representation of what they say: three fields can say it in another way
  pub row_same : same_bytes (record_bytes (record_of e)) e ≡ leb n 130 && (leb x 1 && same_bytes (filled 130 (part 23 n e)) (part 23 130 e))
  unfolding record_bytes record_of
  row_same =
      let d = part 23 n e in
      let u : num_at e 5 8 * 2 ^ 64 / 2 ^ 64 ≡ num_at e 5 8 = shl-shr (num_at e 5 8) 64 in
      let first : same_bytes (be 1 (length d)) (part 0 1 e) ≡ leb n 130 =
      ap (λ k. same_bytes (be 1 k) (part 0 1 e)) duid-length ∙ ap (same_bytes (be 1 (min n 130))) (sym (same_number e 0 1 y (omega arith)))
      ∙ same_byte (min n 130) n (omega (arith, small 0)) (small 0) ∙ min-is n in
      let fifth : same_bytes (be 1 (flag (is_some (except_for (not (eqb x 0)) (prefix (num_at e 5 8 * 2 ^ 64) (num_at e 13 1)))))) (part 14 1 e) ≡ leb x 1 =
      ap (λ b. same_bytes (be 1 (flag b)) (part 14 1 e)) excluded ∙ ap (same_bytes (be 1 (flag (not (eqb x 0))))) (sym (same_number e 14 1 y (omega arith)))
      ∙ same_byte (flag (not (eqb x 0))) x (flag_small (not (eqb x 0))) (small 14) ∙ flag-read x (small 14) in
      same-field (be 1 (length d)) _ e 0 1 (length-be 1 (length d)) (omega arith)
      ∙ ap (λ b. b && same_bytes (be 4 (num_at e 1 4) ++ (be 8 (num_at e 5 8 * 2 ^ 64 / 2 ^ 64) ++ (be 1 (num_at e 13 1)
      ++ (be 1 (flag (is_some (except_for (not (eqb x 0)) (prefix (num_at e 5 8 * 2 ^ 64) (num_at e 13 1))))) ++ (be 8 (num_at e 15 8) ++ filled 130 d))))) (drop 1 e)) first
      ∙ ap (λ b. leb n 130 && b)
      (same_read _ e 1 4 y (omega arith)
      ∙ ap (λ k. same_bytes (be 8 k ++ (be 1 (num_at e 13 1)
      ++ (be 1 (flag (is_some (except_for (not (eqb x 0)) (prefix (num_at e 5 8 * 2 ^ 64) (num_at e 13 1))))) ++ (be 8 (num_at e 15 8) ++ filled 130 d)))) (drop 5 e)) u
      ∙ same_read _ e 5 8 y (omega arith)
      ∙ same_read _ e 13 1 y (omega arith)
      ∙ same-field (be 1 (flag (is_some (except_for (not (eqb x 0)) (prefix (num_at e 5 8 * 2 ^ 64) (num_at e 13 1)))))) _ e 14 1 (length-be 1 _) (omega arith)
      ∙ ap (λ b. b && same_bytes (be 8 (num_at e 15 8) ++ filled 130 d) (drop 15 e)) fifth
      ∙ ap (λ b. leb x 1 && b) (same_read _ e 15 8 y (omega arith) ∙ rest-same))

duid-most : (e : List ℕ) (n : ℕ) → length e ≡ 153 → length (part 23 n e) ≤ 130
unfolding part
duid-most e n l = rw (length-take, length-drop, l) (omega arith)

-- a record of 153 bytes is written in 153
pub record-length : (e : List ℕ) → length e ≡ 153 → length (record_bytes (record_of e)) ≡ 153
unfolding record_bytes record_of
record-length e l =
    let d = part 23 (num_at e 0 1) e in
    let few : length d ≤ 130 = duid-most e (num_at e 0 1) l in
    rw (
      length-append,
      length-be,
      length-append,
      length-be,
      length-append,
      length-be,
      length-append,
      length-be,
      length-append,
      length-be,
      length-append,
      length-be,
      filled-length 130 d few,
    )

-- the flag of an excluded prefix, as soundness asks for it
module _ (s : Settings) (p : Prefix) (x : ℕ) where
  except→ : x ≤ 1 → good_except s p (except_for (not (eqb x 0)) p) ≡ true → leb x (flag s.exclusion) ≡ true
  except→ h g = by (eqb x 0) refl g
    where
      by : (b : Bool) → eqb x 0 ≡ b → good_except s p (except_for (not b) p) ≡ true → leb x (flag s.exclusion) ≡ true
      by true q g = let z = eqb-true x 0 q in le-leb x (flag s.exclusion) (omega arith)
      by false q g = let e = (both s.exclusion (same_prefix (last64 p) (last64 p)) g).0 in rw e (le-leb x 1 h)

  except← : leb x (flag s.exclusion) ≡ true → (x ≤ 1) × (good_except s p (except_for (not (eqb x 0)) p) ≡ true)
  except← h = on s.exclusion refl h
    where
      on : (b : Bool) → s.exclusion ≡ b → leb x (flag b) ≡ true → (x ≤ 1) × (good_except s p (except_for (not (eqb x 0)) p) ≡ true)
      on true q h = (leb-true x 1 h, by (not (eqb x 0)))
        where
          by : (c : Bool) → good_except s p (except_for c p) ≡ true
          by true = both-made q (same_refl (last64 p))
          by false = refl
      on false q h = let z : x ≡ 0 = (let w = leb-true x 0 h in omega arith) in (omega arith, rw z refl)

-- a record's bytes are good exactly where they represent a good record
module _ (s : Settings) (e : List ℕ) (y : Bytes e) (l : length e ≡ 153) where
  abbrev p : Prefix
  p = prefix (num_at e 5 8 * 2 ^ 64) (num_at e 13 1)

  row→ : good_record s (record_of e) && same_bytes (record_bytes (record_of e)) e ≡ true → good_row s e ≡ true
  unfolding good_row record_of
  row→ h =
      let a = both (good_record s (record_of e)) (same_bytes (record_bytes (record_of e)) e) h in
      let r = record-facts s (record_of e) a.0 in
      let b = both (leb (n e y l) 130) (leb (x e y l) 1 && same_bytes (filled 130 (part 23 (n e y l) e)) (part 23 130 e)) (sym (row_same e y l) ∙ a.1) in
      let c = both (leb (x e y l) 1) (same_bytes (filled 130 (part 23 (n e y l) e)) (part 23 130 e)) b.1 in
      let few = leb-true (n e y l) 130 b.0 in
      let d = both (good_duid (part 23 (n e y l) e)) (ltb (num_at e 1 4) (2 ^ 32)) r.identity in
      let f : 3 ≤ length (part 23 (n e y l) e) = leb-true 3 _ (both (leb 3 (length (part 23 (n e y l) e))) (leb (length (part 23 (n e y l) e)) 130) d.0).0 in
      both-made
      (both-made (both-made (le-leb 3 (n e y l) (omega (arith, duid-length e y l))) b.0) (sym (duid-filled e 23 (n e y l) (omega arith) few) ∙ c.1))
      (both-made (both-made (both-made (both-made (both-made r.in-pool (le-leb _ _ r.least)) (le-leb _ _ r.most)) r.aligned)
      (except→ s p (x e y l) (leb-true (x e y l) 1 c.0) r.except)) r.end)

  row← : good_row s e ≡ true → good_record s (record_of e) && same_bytes (record_bytes (record_of e)) e ≡ true
  unfolding good_row record_of
  row← h =
      let a = both (duid_in 23 (n e y l) e) (good_numbers s (num_at e 5 8) (num_at e 13 1) (x e y l) (num_at e 15 8)) h in
      let d = both (leb 3 (n e y l) && leb (n e y l) 130) (all (eqb 0) (part (23 + n e y l) (130 - n e y l) e)) a.0 in
      let f = both (leb 3 (n e y l)) (leb (n e y l) 130) d.0 in
      let few = leb-true (n e y l) 130 f.1 in
      let least = leb-true 3 (n e y l) f.0 in
      let g = both _ (good_end (num_at e 15 8)) a.1 in
      let i = both _ (leb (x e y l) (flag s.exclusion)) g.0 in
      let j = both _ (zero_after p) i.0 in
      let k = both _ (leb (num_at e 13 1) 60) j.0 in
      let m = both (inside p s.pool) (leb s.shortest (num_at e 13 1)) k.0 in
      let t = except← s p (x e y l) i.1 in
      let w : length (part 23 (n e y l) e) ≡ n e y l = duid-length e y l ∙ omega arith in
      let gd : good_duid (part 23 (n e y l) e) ≡ true = rw w d.0 in
      both-made
      (record-made s (record_of e) (record {
        identity = both-made gd (lt-ltb (num_at e 1 4) (2 ^ 32) (num_at-fits e 1 4));
        in-pool = m.0;
        least = leb-true _ _ m.1;
        most = leb-true _ _ k.1;
        aligned = j.1;
        except = t.1;
        end = g.1;
      }))
      (row_same e y l ∙ both-made f.1 (both-made (le-leb (x e y l) 1 t.0) (duid-filled e 23 (n e y l) (omega arith) few ∙ d.1)))

  pub row-sound : good_record s (record_of e) && same_bytes (record_bytes (record_of e)) e ≡ good_row s e
  row-sound = same_bool _ (good_row s e) row→ row←

-- ---------------------------------------------------------------- the header

-- the header's numbers, its own DUID, and its spare bytes
unfoldable pub good_header : List ℕ → Bool
good_header b =
    leb 32 (num_at b 18 1) && leb (num_at b 18 1) 56 && zero_after (prefix (num_at b 10 8 * 2 ^ 64) (num_at b 18 1))
    && leb (num_at b 18 1) (num_at b 19 1) && leb (num_at b 19 1) (num_at b 20 1) && leb (num_at b 20 1) 60
    && leb 120 (num_at b 22 4) && leb (num_at b 22 4) (num_at b 26 4) && leb (num_at b 21 1) 1
    && duid_in 31 (num_at b 30 1) b && all (eqb 0) (part 161 15 b)

unfoldable pub flat_sound : List ℕ → Bool
flat_sound b =
    leb (count_of b) 256
    && good_header b
    && all (good_row (settings_of b)) (from (row_at b) 0 (count_of b))
    && no_two may_stand (from (record_at b) 0 (count_of b))
    && all (eqb 0) (part (place (count_of b)) (table_size - place (count_of b)) b)
    && ltb (num_at b 0 8) (2 ^ 48)

module _ (b : List ℕ) (y : Bytes b) (l : length b ≡ table_size) where
  abbrev own : ℕ
  own = num_at b 30 1

  abbrev count : ℕ
  count = count_of b

  byte : (at : ℕ) → num_at b at 1 < 256
  byte at = num_at-fits b at 1

  own-length : own ≤ 130 → length (part 31 own b) ≡ own
  own-length few = length_part 31 own b (omega arith)

  -- the header's fields, one after another
  header-fields : own ≤ 130 → (z : List ℕ) → header_bytes (table_of b) ++ z
      ≡ be 8 (num_at b 0 8) ++ (be 2 count ++ (be 8 (num_at b 10 8) ++ (be 1 (num_at b 18 1) ++ (be 1 (num_at b 19 1) ++ (be 1 (num_at b 20 1)
      ++ (be 1 (flag (not (eqb (num_at b 21 1) 0))) ++ (be 4 (num_at b 22 4) ++ (be 4 (num_at b 26 4) ++ (be 1 own
      ++ (filled 130 (part 31 own b) ++ (replicate 15 0 ++ z)))))))))))
  unfolding header_bytes table_of settings_of
  header-fields few z = rw (from-length (record_at b) count 0, shl-shr (num_at b 10 8) 64, own-length few) (simp append_assoc)

  -- the header is the representation of what it says
  header-same : own ≤ 130 → (z : List ℕ) → same_bytes (header_bytes (table_of b) ++ z) b
      ≡ leb (num_at b 21 1) 1 && (all (eqb 0) (part (31 + own) (130 - own) b) && (all (eqb 0) (part 161 15 b) && same_bytes z (drop 176 b)))
  header-same few z =
      let fl = flag (not (eqb (num_at b 21 1) 0)) in
      let flags : same_bytes (be 1 fl) (part 21 1 b) ≡ leb (num_at b 21 1) 1 =
      ap (same_bytes (be 1 fl)) (sym (same_number b 21 1 y (omega arith))) ∙ same_byte fl (num_at b 21 1) (flag_small (not (eqb (num_at b 21 1) 0))) (byte 21)
      ∙ flag-read (num_at b 21 1) (byte 21) in
      let after = be 4 (num_at b 22 4) ++ (be 4 (num_at b 26 4) ++ (be 1 own ++ (filled 130 (part 31 own b) ++ (replicate 15 0 ++ z)))) in
      let duid = filled-length 130 (part 31 own b) (rw (own-length few) few) in
      ap (λ h. same_bytes h b) (header-fields few z)
      ∙ same_read _ b 0 8 y (omega arith) ∙ same_read _ b 8 2 y (omega arith) ∙ same_read _ b 10 8 y (omega arith) ∙ same_read _ b 18 1 y (omega arith)
      ∙ same_read _ b 19 1 y (omega arith) ∙ same_read _ b 20 1 y (omega arith)
      ∙ same-field (be 1 fl) after b 21 1 (length-be 1 fl) (omega arith)
      ∙ ap (λ c. c && same_bytes after (drop 22 b)) flags
      ∙ ap (λ c. leb (num_at b 21 1) 1 && c)
      (same_read _ b 22 4 y (omega arith) ∙ same_read _ b 26 4 y (omega arith) ∙ same_read _ b 30 1 y (omega arith)
      ∙ same-field (filled 130 (part 31 own b)) (replicate 15 0 ++ z) b 31 130 duid (omega arith)
      ∙ ap (λ c. c && same_bytes (replicate 15 0 ++ z) (drop 161 b)) (duid-filled b 31 own (omega arith) few)
      ∙ ap (λ c. all (eqb 0) (part (31 + own) (130 - own) b) && c)
      (same-field (replicate 15 0) z b 161 15 refl (omega arith)
      ∙ ap (λ c. c && same_bytes z (drop 176 b)) (same-zeros 15 (part 161 15 b) (length_part 161 15 b (omega arith)))))

  -- the records, one after another, and what follows them
  rows_same_lem : (k i : ℕ) → i + k ≤ 256 → (z : List ℕ) → same_bytes (each (map record_bytes (from (record_at b) i k)) ++ z) (drop (place i) b)
      ≡ all (λ e. same_bytes (record_bytes (record_of e)) e) (from (row_at b) i k) && same_bytes z (drop (place (i + k)) b)
  rows_same_lem zero i h z = let e : i + 0 ≡ i = omega arith in rw e
  rows_same_lem (suc k) i h z =
      let r = record_bytes (record_at b i) in
      let w = row_at b i in
      let lr : length r ≡ 153 = record-length w (length_part (place i) 153 b (omega arith)) in
      let p : place i + 153 ≡ place (i + 1) = omega arith in
      let q : i + suc k ≡ i + 1 + k = omega arith in
      ap (λ h. same_bytes h (drop (place i) b)) (append_assoc r (each (map record_bytes (from (record_at b) (i + 1) k))) z)
      ∙ same-field r (each (map record_bytes (from (record_at b) (i + 1) k)) ++ z) b (place i) 153 lr (omega arith)
      ∙ ap (λ d. same_bytes r w && same_bytes (each (map record_bytes (from (record_at b) (i + 1) k)) ++ z) (drop d b)) p
      ∙ ap (λ c. same_bytes r w && c) (rows_same_lem k (i + 1) (omega arith) z)
      ∙ sym (and_assoc (same_bytes r w) _ _)
      ∙ ap (λ d. same_bytes r w && all (λ e. same_bytes (record_bytes (record_of e)) e) (from (row_at b) (i + 1) k) && same_bytes z (drop (place d) b)) (sym q)

  -- the whole array is the representation of what it says
  abbrev rows_same : Bool
  rows_same = all (λ e. same_bytes (record_bytes (record_of e)) e) (from (row_at b) 0 count)

  abbrev room : Bool
  room = all (eqb 0) (part (place count) (table_size - place count) b)

  header-length : own ≤ 130 → length (header_bytes (table_of b)) ≡ 176
  unfolding header_bytes table_of settings_of
  header-length few =
      let d : length (filled 130 (part 31 own b)) ≡ 130 = filled-length 130 (part 31 own b) (rw (own-length few) few) in
      rw (
        length-append,
        length-be,
        length-append,
        length-be,
        length-append,
        length-be,
        length-append,
        length-be,
        length-append,
        length-be,
        length-append,
        length-be,
        length-append,
        length-be,
        length-append,
        length-be,
        length-append,
        length-be,
        length-append,
        length-be,
        length-append,
        d,
      )

  sized-records : (k i : ℕ) → i + k ≤ 256 → Sized (map record_bytes (from (record_at b) i k))
  sized-records zero i h = no_more
  sized-records (suc k) i h = one_more (record-length (row_at b i) (length_part (place i) 153 b (omega arith))) (sized-records k (i + 1) (omega arith))

  written : own ≤ 130 → count ≤ 256 → length (header_bytes (table_of b) ++ each (map record_bytes (from (record_at b) 0 count))) ≡ place count
  written few most =
      let h = header-length few in
      let e = each-length (sized-records count 0 (omega arith)) in
      let k : length (map record_bytes (from (record_at b) 0 count)) ≡ count = length-map (from (record_at b) 0 count) record_bytes ∙ from-length (record_at b) count 0 in
      rw (length-append, h, e, k)

  rest_part : (p : ℕ) → p ≤ table_size → drop p b ≡ part p (table_size - p) b
  unfolding part
  rest_part p h = sym (take_all (table_size - p) (drop p b) (rw (length-drop, l) (omega arith)))

  table_same : own ≤ 130 → count ≤ 256 → same_bytes (table_bytes (table_of b)) b
      ≡ leb (num_at b 21 1) 1 && (all (eqb 0) (part (31 + own) (130 - own) b) && (all (eqb 0) (part 161 15 b) && (rows_same && room)))
  unfolding table_bytes filled table_of
  table_same few most =
      let H = header_bytes (table_of b) in
      let R = each (map record_bytes (from (record_at b) 0 count)) in
      let Z : List ℕ = replicate (table_size - place count) 0 in
      let c : 0 + count ≡ count = omega arith in
      let zeros : same_bytes Z (drop (place count) b) ≡ room =
      ap (same_bytes Z) (rest_part (place count) (omega arith)) ∙ same-zeros (table_size - place count) _ (length_part (place count) (table_size - place count) b (omega arith)) in
      ap (λ k. same_bytes ((H ++ R) ++ replicate (table_size - k) 0) b) (written few most)
      ∙ ap (λ x. same_bytes x b) (append_assoc H R Z)
      ∙ header-same few (R ++ Z)
      ∙ ap (λ x. leb (num_at b 21 1) 1 && (all (eqb 0) (part (31 + own) (130 - own) b) && (all (eqb 0) (part 161 15 b) && x)))
      (rows_same_lem count 0 (omega arith) Z ∙ ap (λ k. rows_same && same_bytes Z (drop (place k) b)) c ∙ ap (λ x. rows_same && x) zeros)

  -- each record by itself
  row-at : (j : ℕ) → j < 256 → good_record (settings_of b) (record_at b j) && same_bytes (record_bytes (record_at b j)) (row_at b j) ≡ good_row (settings_of b) (row_at b j)
  row-at j h = row-sound (settings_of b) (row_at b j) (bytes-part (place j) 153 b y) (length_part (place j) 153 b (omega arith))

  rows→ : count ≤ 256 → all (good_record (settings_of b)) (from (record_at b) 0 count) ≡ true → rows_same ≡ true → all (good_row (settings_of b)) (from (row_at b) 0 count) ≡ true
  rows→ most g r = all_made (row_at b) (good_row (settings_of b)) count 0 (λ j p q. sym (row-at j (omega arith))
      ∙ both-made (all-at (record_at b) (good_record (settings_of b)) count 0 j p q g) (all-at (row_at b) (λ e. same_bytes (record_bytes (record_of e)) e) count 0 j p q r))

  rows← : count ≤ 256 → all (good_row (settings_of b)) (from (row_at b) 0 count) ≡ true
      → (all (good_record (settings_of b)) (from (record_at b) 0 count) ≡ true) × (rows_same ≡ true)
  rows← most g =
      let at : (j : ℕ) → 0 ≤ j → j < 0 + count → good_record (settings_of b) (record_at b j) && same_bytes (record_bytes (record_at b j)) (row_at b j) ≡ true =
      λ j p q. row-at j (omega arith) ∙ all-at (row_at b) (good_row (settings_of b)) count 0 j p q g in (
        all_made (record_at b) (good_record (settings_of b)) count 0 (λ j p q. (both _ _ (at j p q)).0),
        all_made (row_at b) (λ e. same_bytes (record_bytes (record_of e)) e) count 0 (λ j p q. (both (good_record (settings_of b) (record_at b j)) _ (at j p q)).1),
      )

  -- the settings and the header's other bytes
  header→ : good_settings (settings_of b) ≡ true → own ≤ 130 → leb (num_at b 21 1) 1 ≡ true → all (eqb 0) (part (31 + own) (130 - own) b) ≡ true
      → all (eqb 0) (part 161 15 b) ≡ true → good_header b ≡ true
  unfolding good_header settings_of
  header→ g few fl du sp =
      let f = good-facts (settings_of b) g in
      let d : 3 ≤ length (part 31 own b) = leb-true 3 _ (both (leb 3 (length (part 31 own b))) (leb (length (part 31 own b)) 130) f.own).0 in
      let n : 3 ≤ own = rw (own-length few) at d in
      both-made (both-made (both-made (both-made (both-made (both-made (both-made (both-made (both-made (both-made
      (le-leb _ _ f.least-32) (le-leb _ _ f.most-56)) f.lengths.aligned) (le-leb _ _ f.lengths.pool-shortest)) (le-leb _ _ f.lengths.shortest-standard))
      (le-leb _ _ f.lengths.standard-60)) (le-leb _ _ f.preferred-120)) (le-leb _ _ f.preferred-valid)) fl)
      (both-made (both-made (le-leb 3 own n) (le-leb own 130 few)) du)) sp

  pub record Header : Type 0 where
    pub settings : good_settings (settings_of b) ≡ true
    pub few : own ≤ 130
    pub flags : leb (num_at b 21 1) 1 ≡ true
    pub duid : all (eqb 0) (part (31 + own) (130 - own) b) ≡ true
    pub spare : all (eqb 0) (part 161 15 b) ≡ true

  header← : good_header b ≡ true → Header
  unfolding good_header settings_of good_settings
  header← h =
      let a = both _ (all (eqb 0) (part 161 15 b)) h in
      let c = both _ (duid_in 31 own b) a.0 in
      let d = both _ (leb (num_at b 21 1) 1) c.0 in
      let e = both _ (leb (num_at b 22 4) (num_at b 26 4)) d.0 in
      let f = both _ (leb 120 (num_at b 22 4)) e.0 in
      let g = both _ (leb (num_at b 20 1) 60) f.0 in
      let i = both _ (leb (num_at b 19 1) (num_at b 20 1)) g.0 in
      let j = both _ (leb (num_at b 18 1) (num_at b 19 1)) i.0 in
      let k = both _ (zero_after (prefix (num_at b 10 8 * 2 ^ 64) (num_at b 18 1))) j.0 in
      let m = both (leb 32 (num_at b 18 1)) (leb (num_at b 18 1) 56) k.0 in
      let o = both (leb 3 own && leb own 130) (all (eqb 0) (part (31 + own) (130 - own) b)) c.1 in
      let q = both (leb 3 own) (leb own 130) o.0 in
      let few = leb-true own 130 q.1 in
      let most = leb-true (num_at b 18 1) 56 m.1 in
      let du : good_duid (part 31 own b) ≡ true = rw (own-length few) o.0 in
      let fi : fits (prefix (num_at b 10 8 * 2 ^ 64) (num_at b 18 1)) ≡ true =
      both-made (le-leb (num_at b 18 1) 128 (omega arith)) (lt-ltb (num_at b 10 8 * 2 ^ 64) (2 ^ 128) (shl_lt 64 64 (num_at-fits b 10 8))) in
      record {
        settings = both-made (both-made (both-made (both-made (both-made (both-made (both-made (both-made (both-made (both-made
            m.0 m.1) fi) k.1) j.1) i.1) g.1) f.1) e.1) (le-leb (num_at b 26 4) for_ever (omega (arith, num_at-fits b 26 4)))) du;
        few = few;
        flags = d.1;
        duid = o.1;
        spare = a.1;
      }

  table→ : sound_bytes b ≡ true → flat_sound b ≡ true
  unfolding sound_bytes flat_sound table_of settings_of
  table→ h =
      let a = both (sound (table_of b)) (same_bytes (table_bytes (table_of b)) b) h in
      let s = sound-facts (table_of b) a.0 in
      let most : count ≤ 256 = rw (from-length (record_at b) count 0) at s.few in
      let f = good-facts (settings_of b) s.settings in
      let n : length (part 31 own b) ≤ 130 = leb-true _ 130 (both (leb 3 (length (part 31 own b))) (leb (length (part 31 own b)) 130) f.own).1 in
      let few : own ≤ 130 = rw (length_part 31 own b (omega (arith, byte 30))) at n in
      let t = both (leb (num_at b 21 1) 1) _ (sym (table_same few most) ∙ a.1) in
      let u = both (all (eqb 0) (part (31 + own) (130 - own) b)) _ t.1 in
      let v = both (all (eqb 0) (part 161 15 b)) (rows_same && room) u.1 in
      let w = both rows_same room v.1 in
      both-made (both-made (both-made (both-made (both-made (le-leb count 256 most) (header→ s.settings few t.0 u.0 v.0)) (rows→ most s.good w.0))
      s.together) w.1) (lt-ltb (num_at b 0 8) (2 ^ 48) s.time)

  table← : flat_sound b ≡ true → sound_bytes b ≡ true
  unfolding sound_bytes flat_sound table_of
  table← h =
      let a = both _ (ltb (num_at b 0 8) (2 ^ 48)) h in
      let c = both _ room a.0 in
      let d = both _ (no_two may_stand (from (record_at b) 0 count)) c.0 in
      let e = both _ (all (good_row (settings_of b)) (from (row_at b) 0 count)) d.0 in
      let f = both (leb count 256) (good_header b) e.0 in
      let most = leb-true count 256 f.0 in
      let g = header← f.1 in
      let r = rows← most e.1 in
      both-made
      (sound-made (table_of b) (record {
        settings = g.settings;
        few = rw (from-length (record_at b) count 0) most;
        good = r.0;
        together = d.1;
        time = ltb-true (num_at b 0 8) (2 ^ 48) a.1;
      }))
      (table_same g.few most ∙ both-made g.flags (both-made g.duid (both-made g.spare (both-made r.1 c.1))))

  pub flat_sound_lem : sound_bytes b ≡ flat_sound b
  flat_sound_lem = same_bool (sound_bytes b) (flat_sound b) table→ table←
