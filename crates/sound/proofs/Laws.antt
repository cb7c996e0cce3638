-- Soundness as the code asks for it: what each return of a function says of the definition.
--   setup-read, header_read                         the settings as numbers, and what is asked of them
--   row-agrees, numbers-read                        what they ask of a record
--   duid-..                                         a DUID behind its length
--   two-stop, two-rest, keys-told                   the two tests of every two records; a first look at their keys
--   sound-size                                      a sound table has one size
--   other-size, too_many, bad-rows, sound-read      the whole table
use mathlib.Core.Path.{◌≡◌, sym, ap, ◌∙◌}
use mathlib.Core.Bool.{Bool, true, false, not, ◌&&◌, and-true, and-false}
use mathlib.Core.List.{List, []}
use Prim.Native.Nat.{ℕ, ◌+◌, ◌-◌, ◌≤◌, ◌<◌, ◌^◌}
use native.Mathlib.Nat.{add-sub_cancel_left}
use lib.Dec.{eqb, leb, ltb}
use lib.ListN.{length, take, drop}
use borrow.Author.Tests.{le-leb, lt-leb}
use Rattle.rules.specs.Words.{all, no_two, from, part, splice, num_at}
use Rattle.rules.specs.Prefix.{zero_after, inside}
use Rattle.rules.specs.Clock.{good_end}
use Rattle.rules.specs.Table.{may_stand}
use Rattle.rules.specs.TableBytes.{table_size, place, flag, row_at, record_at, settings_of, count_of, table_of, sound_bytes}
use Rattle.laws.specs.Tests.{false-true}
use Rattle.laws.specs.Numbers.{Bytes}
use Rattle.laws.specs.Same.{same_bool}
use Rattle.laws.specs.Represent.{sound-bytes, table-length}
use Rattle.laws.specs.Flat.{duid_in, good_numbers, good_row, good_header, flat_sound, flat_sound_lem}
use Rattle.prefix.specs.Upper.{upper, half_of}
use Rattle.prefix.specs.declared.half.Half.{Half}
use Rattle.distinct.specs.Distinct.{Distinct}
use Rattle.ranks.specs.Rank.{key_at, NoneShorter, clear}
use Rattle.ranks.specs.Clear.{two-tests, keys-tell}
use Rattle.sound.specs.Setup.{setup_of, Agrees}
use Rattle.sound.specs.declared.Setup.{Setup}

-- ---------------------------------------------------------------- the settings

module _ (b : List ℕ) where
  pub setup-read : {p w h d x q v : ℕ} → p ≡ num_at b 10 8 → w ≡ num_at b 18 1 → h ≡ num_at b 19 1 → d ≡ num_at b 20 1 → x ≡ num_at b 21 1 → q ≡ num_at b 22 4 → v ≡ num_at b 26 4
      → Agrees (record { pool = record { upper = p; length = w }; shortest = h; standard = d; preferred = q; valid = v; exclusion = not (eqb x 0) }) b
  unfolding settings_of
  setup-read p w h d x q v = λ j. record {
    pool = upper (p j) (w j);
    shortest = h j;
    standard = d j;
    preferred = q j;
    valid = v j;
    exclusion = not (eqb (x j) 0);
    own = (settings_of b).own;
  }

module _ (s : Setup) (b : List ℕ) (a : Agrees s b) where
  pub header_read : good_header b
      ≡ leb 32 s.pool.length && leb s.pool.length 56 && zero_after (half_of s.pool) && leb s.pool.length s.shortest && leb s.shortest s.standard
      && leb s.standard 60 && leb 120 s.preferred && leb s.preferred s.valid && leb (num_at b 21 1) 1
      && duid_in 31 (num_at b 30 1) b && all (eqb 0) (part 161 15 b)
  unfolding good_header settings_of
  header_read =
      rw (ap (λ k. k.pool.bits) a, ap (λ k. k.pool.length) a, ap (λ k. k.shortest) a, ap (λ k. k.standard) a, ap (λ k. k.preferred) a, ap (λ k. k.valid) a)

  -- a record's goodness does not ask for the box's own DUID
  pub row-agrees : (e : List ℕ) → good_row (settings_of b) e ≡ good_row (setup_of s []) e
  unfolding good_row
  row-agrees e = ap (λ k. good_row k e) (sym a)

pub numbers-read : (s : Setup) (p : Half) (x end : ℕ) {i z : Bool} {f : ℕ} → i ≡ inside (half_of p) (half_of s.pool) → z ≡ zero_after (half_of p) → f ≡ flag s.exclusion
    → i && leb s.shortest p.length && leb p.length 60 && z && leb x f && good_end end ≡ good_numbers (setup_of s []) p.upper p.length x end
numbers-read s p x end i z f = rw (i, z, f)

-- ---------------------------------------------------------------- a DUID

module _ (at n : ℕ) (b : List ℕ) where
  pub duid-short : n < 3 → false ≡ duid_in at n b
  duid-short h = rw (lt-leb 3 n h)

  pub duid-long : 3 ≤ n → 130 < n → false ≡ duid_in at n b
  duid-long h g = rw (le-leb 3 n h, lt-leb n 130 g)

  pub duid-between : {r : Bool} → 3 ≤ n → n ≤ 130 → r ≡ all (eqb 0) (part (at + n) (130 - n) b) → r ≡ duid_in at n b
  duid-between h g e = rw (le-leb 3 n h, le-leb n 130 g) e

-- ---------------------------------------------------------------- records beside each other

module _ (t : List ℕ) (n : ℕ) {a : Bool} (areas : a ≡ no_two (clear true) (from (record_at t) 0 n)) where
  pub two-stop : a ≡ false → false ≡ no_two may_stand (from (record_at t) 0 n)
  two-stop h = sym (two-tests (from (record_at t) 0 n) ∙ rw (sym areas ∙ h))

  pub two-rest : {b : Bool} → a ≡ true → b ≡ no_two (clear false) (from (record_at t) 0 n) → b ≡ no_two may_stand (from (record_at t) 0 n)
  two-rest h e = e ∙ sym (two-tests (from (record_at t) 0 n) ∙ rw (sym areas ∙ h))

-- keys of which no two are the same tell it
pub keys-told : (t keys l : List ℕ) (n m : ℕ) (by : Bool) → all (good_row (settings_of t)) (from (row_at t) 0 n) ≡ true → Bytes t → table_size ≤ length t → n ≤ 256
    → m ≤ 64 → NoneShorter t n m → keys ≡ splice 0 (from (key_at by m t) 0 n) l → Distinct keys n → true ≡ no_two (clear by) (from (record_at t) 0 n)
keys-told t keys l n m by good bytes room few long none e d = sym (keys-tell (settings_of t) t keys n good by l bytes room few m long none e d)

-- ---------------------------------------------------------------- the table

module _ (b : List ℕ) where
  pub sound-size : sound_bytes b ≡ true → length b ≡ table_size
  sound-size h = let p = sound-bytes b h in sym (ap length p.1) ∙ table-length (table_of b) p.0

  pub other-size : (length b ≡ table_size → ⊥) → false ≡ sound_bytes b
  other-size h = same_bool false (sound_bytes b) (λ e. absurd (false-true e)) (λ e. absurd (h (sound-size e)))

  module _ (y : Bytes b) (n : ℕ) (e : n ≡ count_of b) (s : length b ≡ table_size) where
    pub too_many : 256 < n → false ≡ sound_bytes b
    unfolding flat_sound
    too_many h = sym (flat_sound_lem b y s ∙ rw (← e, lt-leb n 256 h))

    -- the first n records, good or not
    module _ (few : n ≤ 256) {g : Bool} (rows : g ≡ all (good_row (settings_of b)) (from (row_at b) 0 n)) where
      pub bad-rows : g ≡ false → false ≡ sound_bytes b
      unfolding flat_sound
      bad-rows h = let r = sym rows ∙ h in sym (flat_sound_lem b y s ∙ rw (← e, le-leb n 256 few, r, and-false (good_header b)))

      pub sound-read : {h w z : Bool} {l : ℕ} → g ≡ true → h ≡ good_header b → w ≡ no_two may_stand (from (record_at b) 0 n)
          → z ≡ all (eqb 0) (part (place n) (table_size - place n) b) → l ≡ num_at b 0 8 → h && w && z && ltb l (2 ^ 48) ≡ sound_bytes b
      unfolding flat_sound
      sound-read k h w z l =
          let r = sym rows ∙ k in
          rw (h, w, z, l) (sym (flat_sound_lem b y s ∙ rw (← e, le-leb n 256 few, r, and-true (good_header b))))

-- ---------------------------------------------------------------- the box's own DUID

pub own_read : (b : List ℕ) {n : ℕ} → n ≡ num_at b 30 1 → take (31 + n - 31) (drop 31 b) ≡ (settings_of b).own
unfolding settings_of part
own_read b {n} e = rw (add-sub_cancel_left, e)
