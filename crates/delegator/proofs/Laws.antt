-- The operations that are no message: what a start tests and leaves, and what is shown.
use mathlib.Core.Path.{◌≡◌, refl, sym, ap, ◌∙◌}
use mathlib.Core.Bool.{Bool, true, false, not, ◌&&◌}
use mathlib.Core.List.{List, [], ◌∷◌, map}
use Rattle.std.specs.Prelude.{Option, None, Some, slice_get}
use Prim.Native.Nat.{ℕ, zero, suc, ◌+◌, ◌-◌, ◌*◌, ◌^◌, ◌≤◌, ◌<◌}
use native.Mathlib.Omega.{arith}
use borrow.Author.Tests.{eqb-true, not-false, leb-true, le-leb, lt-leb, lt-ltb, le-ltb}
use lib.Arith.{digits_lt}
use lib.Dec.{eqb, leb, ltb}
use native.Mathlib.Nat.{zero-add}
use lib.ListN.{length, take, drop}
use lib.Pow.{high, low}
use Rattle.rules.specs.Words.{keep, from, splice, part}
use Rattle.rules.specs.Refusals.{Res, unless, done, bad_time}
use Rattle.rules.specs.Prefix.{prefix, zero_after, fits}
use Rattle.rules.specs.Clock.{for_ever}
use Rattle.rules.specs.Settings.{Settings, good_settings}
use Rattle.rules.specs.Table.{Record, live, sound}
use Rattle.rules.specs.TableBytes.{record_size, place, record_bytes, table_bytes, row_at, record_at, count_of, table_of, sound_bytes}
use Rattle.rules.specs.Box.{box_start, box_live}
use Rattle.rules.specs.Lent.{ended, asked, counted, record_text, box_started, box_counted, box_shown}
use Rattle.laws.specs.Tests.{both, both-made}
use Rattle.laws.specs.Every.{Every}
use Rattle.laws.specs.Refusals.{none-applies, number-refused, unless-made, nine-once}
use Rattle.laws.specs.Parts.{length_part}
use Rattle.laws.specs.Halves.{zero-both}
use Rattle.laws.specs.Represent.{table-rows}
use Rattle.laws.specs.Change.{Held, held}
use Rattle.laws.specs.Sound.{Good, good-facts, sound-made}
use Rattle.judge.specs.Judged.{table_tests, by_table}
use Rattle.leases.specs.Values.{settings_for}
use Rattle.delegator.specs.Given.{given}

-- ---------------------------------------------------------------- settings

and-swap : (a b : Bool) → a && b ≡ b && a
and-swap true true = refl
and-swap true false = refl
and-swap false true = refl
and-swap false false = refl

and-past : (a b c d : Bool) → b ≡ true → a && c && d ≡ a && b && (c && d)
and-past true b c d e = rw e
and-past false b c d e = refl

module _ (h l w s d p v : ℕ) (x : Bool) (own : List ℕ) (fh : h < 2 ^ 64) (fl : l < 2 ^ 64) (fv : v < 2 ^ 32) where
  abbrev bits : ℕ
  bits = h * 2 ^ 64 + l

  pool-read : leb 32 w && leb w 56 && eqb l 0 && zero_after (prefix (h * 2 ^ 64) w) ≡ leb 32 w && leb w 56 && fits (prefix bits w) && zero_after (prefix bits w)
  pool-read = by (leb 32 w && leb w 56) refl
    where
      short : leb 32 w && leb w 56 ≡ true → w ≤ 56
      short q = leb-true w 56 (both (leb 32 w) (leb w 56) q).1

      fit : w ≤ 56 → fits (prefix bits w) ≡ true
      fit q = rw (le-leb w 128 (omega arith), lt-ltb bits (2 ^ 128) (digits_lt fh fl))

      by : (b : Bool) → leb 32 w && leb w 56 ≡ b → b && eqb l 0 && zero_after (prefix (h * 2 ^ 64) w) ≡ b && fits (prefix bits w) && zero_after (prefix bits w)
      by false q = refl
      by true q =
          let z = zero-both bits w l (sym (low h 64 fl)) h (omega (arith, short q)) (sym (high h 64 fl)) in
          rw (fit (short q)) (and-swap (eqb l 0) (zero_after (prefix (h * 2 ^ 64) w)) ∙ z)

  pub settings-read : {z : Bool} → z ≡ zero_after (prefix (h * 2 ^ 64) w)
      → leb 32 w && leb w 56 && eqb l 0 && z && leb w s && leb s d && leb d 60 && leb 120 p && leb p v && leb 3 (length own) && leb (length own) 130
      ≡ good_settings (given h l w s d p v x own)
  unfolding good_settings
  settings-read e =
      rw (e, pool-read)
      (and-past (leb 32 w && leb w 56 && fits (prefix bits w) && zero_after (prefix bits w) && leb w s && leb s d && leb d 60 && leb 120 p && leb p v) (leb v for_ever)
      (leb 3 (length own)) (leb (length own) 130) (le-leb v for_ever (omega arith)))

  -- good settings have a pool without lower bits
  pub pool-upper : good_settings (given h l w s d p v x own) ≡ true → settings_for h w s d x p v own ≡ given h l w s d p v x own
  unfolding good_settings
  pool-upper g =
      let t = good-facts (given h l w s d p v x own) g in
      let a = both (leb 32 w && leb w 56 && eqb l 0) (zero_after (prefix (h * 2 ^ 64) w)) (pool-read ∙ pool-good t) in
      let z : l ≡ 0 = eqb-true l 0 (both (leb 32 w && leb w 56) (eqb l 0) a.0).1 in
      let m : h * 2 ^ 64 ≡ bits = omega arith in
      ap (λ n. record { pool = prefix n w; shortest = s; standard = d; preferred = p; valid = v; exclusion = x; own = own }) m
    where
      pool-good : Good (given h l w s d p v x own) → leb 32 w && leb w 56 && fits (prefix bits w) && zero_after (prefix bits w) ≡ true
      pool-good t =
          both-made
          (both-made
          (both-made (le-leb 32 w t.least-32) (le-leb w 56 t.most-56))
          t.pool-fits)
          t.lengths.aligned

-- ---------------------------------------------------------------- start

pub own-few : {x : Bool} (s : Settings) → x ≡ good_settings s → not x ≡ false → length s.own ≤ 130
own-few s e h =
    let g = good-facts s (sym e ∙ not-false _ h) in
    leb-true (length s.own) 130 (both (leb 3 (length s.own)) (leb (length s.own) 130) g.own).1

module _ (b : List ℕ) (s : Settings) (now : ℕ) {x : Bool} (e : x ≡ good_settings s) where
  pub start-10 : not x ≡ true → ended 655360 b [] ≡ box_started b s now
  unfolding box_started box_start
  start-10 h = rw (← e, h)

  pub start-1 : not x ≡ false → 2 ^ 48 ≤ now → ended 65536 b [] ≡ box_started b s now
  unfolding box_started box_start
  start-1 h g = rw (← e, h, le-ltb now 0 (omega arith), le-leb (2 ^ 48) now g)

  pub start-0 : not x ≡ false → now < 2 ^ 48 → {q : Settings} → q ≡ s → {c : List ℕ} → c ≡ table_bytes (record { settings = q; last = now; records = [] })
      → ended 0 c [] ≡ box_started b s now
  unfolding box_started box_start splice
  start-0 h g w q =
      rw (← e, h, le-ltb now 0 (omega arith), lt-leb (2 ^ 48) now g)
      (ap (λ c. ended 0 c []) (q ∙ ap (λ u. table_bytes (record { settings = u; last = now; records = [] })) w))

-- ---------------------------------------------------------------- what is shown

pub table-once : {A : Type 0} (b : List ℕ) (ts : List (ℕ × Bool)) (x : Res A)
    → unless ((9, not (sound_bytes b)) ∷ []) (unless ((9, not (sound (table_of b))) ∷ ts) x) ≡ unless ((9, not (sound_bytes b)) ∷ ts) x
table-once b ts x = nine-once (sound_bytes b) (sound (table_of b)) (λ h. sound-made (table_of b) (held b h).sound) ts x

module _ (b : List ℕ) (now : ℕ) {n : ℕ} (e : n ≡ by_table b now) where
  abbrev number-live : Res ℕ
  number-live = done (length (keep (live now) (table_of b).records))

  counted_is : box_counted b now ≡ counted (unless (table_tests b now) number-live)
  unfolding box_counted box_live
  counted_is = ap counted (table-once b ((1, bad_time (table_of b).last now) ∷ []) number-live)

  pub live-refused : (n ≡ 0 → ⊥) → n * 65536 ≡ box_counted b now
  unfolding by_table
  live-refused h = sym (counted_is ∙ ap counted (number-refused (table_tests b now) number-live e h))

  module _ (z : n ≡ 0) where
    passed : Every (λ r. r.1 ≡ false) (table_tests b now)
    unfolding by_table
    passed = none-applies (table_tests b now) refl e z

    pub live-held : Held b
    live-held = held b (not-false _ passed.0)

    pub live-counted : {c k : ℕ} → c ≡ count_of b → k ≡ length (keep (live now) (from (record_at b) 0 c)) → k ≡ box_counted b now
    unfolding table_of
    live-counted w q = q ∙ ap (λ c. length (keep (live now) (from (record_at b) 0 c))) w ∙ sym (counted_is ∙ ap counted (unless-made (table_tests b now) number-live passed))

pub table-held : (b : List ℕ) {x : Bool} → x ≡ sound_bytes b → not x ≡ false → Held b
table-held b {x} e s = held b (sym e ∙ not-false x s)

-- the bytes of the record at a place
abbrev text_at : Option (List ℕ) → List ℕ
text_at None = []
text_at (Some e) = e

text-map : (rs : List Record) (i : ℕ) → record_text (slice_get rs i) ≡ text_at (slice_get (map record_bytes rs) i)
text-map [] i = refl
text-map (r ∷ rs) zero = refl
text-map (r ∷ rs) (suc i) = text-map rs i

from-there : {A : Type 0} (f : ℕ → A) (n i j : ℕ) → j < n → slice_get (from f i n) j ≡ Some (f (i + j))
from-there f zero i j h = absurd (omega arith)
from-there f (suc n) i zero h = let m : i ≡ i + 0 = omega arith in ap (λ k. Some (f k)) m
from-there f (suc n) i (suc j) h = let m : i + 1 + j ≡ i + suc j = omega arith in from-there f n (i + 1) j (omega arith) ∙ ap (λ k. Some (f k)) m

from_past : {A : Type 0} (f : ℕ → A) (n i j : ℕ) → n ≤ j → slice_get (from f i n) j ≡ None
from_past f zero i j h = refl
from_past f (suc n) i zero h = absurd (omega arith)
from_past f (suc n) i (suc j) h = from_past f n (i + 1) j (omega arith)

module _ (b : List ℕ) (i : ℕ) (out : List ℕ) {x : Bool} (e : x ≡ sound_bytes b) where
  abbrev shown : Res (List ℕ)
  shown = done (record_text (slice_get (table_of b).records i))

  shown-is : box_shown b i out ≡ asked b out (unless ((9, not (sound_bytes b)) ∷ (2, ltb (length out) record_size) ∷ []) shown)
  unfolding box_shown
  shown-is = ap (asked b out) (table-once b ((2, ltb (length out) record_size) ∷ []) shown)

  pub shown-9 : not x ≡ true → ended 589824 b out ≡ box_shown b i out
  shown-9 h = sym (shown-is ∙ rw (← e, h))

  module _ (s : not x ≡ false) where
    pub shown-2 : length out < 153 → ended 131072 b out ≡ box_shown b i out
    shown-2 h = sym (shown-is ∙ rw (← e, s, lt-ltb (length out) 153 h))

    module _ (room : 153 ≤ length out) {n : ℕ} (c : n ≡ count_of b) where
      text-is : record_text (slice_get (table_of b).records i) ≡ text_at (slice_get (from (row_at b) 0 (count_of b)) i)
      text-is =
          let g = table-held b e s in
          text-map (table_of b).records i
          ∙ ap (λ l. text_at (slice_get l i)) (sym (table-rows (table_of b) g.sound) ∙ ap (λ l. from (row_at l) 0 (length (table_of b).records)) g.is ∙ ap (from (row_at b) 0) (sym g.count))

      made : {l : List ℕ} → record_text (slice_get (table_of b).records i) ≡ l → box_shown b i out ≡ ended (length l) b (splice 0 l out)
      made q = shown-is ∙ rw (← e, s, le-ltb (length out) 153 room) (ap (λ l. ended (length l) b (splice 0 l out)) q)

      pub shown-none : n ≤ i → ended 0 b out ≡ box_shown b i out
      unfolding splice
      shown-none h = sym (made (text-is ∙ ap text_at (from_past (row_at b) (count_of b) 0 i (rw (← c) h))))

      pub shown-row : i < n → {o : List ℕ} → o ≡ splice 0 (take (place i + record_size - place i) (drop (place i) b)) out → ended 153 b o ≡ box_shown b i out
      unfolding part
      shown-row h q =
          let t = text-is ∙ ap text_at (from-there (row_at b) (count_of b) 0 i (rw (← c) h)) in
          let z : place i + record_size ≤ length b = omega (arith, (table-held b e s).size, (table-held b e s).few) in
          let m : place i + record_size - place i ≡ record_size = omega arith in
          sym (made t ∙ rw (zero-add i, length_part (place i) record_size b z) (ap (ended 153 b) (sym (q ∙ ap (λ k. splice 0 (take k (drop (place i) b)) out) m))))
