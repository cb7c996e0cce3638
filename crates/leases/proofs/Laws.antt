-- What the writes of a function make, one after another.
use mathlib.Core.Path.{◌≡◌, refl, sym, ap, ◌∙◌}
use mathlib.Core.Bool.{Bool, true, false}
use mathlib.Core.List.{List, [], ◌++◌, append_assoc}
use Prim.Native.Nat.{ℕ, ◌+◌, ◌-◌, ◌*◌, ◌≤◌, ◌<◌}
use native.Mathlib.Omega.{arith}
use lib.Pow.{shl-shr}
use lib.ListN.{length, take, drop, replicate, length-append, length-replicate, take-append-drop}
use lib.Seq.{drop-drop}
use Rattle.rules.specs.Words.{part, splice, filled, be}
use Rattle.rules.specs.Prefix.{Prefix, Lease, except_for}
use Rattle.rules.specs.Identity.{Identity, identity}
use Rattle.rules.specs.Table.{live}
use Rattle.rules.specs.TableBytes.{table_size, header_size, record_size, place, flag, is_some, row_at, record_bytes, record_at, table_bytes, count_of, table_of, sound_bytes, leased}
use Rattle.rules.specs.Box.{bind}
use Rattle.laws.specs.Parts.{length_part, splice-splice, splice_all}
use Rattle.laws.specs.Numbers.{length-be}
use Rattle.laws.specs.Rows.{kept, dropped}
use Rattle.laws.specs.Same.{filled-length}
use Rattle.laws.specs.One.{changed, without}
use Rattle.laws.specs.Change.{settings_bytes, empty-bytes, live_row, live-is, tidied, ending, on_records, held, sound-fits, tidied-bytes, extended-bytes, bound-bytes, removed-bytes}
use Rattle.leases.specs.Values.{settings_for}

-- a sound table is as long as every table, and has at most 256 records
pub sound_size : (b : List ℕ) → sound_bytes b ≡ true → length b ≡ table_size
sound_size b h = (held b h).size

pub sound_few : (b : List ℕ) → sound_bytes b ≡ true → count_of b ≤ 256
sound_few b h = (held b h).few

-- n bytes e were written over l from a place, and gave m
pub record Wrote (at n : ℕ) (e l m : List ℕ) : Type 0 where
  pub is : m ≡ splice at e l
  pub size : length e ≡ n

pub wrote : {at n : ℕ} {e l m : List ℕ} → m ≡ splice at e l → length e ≡ n → Wrote at n e l m
wrote p q = record { is = p; size = q }

-- and then w bytes f behind them
pub more : {at n w : ℕ} {e l m r : List ℕ} (f : List ℕ) → at ≤ length l → Wrote at n e l m → r ≡ splice (at + n) f m → length f ≡ w → Wrote at (n + w) (e ++ f) l r
more {at} {n} {w} {e} {l} f h g p q = record {
  is = p ∙ ap (splice (at + n) f) g.is ∙ splice-splice at (at + n) e f l (ap (λ k. at + k) (sym g.size)) h;
  size = rw (length-append e f, g.size, q);
}

-- ---------------------------------------------------------------- ended records dropped

pub live-read : (b : List ℕ) (i now : ℕ) {r x : Bool} → r ≡ live now (record_at b i) → r ≡ x → live_row now (row_at b i) ≡ x
live-read b i now e q = sym (live-is now (row_at b i)) ∙ sym e ∙ q

-- a part put in where it stands changes nothing
pub stays : (i j n : ℕ) (l : List ℕ) → i ≡ j → i + n ≤ length l → l ≡ splice j (part i n l) l
unfolding part splice
stays i j n l q h =
    let c : length (take n (drop i l)) ≡ n = length_part i n l h in
    rw (← q, c, ← drop-drop n i l, take-append-drop n (drop i l), take-append-drop i l)

pub tidy-made : (b : List ℕ) (now : ℕ) {n k : ℕ} {l1 l2 l3 : List ℕ} → sound_bytes b ≡ true → n ≡ count_of b
    → (k ≡ length (kept (live_row now) n b)) × (l1 ≡ dropped (live_row now) n b) → l2 ≡ splice 0 (be 8 now) l1 → l3 ≡ splice 8 (be 2 k) l2
    → l3 ≡ table_bytes (tidied now (table_of b))
tidy-made b now {n} {k} {l1} h c d e f =
    let g = held b h in
    let m : n ≡ length (table_of b).records = c ∙ g.count in
    (more (be 2 k) (omega arith) (wrote e (length-be 8 now)) f (length-be 2 k)).is ∙ rw (d.1, d.0, m) (rw g.is at (tidied-bytes (table_of b) g.sound now))

-- ---------------------------------------------------------------- one record

module _ (b : List ℕ) (h : sound_bytes b ≡ true) where
  pub extend-made : (k end : ℕ) {l : List ℕ} → k < count_of b → l ≡ splice (place k + 15) (be 8 end) b → l ≡ table_bytes (on_records (changed (ending end) k) (table_of b))
  extend-made k end q e =
      let g = held b h in
      e ∙ (rw g.is at (extended-bytes (table_of b) (sound-fits (table_of b) g.sound) k end (omega (arith, g.count))))

  pub remove-made : (k : ℕ) {n : ℕ} {l1 l2 l3 : List ℕ} → k < count_of b → n ≡ count_of b
      → l1 ≡ splice (place k) (part (place (k + 1)) ((n - (k + 1)) * record_size) b) b
      → l2 ≡ splice (place (n - 1)) (replicate record_size 0) l1 → l3 ≡ splice 8 (be 2 (n - 1)) l2 → l3 ≡ table_bytes (on_records (without k) (table_of b))
  remove-made k {n} q c e f p =
      let g = held b h in
      let m : n ≡ length (table_of b).records = c ∙ g.count in
      p ∙ rw (f, e, m) (rw g.is at (removed-bytes (table_of b) (sound-fits (table_of b) g.sound) k (omega arith) g.sound.few))

  pub append-made : (i : Identity) (q : Lease) (end : ℕ) {n : ℕ} {l1 l2 : List ℕ} → length i.duid ≤ 130 → count_of b < 256 → n ≡ count_of b
      → l1 ≡ splice (place n) (record_bytes (record { owner = i; lease = q; end = end })) b → l2 ≡ splice 8 (be 2 (n + 1)) l1
      → l2 ≡ table_bytes (on_records (bind i q end) (table_of b))
  append-made i q end {n} long few c e f =
      let g = held b h in
      let m : n ≡ length (table_of b).records = c ∙ g.count in
      f ∙ rw (e, m) (rw g.is at (bound-bytes (table_of b) (sound-fits (table_of b) g.sound) (record { owner = i; lease = q; end = end }) long (omega arith)))

-- ---------------------------------------------------------------- a record's bytes

module _ (at : ℕ) (l : List ℕ) (h : at ≤ length l) where
  pub lease_made : (p a x end : ℕ) {l1 l2 l3 l4 : List ℕ} → l1 ≡ splice at (be 8 p) l → l2 ≡ splice (at + 8) (be 1 a) l1 → l3 ≡ splice (at + 9) (be 1 x) l2
      → l4 ≡ splice (at + 10) (be 8 end) l3 → l4 ≡ splice at (be 8 p ++ (be 1 a ++ (be 1 x ++ be 8 end))) l
  lease_made p a x end e1 e2 e3 e4 =
      let w1 = wrote e1 (length-be 8 p) in
      let w2 = more (be 1 a) h w1 e2 (length-be 1 a) in
      let w3 = more (be 1 x) h w2 e3 (length-be 1 x) in
      simp append_assoc at (more (be 8 end) h w3 e4 (length-be 8 end)).is

  flag-told : (x : Bool) (p : Prefix) → flag (is_some (except_for x p)) ≡ flag x
  flag-told true p = refl
  flag-told false p = refl

  pub record-made : (d : List ℕ) (i p a end : ℕ) (x : Bool) {l1 l2 l3 l4 : List ℕ} → l1 ≡ splice at (be 1 (length d)) l → l2 ≡ splice (at + 1) (be 4 i) l1
      → l3 ≡ splice (at + 5) (be 8 p ++ (be 1 a ++ (be 1 (flag x) ++ be 8 end))) l2 → l4 ≡ splice (at + 23) (filled 130 d) l3
      → l4 ≡ splice at (record_bytes (record { owner = identity d i; lease = leased p a x; end = end })) l
  unfolding record_bytes
  record-made d i p a end x e1 e2 e3 e4 =
      let q = be 8 p ++ (be 1 a ++ (be 1 (flag x) ++ be 8 end)) in
      let w1 = wrote e1 (length-be 1 (length d)) in
      let w2 = more (be 4 i) h w1 e2 (length-be 4 i) in
      let z : length q ≡ 18 = simp (length-append, length-be) in
      let w3 = more q h w2 e3 z in
      rw (shl-shr p 64, flag-told x) (simp append_assoc at (more (filled 130 d) h w3 e4 refl).is)

-- ---------------------------------------------------------------- a table with no record

abbrev pool_bytes : ℕ → ℕ → ℕ → ℕ → ℕ → List ℕ
pool_bytes p a shortest standard x = be 8 p ++ (be 1 a ++ (be 1 shortest ++ (be 1 standard ++ be 1 x)))

abbrev term_bytes : ℕ → ℕ → List ℕ → List ℕ
term_bytes preferred valid own = be 4 preferred ++ (be 4 valid ++ (be 1 (length own) ++ (filled 130 own ++ replicate 15 0)))

module _ (l : List ℕ) where
  pub pool-made : (p a shortest standard x : ℕ) {l1 l2 l3 l4 l5 : List ℕ} → 10 ≤ length l → l1 ≡ splice 10 (be 8 p) l → l2 ≡ splice 18 (be 1 a) l1
      → l3 ≡ splice 19 (be 1 shortest) l2 → l4 ≡ splice 20 (be 1 standard) l3 → l5 ≡ splice 21 (be 1 x) l4 → l5 ≡ splice 10 (pool_bytes p a shortest standard x) l
  pool-made p a shortest standard x h e1 e2 e3 e4 e5 =
      let w1 = wrote e1 (length-be 8 p) in
      let w2 = more (be 1 a) h w1 e2 (length-be 1 a) in
      let w3 = more (be 1 shortest) h w2 e3 (length-be 1 shortest) in
      let w4 = more (be 1 standard) h w3 e4 (length-be 1 standard) in
      simp append_assoc at (more (be 1 x) h w4 e5 (length-be 1 x)).is

  pub terms-made : (preferred valid : ℕ) (own : List ℕ) {l1 l2 l3 l4 l5 : List ℕ} → length own ≤ 130 → 22 ≤ length l → l1 ≡ splice 22 (be 4 preferred) l
      → l2 ≡ splice 26 (be 4 valid) l1 → l3 ≡ splice 30 (be 1 (length own)) l2 → l4 ≡ splice 31 (filled 130 own) l3 → l5 ≡ splice 161 (replicate 15 0) l4
      → l5 ≡ splice 22 (term_bytes preferred valid own) l
  terms-made preferred valid own d h e1 e2 e3 e4 e5 =
      let w1 = wrote e1 (length-be 4 preferred) in
      let w2 = more (be 4 valid) h w1 e2 (length-be 4 valid) in
      let w3 = more (be 1 (length own)) h w2 e3 (length-be 1 (length own)) in
      let w4 = more (filled 130 own) h w3 e4 (filled-length 130 own d) in
      simp append_assoc at (more (replicate 15 0) h w4 e5 refl).is

  pub start-made : (p a shortest standard preferred valid now z : ℕ) (exclusion : Bool) (own : List ℕ) {l1 l2 l3 l4 l5 : List ℕ}
      → length l ≡ table_size → length own ≤ 130 → z ≡ table_size - header_size → l1 ≡ splice 0 (be 8 now) l → l2 ≡ splice 8 (be 2 0) l1
      → l3 ≡ splice 10 (pool_bytes p a shortest standard (flag exclusion)) l2 → l4 ≡ splice 22 (term_bytes preferred valid own) l3
      → l5 ≡ splice 176 (replicate z 0) l4
      → l5 ≡ table_bytes (record { settings = settings_for p a shortest standard exclusion preferred valid own; last = now; records = [] })
  unfolding settings_bytes
  start-made p a shortest standard preferred valid now z exclusion own h d q e1 e2 e3 e4 e5 =
      let s = settings_for p a shortest standard exclusion preferred valid own in
      let x = pool_bytes p a shortest standard (flag exclusion) in
      let y = term_bytes preferred valid own in
      let u : length x ≡ 12 = simp (length-append, length-be) in
      let v : length y ≡ 154 = simp (length-append, length-be, filled-length 130 own d) in
      let b : settings_bytes s ≡ x ++ y = rw (shl-shr p 64) (simp append_assoc) in
      let w1 = wrote e1 (length-be 8 now) in
      let w2 = more (be 2 0) (omega arith) w1 e2 (length-be 2 0) in
      let w3 = more x (omega arith) w2 e3 u in
      let w4 = more y (omega arith) w3 e4 v in
      let w5 = more (replicate z 0) (omega arith) w4 e5 (length-replicate z 0) in
      w5.is ∙ splice_all _ l (w5.size ∙ omega arith)
      ∙ rw (append_assoc (be 8 now ++ be 2 0) x y, ← b) (sym (empty-bytes s now z d q))
