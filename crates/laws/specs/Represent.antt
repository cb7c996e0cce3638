-- A sound table is read back from its representation, whole; and its representation is sound.
use Rattle.std.specs.Prelude.{◌≡◌, Bool, true, false, List, [], ◌∷◌, ◌++◌, map, ℕ, ◌-◌, ◌*◌, ◌/◌, ◌%◌, ◌≤◌, ◌<◌, ◌^◌, eqb, leb, ltb, ◌⊎◌, Option, None, Some}
use Rattle.std.proofs.Math.Path.{refl, ap}
use Rattle.std.proofs.Common.{sym, ◌∙◌, append_assoc, arith, inl, inr}
use Rattle.std.proofs.Math.Bool.{not}
use Rattle.std.proofs.Math.Pow.{split, shr_lt}
use Rattle.std.proofs.Math.ListN.{length, replicate, length-append}
use Rattle.std.proofs.lemmas.List.{length-map, length-replicate}
use borrow.Author.Tests.{eqb-true, leb-true, ltb-true}
use Rattle.rules.specs.Words.{all, each, from, part, filled, same_bytes, num_at}
use Rattle.rules.specs.Prefix.{Prefix, prefix, zero_after, same_prefix, last64, fits, Lease, lease, except_for}
use Rattle.rules.specs.Clock.{never, good_end}
use Rattle.rules.specs.Identity.{Duid, identity, good_duid}
use Rattle.rules.specs.Settings.{Settings}
use Rattle.rules.specs.Table.{Record, Table, good_except, good_record, sound}
use Rattle.rules.specs.TableBytes.{table_size, place, flag, is_some, leased, record_bytes, header_bytes, table_bytes, record_of, row_at, record_at, settings_of, table_of, sound_bytes}
use Rattle.laws.specs.Tests.{both, either}
use Rattle.laws.specs.Loops.{from-map}
use Rattle.laws.specs.Numbers.{length-be}
use Rattle.laws.specs.Prefix.{finer, same-prefix, inside-fits}
use Rattle.laws.specs.Kinds.{bytes-true, bytes-refl}
use Rattle.laws.specs.Rows.{Sized, no_more, one_more, each-length, rows-each}
use Rattle.laws.specs.Same.{filled-length}
use Rattle.laws.specs.Stands.{Stands, stands-all, stands-head, stands-part, stands-num, stands_after}
use Rattle.laws.specs.Sound.{Good, good-facts, Sound, sound-facts, sound-made, GoodRecord, record-facts}

-- ---------------------------------------------------------------- a record

-- an end has eight bytes
pub end_fits : (e : ℕ) → good_end e ≡ true → e < 2 ^ 64
end_fits e g = by (either (ltb e (2 ^ 49)) (eqb e never) g)
  where
    by : (ltb e (2 ^ 49) ≡ true) ⊎ (eqb e never ≡ true) → e < 2 ^ 64
    by (inl h) = let z = ltb-true e (2 ^ 49) h in omega arith
    by (inr h) = let z = eqb-true e never h in omega arith

-- a good excluded prefix is told by its flag
except-told : (s : Settings) (p : Prefix) (o : Option Prefix) → good_except s p o ≡ true → except_for (not (eqb (flag (is_some o)) 0)) p ≡ o
except-told s p None g = refl
except-told s p (Some e) g = ap Some (sym (same-prefix e (last64 p) (both s.exclusion (same_prefix e (last64 p)) g).1))

-- a delegation's bits are those of its upper half
upper-half : (p : Prefix) → p.length ≤ 64 → zero_after p ≡ true → p.bits / 2 ^ 64 * 2 ^ 64 ≡ p.bits
upper-half p h z =
    let f : p.bits % 2 ^ 64 ≡ 0 = finer p.bits p.length 64 h (eqb-true _ 0 z) in
    omega (arith, split p.bits 64)

-- a record by its fields
record-fields : (e : List ℕ) {n i u a x t : ℕ} → num_at e 0 1 ≡ n → num_at e 1 4 ≡ i → num_at e 5 8 ≡ u → num_at e 13 1 ≡ a → num_at e 14 1 ≡ x → num_at e 15 8 ≡ t
    → record_of e ≡ record { owner = identity (part 23 n e) i; lease = leased u a (not (eqb x 0)); end = t }
unfolding record_of
record-fields e n i u a x t = λ j. record { owner = identity (part 23 (n j) e) (i j); lease = leased (u j) (a j) (not (eqb (x j) 0)); end = t j }

flag-byte : (b : Bool) → flag b < 2 ^ (8 * 1)
flag-byte true = omega arith
flag-byte false = omega arith

lease-told : (s : Settings) (l : Lease) → l.prefix.length ≤ 64 → zero_after l.prefix ≡ true → good_except s l.prefix l.except ≡ true
    → leased (l.prefix.bits / 2 ^ 64) l.prefix.length (not (eqb (flag (is_some l.except)) 0)) ≡ l
lease-told s l h z g =
    let w : prefix (l.prefix.bits / 2 ^ 64 * 2 ^ 64) l.prefix.length ≡ l.prefix = ap (λ b. prefix b l.prefix.length) (upper-half l.prefix h z) in
    ap (λ p. lease p (except_for (not (eqb (flag (is_some l.except)) 0)) p)) w ∙ ap (lease l.prefix) (except-told s l.prefix l.except g)

module _ (s : Settings) (r : Record) (pool : fits s.pool ≡ true) (good : good_record s r ≡ true) where
  abbrev e : List ℕ
  e = record_bytes r

  g : GoodRecord s r
  g = record-facts s r good

  duid-few : length r.owner.duid ≤ 130
  duid-few = leb-true _ 130 (both (leb 3 (length r.owner.duid)) (leb (length r.owner.duid) 130) (both (good_duid r.owner.duid) (ltb r.owner.iaid (2 ^ 32)) g.identity).0).1

  pub record-size : length (record_bytes r) ≡ 153
  unfolding record_bytes
  record-size =
      rw (
        length-append,
        length-be,
        length-append,
        length-be,
        length-append,
        length-be,
        length-append,
        length-be,
        length-append,
        length-be,
        length-append,
        length-be,
        filled-length 130 r.owner.duid duid-few,
      )

  pub record-round : record_of (record_bytes r) ≡ r
  unfolding record_bytes filled
  record-round =
      let d = r.owner.duid in
      let p = r.lease.prefix in
      let x = flag (is_some r.lease.except) in
      let iaid : r.owner.iaid < 2 ^ 32 = ltb-true _ _ (both (good_duid d) (ltb r.owner.iaid (2 ^ 32)) g.identity).1 in
      let bits : p.bits / 2 ^ 64 < 2 ^ 64 = shr_lt 64 64 (inside-fits p s.pool pool g.in-pool) in
      let s0 = stands-all e in
      let s1 = stands_after 1 (length d) _ s0 refl in
      let s2 = stands_after 4 r.owner.iaid _ s1 refl in
      let s3 = stands_after 8 (p.bits / 2 ^ 64) _ s2 refl in
      let s4 = stands_after 1 p.length _ s3 refl in
      let s5 = stands_after 1 x _ s4 refl in
      let s6 = stands_after 8 r.end _ s5 refl in
      let d0 : part 23 (length d) e ≡ d = stands-part (stands-head d _ s6) refl in
      record-fields e (stands-num 1 (length d) _ s0 (omega (arith, duid-few))) (stands-num 4 r.owner.iaid _ s1 iaid) (stands-num 8 (p.bits / 2 ^ 64) _ s2 bits)
      (stands-num 1 p.length _ s3 (omega (arith, g.most))) (stands-num 1 x _ s4 (flag-byte (is_some r.lease.except))) (stands-num 8 r.end _ s5 (end_fits r.end g.end))
      ∙ ap (λ q. record { owner = identity q r.owner.iaid; lease = leased (p.bits / 2 ^ 64) p.length (not (eqb x 0)); end = r.end }) d0
      ∙ ap (λ q. record { owner = r.owner; lease = q; end = r.end }) (lease-told s r.lease (omega (arith, g.most)) g.aligned g.except)

-- ---------------------------------------------------------------- a table

-- records, one after another, each read back
pub sized : (s : Settings) → fits s.pool ≡ true → (rs : List Record) → all (good_record s) rs ≡ true → Sized (map record_bytes rs)
sized s f [] e = no_more
sized s f (r ∷ rs) e = let p = both (good_record s r) (all (good_record s) rs) e in one_more (record-size s r f p.0) (sized s f rs p.1)

rounds : (s : Settings) → fits s.pool ≡ true → (rs : List Record) → all (good_record s) rs ≡ true → map record_of (map record_bytes rs) ≡ rs
rounds s f [] e = refl
rounds s f (r ∷ rs) e = let p = both (good_record s r) (all (good_record s) rs) e in rw (record-round s r f p.0, rounds s f rs p.1)

module _ (t : Table) (sd : Sound t) where
  abbrev s : Settings
  s = t.settings

  abbrev n : ℕ
  n = length t.records

  good : Good s
  good = good-facts s sd.settings

  pub own-few : length s.own ≤ 130
  own-few = leb-true _ 130 (both (leb 3 (length s.own)) (leb (length s.own) 130) good.own).1

  pub header-size : length (header_bytes t) ≡ 176
  unfolding header_bytes
  header-size =
      let d : length (filled 130 s.own) ≡ 130 = filled-length 130 s.own own-few in
      rw (
        length-append,
        length-be,
        length-append,
        length-be,
        length-append,
        length-be,
        length-append,
        length-be,
        length-append,
        length-be,
        length-append,
        length-be,
        length-append,
        length-be,
        length-append,
        length-be,
        length-append,
        length-be,
        length-append,
        length-be,
        length-append,
        d,
      )

  records-size : length (each (map record_bytes t.records)) ≡ n * 153
  records-size = each-length (sized s good.pool-fits t.records sd.good) ∙ ap (λ k. k * 153) (length-map t.records record_bytes)

  -- the representation, part by part
  pub table-parts : table_bytes t ≡ header_bytes t ++ (each (map record_bytes t.records) ++ replicate (table_size - place n) 0)
  unfolding table_bytes filled
  table-parts =
      let k : length (header_bytes t ++ each (map record_bytes t.records)) ≡ place n = length-append (header_bytes t) _ ∙ rw (header-size, records-size) in
      rw k (append_assoc (header_bytes t) (each (map record_bytes t.records)) (replicate (table_size - place n) 0))

  pub table-length : length (table_bytes t) ≡ table_size
  table-length = rw (table-parts, length-append, header-size, length-append, records-size, length-replicate) (omega (arith, sd.few))

  -- its rows are the records'
  pub table-rows : from (row_at (table_bytes t)) 0 n ≡ map record_bytes t.records
  table-rows =
      let z : ◌≡◌ {A = List (List ℕ)} (from (row_at (header_bytes t ++ (each (map record_bytes t.records) ++ replicate (table_size - place n) 0))) 0 (length (map record_bytes t.records))) (map record_bytes t.records) =
      rows-each (header_bytes t) (replicate (table_size - place n) 0) 0 (sized s good.pool-fits t.records sd.good) header-size in
      rw table-parts (ap (λ k. from (row_at (header_bytes t ++ (each (map record_bytes t.records) ++ replicate (table_size - place n) 0))) 0 k) (sym (length-map t.records record_bytes)) ∙ z)

  table-records : from (record_at (table_bytes t)) 0 n ≡ t.records
  table-records = from-map record_of (row_at (table_bytes t)) n 0 ∙ ap (map record_of) table-rows ∙ rounds s good.pool-fits t.records sd.good

  abbrev b : List ℕ
  b = table_bytes t

  -- the header's fields
  fields : Stands b 0 (header_bytes t)
  fields = record { rest = each (map record_bytes t.records) ++ replicate (table_size - place n) 0; is = table-parts }

  pool-low : s.pool.bits / 2 ^ 64 * 2 ^ 64 ≡ s.pool.bits
  pool-low = upper-half s.pool (omega (arith, good.most-56)) good.lengths.aligned

  pool-bits : s.pool.bits / 2 ^ 64 < 2 ^ 64
  pool-bits = shr_lt 64 64 (ltb-true _ _ (both (leb s.pool.length 128) (ltb s.pool.bits (2 ^ 128)) good.pool-fits).1)

  flag-read : (x : Bool) → not (eqb (flag x) 0) ≡ x
  flag-read true = refl
  flag-read false = refl

  -- a table by its fields
  table-fields : {l c p w h d x q v : ℕ} {o : Duid} → num_at b 0 8 ≡ l → num_at b 8 2 ≡ c → num_at b 10 8 ≡ p → num_at b 18 1 ≡ w → num_at b 19 1 ≡ h → num_at b 20 1 ≡ d
      → num_at b 21 1 ≡ x → num_at b 22 4 ≡ q → num_at b 26 4 ≡ v → part 31 (num_at b 30 1) b ≡ o
      → table_of b ≡ record {
        settings = record { pool = prefix (p * 2 ^ 64) w; shortest = h; standard = d; preferred = q; valid = v; exclusion = not (eqb x 0); own = o };
        last = l;
        records = from (record_at b) 0 c;
      }
  unfolding table_of settings_of
  table-fields l c p w h d x q v o = λ j. record {
    settings = record { pool = prefix (p j * 2 ^ 64) (w j); shortest = h j; standard = d j; preferred = q j; valid = v j; exclusion = not (eqb (x j) 0); own = o j };
    last = l j;
    records = from (record_at b) 0 (c j);
  }

  pub table-round : table_of (table_bytes t) ≡ t
  unfolding header_bytes filled
  table-round =
      let g = good in
      let k = g.lengths in
      let s0 = fields in
      let s8 = stands_after 8 t.last _ s0 refl in
      let s10 = stands_after 2 n _ s8 refl in
      let s18 = stands_after 8 (s.pool.bits / 2 ^ 64) _ s10 refl in
      let s19 = stands_after 1 s.pool.length _ s18 refl in
      let s20 = stands_after 1 s.shortest _ s19 refl in
      let s21 = stands_after 1 s.standard _ s20 refl in
      let s22 = stands_after 1 (flag s.exclusion) _ s21 refl in
      let s26 = stands_after 4 s.preferred _ s22 refl in
      let s30 = stands_after 4 s.valid _ s26 refl in
      let s31 = stands_after 1 (length s.own) _ s30 refl in
      let own : num_at b 30 1 ≡ length s.own = stands-num 1 (length s.own) _ s30 (omega (arith, own-few)) in
      let duid : part 31 (length s.own) b ≡ s.own = stands-part (stands-head s.own _ (stands-head (s.own ++ replicate (130 - length s.own) 0) _ s31)) refl in
      table-fields (stands-num 8 t.last _ s0 (omega (arith, sd.time))) (stands-num 2 n _ s8 (omega (arith, sd.few)))
      (stands-num 8 (s.pool.bits / 2 ^ 64) _ s10 pool-bits) (stands-num 1 s.pool.length _ s18 (omega (arith, g.most-56)))
      (stands-num 1 s.shortest _ s19 (omega (arith, k.shortest-standard, k.standard-60))) (stands-num 1 s.standard _ s20 (omega (arith, k.standard-60)))
      (stands-num 1 (flag s.exclusion) _ s21 (flag-byte s.exclusion)) (stands-num 4 s.preferred _ s22 (omega (arith, g.preferred-valid, g.valid-32)))
      (stands-num 4 s.valid _ s26 (omega (arith, g.valid-32))) (ap (λ m. part 31 m b) own ∙ duid)
      ∙ (λ j. record {
        settings = record {
          pool = prefix (pool-low j) s.pool.length;
          shortest = s.shortest;
          standard = s.standard;
          preferred = s.preferred;
          valid = s.valid;
          exclusion = flag-read s.exclusion j;
          own = s.own;
        };
        last = t.last;
        records = table-records j;
      })

  -- so the representation of a sound table is sound
  pub bytes-sound : sound_bytes (table_bytes t) ≡ true
  unfolding sound_bytes
  bytes-sound = rw (table-round, sound-made t sd, bytes-refl (table_bytes t))

  pub represented : {c : List ℕ} → c ≡ table_bytes t → (sound_bytes c ≡ true) × (table_of c ≡ t)
  represented e = (rw e bytes-sound, rw e table-round)

-- and a sound array is the representation of the table that it says
pub sound-bytes : (b : List ℕ) → sound_bytes b ≡ true → Sound (table_of b) × (table_bytes (table_of b) ≡ b)
unfolding sound_bytes
sound-bytes b h =
    let a = both (sound (table_of b)) (same_bytes (table_bytes (table_of b)) b) h in
    (sound-facts (table_of b) a.0, bytes-true _ _ a.1)
