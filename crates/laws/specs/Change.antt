-- Changes of a table in its bytes: what the writes leave is the representation of the changed table.
--   splice-..               what is put into one of two lists
--   laid, Fits              a table's bytes by its last time, settings and rows, each part in its size
--   tidied-bytes            the last time set, and the ended records dropped
--   extended-bytes, bound-bytes, removed-bytes      one record's end set, one put last, one taken out
--   extended-there, removed-there                   where that one is the record of an identity
use Rattle.std.specs.Prelude.{◌≡◌, refl, Bool, true, false, not, List, [], ◌∷◌, ◌++◌, map, ℕ, zero, suc, ◌+◌, ◌-◌, ◌*◌, ◌/◌, ◌%◌, ◌≤◌, ◌<◌, ◌^◌, ltb, take, replicate, Some}
use Rattle.std.proofs.Math.Path.{sym, ap}
use Rattle.std.proofs.Common.{◌∙◌, append_assoc, append-nil, length-append}
use Rattle.std.proofs.Math.Bool.{not-not}
use Rattle.std.proofs.Math.Nat.{zero-add, sub-zero}
use native.Mathlib.Omega.{arith}
use Rattle.std.proofs.Math.ListN.{length, drop}
use Rattle.std.proofs.lemmas.List.{length-map, length-replicate, replicate-append-replicate, take-append-le}
use Rattle.std.proofs.Math.Seq.{take-append-add, drop-append-add, drop-append-le, take_at, drop_at}
use Rattle.rules.specs.Words.{all, no_two, keep, each, from, part, splice, filled, num, be, num_at}
use Rattle.rules.specs.Prefix.{fits, overlap}
use Rattle.rules.specs.Clock.{Moment, Lifetime, extended}
use Rattle.rules.specs.Identity.{Identity, same_identity}
use Rattle.rules.specs.Settings.{Settings}
use Rattle.rules.specs.Table.{Record, Table, is_binding, area, live, give_up, current, good_record, may_stand}
use Rattle.rules.specs.TableBytes.{record_size, header_size, table_size, place, flag, is_some, record_bytes, header_bytes, table_bytes, record_of, record_at, count_of, table_of, sound_bytes}
use Rattle.rules.specs.Box.{longer, extend}
use Rattle.laws.specs.Tests.{both}
use Rattle.laws.specs.Loops.{first_place, keep-map, keep-few, from-length}
use Rattle.laws.specs.One.{changed, without, changed-length, without-length, changed-same, map-changed, map-without, map-append, Only, only, only_kept, only-touched}
use Rattle.laws.specs.Parts.{length_part, length-splice, splice-splice, part-past, part-first, part-part}
use Rattle.laws.specs.Numbers.{length-be}
use Rattle.laws.specs.Kinds.{identity-true, identity-same}
use Rattle.laws.specs.Rows.{rows, kept, dropped, Sized, no_more, one_more, each-length, rows-each, sized-keep}
use Rattle.laws.specs.Same.{filled-length}
use Rattle.laws.specs.Sound.{good-facts, Sound, give-up, give-up-fine}
use Rattle.laws.specs.Represent.{record-round, own-few, sized, table-rows, table-length, represented, sound-bytes}

-- ---------------------------------------------------------------- what is put into one of two lists

module _ {A : Type 0} where
  splice-past : (k a : ℕ) (e d r : List A) → length d ≡ k → splice (k + a) e (d ++ r) ≡ d ++ splice a e r
  unfolding splice
  splice-past k a e d r q =
      let m : k + a + length e ≡ k + (a + length e) = omega arith in
      rw (m, ← q, take-append-add, drop-append-add) (append_assoc d (take a r) (e ++ drop (a + length e) r))

  splice-left : (a : ℕ) (e d r : List A) → a + length e ≤ length d → splice a e (d ++ r) ≡ splice a e d ++ r
  unfolding splice
  splice-left a e d r h = rw (take-append-le a d r (omega arith), drop-append-le (a + length e) d r h) (simp append_assoc)

  splice-over : (e d r : List A) → length e ≡ length d → splice 0 e (d ++ r) ≡ e ++ r
  unfolding splice
  splice-over e d r q = rw (zero-add, drop_at d r (length e) (sym q))

-- ---------------------------------------------------------------- a table's bytes

-- the header after the last time and the number of records
unfoldable pub settings_bytes : Settings → List ℕ
settings_bytes s =
    be 8 (s.pool.bits / 2 ^ 64) ++ (be 1 s.pool.length ++ (be 1 s.shortest ++ (be 1 s.standard ++ (be 1 (flag s.exclusion) ++ (be 4 s.preferred
    ++ (be 4 s.valid ++ (be 1 (length s.own) ++ (filled 130 s.own ++ replicate 15 0))))))))

abbrev head : Moment → ℕ → Settings → List ℕ
head last n s = (be 8 last ++ be 2 n) ++ settings_bytes s

abbrev room : ℕ → List ℕ
room n = replicate (table_size - place n) 0

abbrev laid : Moment → Settings → List (List ℕ) → List ℕ
laid last s es = head last (length es) s ++ (each es ++ room (length es))

-- each part has its size
pub record Fits (t : Table) : Type 0 where
  pub own : length t.settings.own ≤ 130
  pub rows : Sized (map record_bytes t.records)

head-size : (last : Moment) (n : ℕ) (s : Settings) → length s.own ≤ 130 → length (head last n s) ≡ header_size
unfolding settings_bytes
head-size last n s h = simp (length-append, length-be, length-replicate, filled-length 130 s.own h)

header_is : (t : Table) → header_bytes t ≡ head t.last (length t.records) t.settings
unfolding header_bytes settings_bytes
header_is t = sym (append_assoc (be 8 t.last) (be 2 (length t.records)) (settings_bytes t.settings))

pub table-laid : (t : Table) → Fits t → table_bytes t ≡ laid t.last t.settings (map record_bytes t.records)
unfolding table_bytes filled
table-laid t f =
    let n : length (map record_bytes t.records) ≡ length t.records = length-map t.records record_bytes in
    let h : length (header_bytes t) ≡ header_size = rw header_is (head-size t.last (length t.records) t.settings f.own) in
    let k : length (header_bytes t ++ each (map record_bytes t.records)) ≡ place (length (map record_bytes t.records)) = rw (length-append, h, each-length f.rows) in
    rw (k, n, header_is t) (append_assoc (head t.last (length t.records) t.settings) (each (map record_bytes t.records)) (room (length t.records)))

pub sound-fits : (t : Table) → Sound t → Fits t
sound-fits t sd = record { own = own-few t sd; rows = sized t.settings (good-facts t.settings sd.settings).pool-fits t.records sd.good }

-- a table with no record
pub empty-bytes : (s : Settings) (now : Moment) (z : ℕ) → length s.own ≤ 130 → z ≡ table_size - header_size
    → table_bytes (record { settings = s; last = now; records = [] }) ≡ ((be 8 now ++ be 2 0) ++ settings_bytes s) ++ replicate z 0
empty-bytes s now z h q =
    table-laid (record { settings = s; last = now; records = [] }) (record { own = h; rows = no_more }) ∙ ap (λ k. head now 0 s ++ replicate k 0) (sym q)

-- ---------------------------------------------------------------- the header, and the room after the rows

head-over : (now last : Moment) (k n : ℕ) (s : Settings) (r : List ℕ) → splice 0 (be 8 now ++ be 2 k) (head last n s ++ r) ≡ head now k s ++ r
head-over now last k n s r =
    rw (append_assoc (be 8 last ++ be 2 n) (settings_bytes s) r, append_assoc (be 8 now ++ be 2 k) (settings_bytes s) r)
    (splice-over (be 8 now ++ be 2 k) (be 8 last ++ be 2 n) (settings_bytes s ++ r) (simp (length-append, length-be)))

count-over : (last : Moment) (k n : ℕ) (s : Settings) (r : List ℕ) → splice 8 (be 2 k) (head last n s ++ r) ≡ head last k s ++ r
count-over last k n s r =
    simp append_assoc
    (splice-past 8 0 (be 2 k) (be 8 last) (be 2 n ++ (settings_bytes s ++ r)) (length-be 8 last)
    ∙ ap (λ l. be 8 last ++ l) (splice-over (be 2 k) (be 2 n) (settings_bytes s ++ r) (length-be 2 k ∙ sym (length-be 2 n))))

room-more : (w n k : ℕ) → w + (table_size - place n) ≡ table_size - place k → replicate w 0 ++ room n ≡ room k
room-more w n k m = rw (replicate-append-replicate, m)

-- ---------------------------------------------------------------- rows changed, added and left out

each-changed : (a : ℕ) (e u : List ℕ) {es : List (List ℕ)} → Sized es → (k : ℕ) → k < length es → a + length e ≤ record_size
    → splice (k * record_size + a) e (each es ++ u) ≡ each (changed (splice a e) k es) ++ u
each-changed a e u no_more k h f = absurd (omega arith)
each-changed a e u (one_more {e = x} {es = es} q s) zero h f =
    let m : 0 * record_size + a ≡ a = omega arith in
    rw (m, append_assoc x (each es) u, append_assoc (splice a e x) (each es) u) (splice-left a e x (each es ++ u) (omega arith))
each-changed a e u (one_more {e = x} {es = es} q s) (suc k) h f =
    let m : suc k * record_size + a ≡ record_size + (k * record_size + a) = omega arith in
    rw (m, append_assoc x (each es) u, append_assoc x (each (changed (splice a e) k es)) u)
    (splice-past record_size (k * record_size + a) e x (each es ++ u) q ∙ ap (λ l. x ++ l) (each-changed a e u s k (omega arith) f))

sized-changed : (a : ℕ) (e : List ℕ) {es : List (List ℕ)} → Sized es → (k : ℕ) → a + length e ≤ record_size → Sized (changed (splice a e) k es)
sized-changed a e no_more k f = no_more
sized-changed a e (one_more {e = x} q s) zero f = one_more (length-splice a e x (omega arith) ∙ q) s
sized-changed a e (one_more q s) (suc k) f = one_more q (sized-changed a e s k f)

each_last : (es : List (List ℕ)) (e u : List ℕ) → each (es ++ (e ∷ [])) ++ u ≡ each es ++ (e ++ u)
each_last [] e u = rw append-nil
each_last (x ∷ es) e u = rw (append_assoc x (each (es ++ (e ∷ []))) u, append_assoc x (each es) (e ++ u), each_last es e u)

sized-last : {es : List (List ℕ)} → Sized es → (e : List ℕ) → length e ≡ record_size → Sized (es ++ (e ∷ []))
sized-last no_more e q = one_more q no_more
sized-last (one_more p s) e q = one_more p (sized-last s e q)

abbrev blank : List ℕ
blank = replicate record_size 0

each-without : (u : List ℕ) {es : List (List ℕ)} → Sized es → (k : ℕ) → k < length es
    → splice (k * record_size) (part ((k + 1) * record_size) ((length es - (k + 1)) * record_size) (each es ++ u) ++ blank) (each es ++ u) ≡ each (without k es) ++ (blank ++ u)
each-without u no_more k h = absurd (omega arith)
each-without u (one_more {e = x} {es = es} q s) zero h =
    let n : length (each es) ≡ length es * record_size = each-length s in
    let m : (suc (length es) - (0 + 1)) * record_size ≡ length es * record_size = omega arith in
    let p : part (record_size + 0) (length es * record_size) (x ++ (each es ++ u)) ≡ each es =
    part-past record_size 0 (length es * record_size) x (each es ++ u) q ∙ part-first (length es * record_size) (each es) u n in
    let z : length (each es ++ blank) ≡ length (x ++ each es) = simp (length-append, length-replicate) (omega arith) in
    rw (m, append_assoc x (each es) u, p, ← append_assoc x (each es) u, splice-over (each es ++ blank) (x ++ each es) u z) (append_assoc (each es) blank u)
each-without u (one_more {e = x} {es = es} q s) (suc k) h =
    let v = each es ++ u in
    let w = (length es - (k + 1)) * record_size in
    let m : (suc (length es) - (suc k + 1)) * record_size ≡ w = omega arith in
    let a : (suc k + 1) * record_size ≡ record_size + (k + 1) * record_size = omega arith in
    let b : suc k * record_size ≡ record_size + k * record_size = omega arith in
    rw (append_assoc x (each es) u, m, a, b, part-past record_size ((k + 1) * record_size) w x v q, append_assoc x (each (without k es)) (blank ++ u))
    (splice-past record_size (k * record_size) (part ((k + 1) * record_size) w v ++ blank) x v q ∙ ap (λ l. x ++ l) (each-without u s k (omega arith)))

sized-without : {es : List (List ℕ)} → Sized es → (k : ℕ) → Sized (without k es)
sized-without no_more k = no_more
sized-without (one_more q s) zero = s
sized-without (one_more q s) (suc k) = one_more q (sized-without s k)

-- ---------------------------------------------------------------- the rows under the header

module _ (last : Moment) (s : Settings) {es : List (List ℕ)} (own : length s.own ≤ 130) (sz : Sized es) where
  abbrev top : List ℕ
  top = head last (length es) s

  abbrev below : List ℕ
  below = each es ++ room (length es)

  laid-length : length es ≤ 256 → length (laid last s es) ≡ table_size
  laid-length few = rw (length-append, head-size last (length es) s own, length-append, each-length sz, length-replicate) (omega arith)

  laid-rows : rows (laid last s es) 0 (length es) ≡ es
  laid-rows = rows-each top (room (length es)) 0 sz (head-size last (length es) s own)

  laid-after : drop (place (length es)) (laid last s es) ≡ room (length es)
  laid-after =
      let q : length (top ++ each es) ≡ place (length es) = rw (length-append, head-size last (length es) s own, each-length sz) in
      rw (← append_assoc top (each es) (room (length es))) (drop_at (top ++ each es) (room (length es)) (place (length es)) q)

  -- a write below the header
  below-header : (a : ℕ) (e : List ℕ) → splice (header_size + a) e (laid last s es) ≡ top ++ splice a e below
  below-header a e = splice-past header_size a e top below (head-size last (length es) s own)

  laid_kept : (f : List ℕ → Bool) (now : Moment) → length es ≤ 256
      → splice 0 (be 8 now ++ be 2 (length (keep f es))) (dropped f (length es) (laid last s es)) ≡ laid now s (keep f es)
  unfolding dropped
  laid_kept f now few =
      let k = length (keep f es) in
      let m : k ≤ length es = keep-few f es in
      rw (laid-rows, laid-after, take_at top below header_size (head-size last (length es) s own), room-more ((length es - k) * record_size) (length es) k (omega arith))
      (head-over now last k (length es) s (each (keep f es) ++ room k))

  laid-changed : (a k : ℕ) (e : List ℕ) → k < length es → a + length e ≤ record_size → splice (place k + a) e (laid last s es) ≡ laid last s (changed (splice a e) k es)
  laid-changed a k e h f =
      let m : place k + a ≡ header_size + (k * record_size + a) = omega arith in
      rw (m, below-header (k * record_size + a) e, changed-length (splice a e) k es) (ap (λ l. top ++ l) (each-changed a e (room (length es)) sz k h f))

  laid-last : (e : List ℕ) → length e ≡ record_size → length es < 256
      → splice 8 (be 2 (length es + 1)) (splice (place (length es)) e (laid last s es)) ≡ laid last s (es ++ (e ∷ []))
  laid-last e q few =
      let n = length es in
      let m : n * record_size + 0 ≡ n * record_size = omega arith in
      let p : splice (n * record_size) e below ≡ each es ++ (e ++ room (n + 1)) =
      rw m at (splice-past (n * record_size) 0 e (each es) (room n) (each-length sz))
      ∙ ap (λ l. each es ++ splice 0 e l) (sym (room-more record_size (n + 1) n (omega arith)))
      ∙ ap (λ l. each es ++ l) (splice-over e blank (room (n + 1)) q) in
      rw (below-header (n * record_size) e, p, length-append es (e ∷ []), each_last es e (room (n + 1))) (count-over last (n + 1) n s (each es ++ (e ++ room (n + 1))))

  laid-without : (k : ℕ) → k < length es → length es ≤ 256
      → splice 8 (be 2 (length es - 1)) (splice (place (length es - 1)) blank
      (splice (place k) (part (place (k + 1)) ((length es - (k + 1)) * record_size) (laid last s es)) (laid last s es))) ≡ laid last s (without k es)
  laid-without k h few =
      let n = length es in
      let l = laid last s es in
      let w = (n - (k + 1)) * record_size in
      let y = part (place (k + 1)) w l in
      let g : length l ≡ table_size = laid-length few in
      let c : length y ≡ w = length_part (place (k + 1)) w l (omega arith) in
      let p : y ≡ part ((k + 1) * record_size) w below = part-past header_size ((k + 1) * record_size) w top below (head-size last n s own) in
      let d : length (without k es) ≡ n - 1 = let e = without-length k es h in omega arith in
      rw (
        splice-splice (place k) (place (n - 1)) y blank l (omega arith) (omega arith),
        below-header (k * record_size) (y ++ blank),
        p,
        each-without (room n) sz k h,
        room-more record_size n (n - 1) (omega arith),
        d,
      )
      (count-over last (n - 1) n s (each (without k es) ++ room (n - 1)))

-- ---------------------------------------------------------------- the ended records dropped

-- a row whose record is live
abbrev pub live_row : Moment → List ℕ → Bool
live_row now e = ltb now (num_at e 15 8)

pub live-is : (now : Moment) (e : List ℕ) → live now (record_of e) ≡ live_row now e
unfolding record_of
live-is now e = refl

-- the last time set, and every ended record dropped
abbrev pub tidied : Moment → Table → Table
tidied now t = record { settings = t.settings; last = now; records = current now t.records }

keep_same : {A : Type 0} (p f g : A → Bool) → ((x : A) → p x ≡ true → f x ≡ g x) → (l : List A) → all p l ≡ true → keep f l ≡ keep g l
keep_same p f g h [] e = refl
keep_same p f g h (x ∷ l) e = let q = both (p x) (all p l) e in rw (h x q.0, keep_same p f g h l q.1)

live-row : (s : Settings) (now : Moment) (r : Record) → fits s.pool ≡ true → good_record s r ≡ true → live_row now (record_bytes r) ≡ live now r
live-row s now r pool good = sym (live-is now (record_bytes r)) ∙ ap (live now) (record-round s r pool good)

rows-live : (s : Settings) (now : Moment) (rs : List Record) → fits s.pool ≡ true → all (good_record s) rs ≡ true
    → keep (live_row now) (map record_bytes rs) ≡ map record_bytes (current now rs)
rows-live s now rs pool good =
    keep-map (live_row now) record_bytes rs
    ∙ ap (map record_bytes)
    (keep_same (good_record s) (λ r. live_row now (record_bytes r)) (λ r. not (not (live now r))) (λ r g. live-row s now r pool g ∙ sym (not-not (live now r))) rs good
    ∙ sym (give-up (λ r. not (live now r)) rs))

module _ (t : Table) (sd : Sound t) (now : Moment) where
  abbrev n : ℕ
  n = length t.records

  tidied-rows : keep (live_row now) (map record_bytes t.records) ≡ map record_bytes (current now t.records)
  tidied-rows = rows-live t.settings now t.records (good-facts t.settings sd.settings).pool-fits sd.good

  tidied-fits : Fits (tidied now t)
  tidied-fits = let f = sound-fits t sd in record { own = f.own; rows = rw (← tidied-rows) (sized-keep (live_row now) f.rows) }

  pub tidied-bytes : splice 0 (be 8 now ++ be 2 (length (kept (live_row now) n (table_bytes t)))) (dropped (live_row now) n (table_bytes t)) ≡ table_bytes (tidied now t)
  tidied-bytes =
      let f = sound-fits t sd in
      let m : length (map record_bytes t.records) ≡ n = length-map t.records record_bytes in
      let k : kept (live_row now) n (table_bytes t) ≡ keep (live_row now) (map record_bytes t.records) = ap (keep (live_row now)) (table-rows t sd) in
      rw (k, table-laid t f, table-laid (tidied now t) tidied-fits, ← tidied-rows, ← m)
      (laid_kept t.last t.settings f.own f.rows (live_row now) now (omega (arith, sd.few)))

  pub tidied-sound : now < 2 ^ 48 → Sound (tidied now t)
  tidied-sound soon =
      let f = give-up-fine t.settings (λ r. not (live now r)) t.records (record { few = sd.few; good = sd.good; together = sd.together }) in
      record { settings = sd.settings; few = f.few; good = f.good; together = f.together; time = soon }

-- ---------------------------------------------------------------- the records of a table

-- a table with its records changed
abbrev pub on_records : (List Record → List Record) → Table → Table
on_records f t = record { settings = t.settings; last = t.last; records = f t.records }

abbrev pub ending : Moment → Record → Record
ending e r = record { owner = r.owner; lease = r.lease; end = e }

pub record-bytes : (r : Record) → length r.owner.duid ≤ 130 → length (record_bytes r) ≡ record_size
unfolding record_bytes
record-bytes r h = simp (length-append, length-be, filled-length 130 r.owner.duid h)

end-over : (e : Moment) (r : Record) → record_bytes (ending e r) ≡ splice 15 (be 8 e) (record_bytes r)
unfolding record_bytes
end-over e r =
    let p = r.lease.prefix in
    let d = be 1 (length r.owner.duid) ++ (be 4 r.owner.iaid ++ (be 8 (p.bits / 2 ^ 64) ++ (be 1 p.length ++ be 1 (flag (is_some r.lease.except))))) in
    let x = filled 130 r.owner.duid in
    let y : length d ≡ 15 = simp (length-append, length-be) in
    simp (append_assoc) at (sym (splice-past 15 0 (be 8 e) d (be 8 r.end ++ x) y ∙ ap (λ l. d ++ l) (splice-over (be 8 e) (be 8 r.end) x (length-be 8 e ∙ sym (length-be 8 r.end)))))

module _ (t : Table) (f : Fits t) where
  abbrev rs : List Record
  rs = t.records

  abbrev es : List (List ℕ)
  es = map record_bytes t.records

  count : length es ≡ length rs
  count = length-map rs record_bytes

  with-laid : (qs : List Record) (xs : List (List ℕ)) → map record_bytes qs ≡ xs → Sized xs → laid t.last t.settings xs ≡ table_bytes (on_records (λ _. qs) t)
  with-laid qs xs q sz = sym (table-laid (on_records (λ _. qs) t) (record { own = f.own; rows = rw q sz }) ∙ ap (laid t.last t.settings) q)

  -- the end of record k set
  pub extended-bytes : (k : ℕ) (e : Moment) → k < length rs → splice (place k + 15) (be 8 e) (table_bytes t) ≡ table_bytes (on_records (changed (ending e) k) t)
  extended-bytes k e h =
      let c = count in
      let z : 15 + length (be 8 e) ≤ record_size = rw (length-be 8 e) (omega arith) in
      rw (table-laid t f)
      (laid-changed t.last t.settings f.own f.rows 15 k (be 8 e) (omega arith) z
      ∙ with-laid (changed (ending e) k rs) (changed (splice 15 (be 8 e)) k es) (map-changed record_bytes (ending e) (splice 15 (be 8 e)) (end-over e) k rs)
      (sized-changed 15 (be 8 e) f.rows k z))

  -- a record put last
  pub bound-bytes : (r : Record) → length r.owner.duid ≤ 130 → length rs < 256
      → splice 8 (be 2 (length rs + 1)) (splice (place (length rs)) (record_bytes r) (table_bytes t)) ≡ table_bytes (on_records (λ qs. qs ++ (r ∷ [])) t)
  bound-bytes r d few =
      let c = count in
      let z : length (record_bytes r) ≡ record_size = record-bytes r d in
      rw (table-laid t f, ← count)
      (laid-last t.last t.settings f.own f.rows (record_bytes r) z (omega arith)
      ∙ with-laid (rs ++ (r ∷ [])) (es ++ (record_bytes r ∷ [])) (map-append record_bytes rs (r ∷ [])) (sized-last f.rows (record_bytes r) z))

  -- record k taken out
  pub removed-bytes : (k : ℕ) → k < length rs → length rs ≤ 256
      → splice 8 (be 2 (length rs - 1)) (splice (place (length rs - 1)) (replicate record_size 0)
      (splice (place k) (part (place (k + 1)) ((length rs - (k + 1)) * record_size) (table_bytes t)) (table_bytes t))) ≡ table_bytes (on_records (without k) t)
  removed-bytes k h few =
      let c = count in
      rw (table-laid t f, ← count)
      (laid-without t.last t.settings f.own f.rows k (omega arith) (omega arith)
      ∙ with-laid (without k rs) (without k es) (map-without record_bytes k rs) (sized-without f.rows k))

-- ---------------------------------------------------------------- the record of an identity

apart : (i : Identity) (x y : Record) → is_binding i x ≡ true → may_stand x y ≡ true → not (is_binding i y) ≡ true
unfolding may_stand
apart i x y p m = by (is_binding i y) refl
  where
    by : (b : Bool) → is_binding i y ≡ b → not b ≡ true
    by true q =
        let e : same_identity x.owner y.owner ≡ true = identity-same x.owner y.owner (identity-true x.owner i p ∙ sym (identity-true y.owner i q)) in
        sym (ap not e) ∙ (both (not (overlap (area x) (area y))) (not (same_identity x.owner y.owner)) m).1
    by false q = refl

module _ (i : Identity) (rs : List Record) (k : ℕ) (together : no_two may_stand rs ≡ true) (at : first_place (is_binding i) rs 0 ≡ Some k) where
  theirs : Only (is_binding i) k rs
  theirs = rw sub-zero at (only (is_binding i) may_stand (apart i) rs 0 k together at).1

  pub removed-is : without k rs ≡ give_up (is_binding i) rs
  removed-is = sym (give-up (is_binding i) rs ∙ only_kept (is_binding i) theirs)

  pub extended-is : (now : Moment) (v : Lifetime) → changed (longer now v) k rs ≡ extend i now v rs
  unfolding extend
  extended-is now v = sym (only-touched (is_binding i) (longer now v) theirs)

-- ---------------------------------------------------------------- a sound array

pub record Held (b : List ℕ) : Type 0 where
  pub sound : Sound (table_of b)
  pub is : table_bytes (table_of b) ≡ b
  pub size : length b ≡ table_size
  pub count : count_of b ≡ length (table_of b).records
  pub few : count_of b ≤ 256

pub held : (b : List ℕ) → sound_bytes b ≡ true → Held b
unfolding table_of
held b h =
    let p = sound-bytes b h in
    let c : count_of b ≡ length (from (record_at b) 0 (count_of b)) = sym (from-length (record_at b) (count_of b) 0) in
    record { sound = p.0; is = p.1; size = sym (ap length p.1) ∙ table-length (table_of b) p.0; count = c; few = omega (arith, p.0.few) }

-- the array that is left when the ended records are dropped
pub tidied-held : (b c : List ℕ) (now : Moment) → sound_bytes b ≡ true → now < 2 ^ 48 → c ≡ table_bytes (tidied now (table_of b))
    → (sound_bytes c ≡ true) × (table_of c ≡ tidied now (table_of b))
tidied-held b c now h soon e = represented (tidied now (table_of b)) (tidied-sound (table_of b) (held b h).sound now soon) e

module _ (b : List ℕ) (h : sound_bytes b ≡ true) (i : Identity) (k : ℕ) (at : first_place (is_binding i) (table_of b).records 0 ≡ Some k) where
  pub removed-there : on_records (without k) (table_of b) ≡ on_records (give_up (is_binding i)) (table_of b)
  removed-there = ap (λ rs. on_records (λ _. rs) (table_of b)) (removed-is i (table_of b).records k (held b h).sound.together at)

  -- by the end that is read at the record's place
  pub extended-there : (now : Moment) (v : Lifetime) (e : Moment) → e ≡ extended (num_at b (place k + 15) 8) now v
      → on_records (changed (ending e) k) (table_of b) ≡ on_records (extend i now v) (table_of b)
  unfolding table_of record_of
  extended-there now v e q =
      let r = record_at b (0 + k) in
      let w : r.end ≡ num_at b (place k + 15) 8 = rw zero-add (ap (λ x. num x % 2 ^ (8 * 8)) (part-part 15 8 (place k) record_size b (omega arith))) in
      ap (λ rs. on_records (λ _. rs) (table_of b))
      (changed-same (ending e) (longer now v) (record_at b) (count_of b) 0 k (ap (λ x. ending x r) (q ∙ ap (λ x. extended x now v) (sym w)))
      ∙ extended-is i (table_of b).records k (held b h).sound.together at now v)
