-- A message that is printed is well formed and reads back as what it was, whatever the numbers of its options.
--   FineListed, FineIa, Fine   what an IA Prefix, an IA_PD, a message must be for that
--   -items, -bytes             the options of a level; of these, the contents of a code
--   -well                      what stands printed is good
--   -found                     what is read where something stands printed is what was printed
--   -length                    how long what is printed is
use Rattle.std.specs.Prelude.{◌≡◌, Bool, true, false, cond, eqb, leb, ltb, length, get_or, Option, None, Some, Ok, is_ok}
use Rattle.std.proofs.Math.Path.{refl, ap}
use Rattle.std.proofs.Common.{sym, ◌∙◌, arith, length-append}
use mathlib.Core.List.{List, [], ◌∷◌, ◌++◌, map, append-nil, map-id}
use Prim.Native.Nat.{ℕ, ◌+◌, ◌-◌, ◌^◌, ◌≤◌, ◌<◌}
use borrow.Author.Tests.{le-leb, lt-ltb, leb-true, ltb-true}
use Rattle.rules.specs.Words.{any, be, be16, num_at}
use Rattle.rules.specs.Prefix.{Prefix, prefix, fits, bytes_for, packed, exclude_bytes, encodable, unpacked, lease_encodable}
use Rattle.rules.specs.Options.{area_of, scan, wants, exclude_ok, in_prefix, check_prefix, in_pd, check_pd, in_top, own, check, options, nth, content, Item, item, printed, spot, Checked}
use Rattle.rules.specs.Message.{Listed, Ia, Message, status_at, except_at, listed_at, ia_at, codes, asks67, top, read, well_formed, name_of, status_item, except_items, listed_bytes, listed_item, ia_bytes, asks_items, items, print}
use Rattle.rules.specs.declared.Spot.{Spot}
use Rattle.laws.specs.Tests.{both}
use Rattle.laws.specs.Numbers.{length-be}
use Rattle.laws.specs.Every.{Every, every, every-weaker}
use Rattle.laws.specs.Exclude.{packed_lt, packed-content, num-packed, unpacked-packed}
use Rattle.laws.specs.Stands.{Stands, stands-all, stands-tail, stands-part, stands-byte, stands-u16, stands-num, stands_after, placed, area_of_lem, bytes_of, bytes-map, bytes-block, Match, match, match-values, Well, WellAt, well, well-append, well-map}

-- ---------------------------------------------------------------- what must hold

pub record FineListed (x : Listed) : Type 0 where
  pub preferred : x.preferred < 2 ^ 32
  pub valid : x.valid < 2 ^ 32
  pub encodes : lease_encodable x.lease.prefix x.lease.except ≡ true

pub record FineIa (i : Ia) : Type 0 where
  pub iaid : i.iaid < 2 ^ 32
  pub t1 : i.t1 < 2 ^ 32
  pub t2 : i.t2 < 2 ^ 32
  pub listed : Every FineListed i.listed

-- nothing of the kind, of the DUIDs, of the statuses, nor of how many there are of anything
pub record Fine (v : Message) : Type 0 where
  pub number : v.number < 2 ^ 24
  pub ias : Every FineIa v.ias

pub lease-fits : (p : Prefix) (o : Option Prefix) → lease_encodable p o ≡ true → fits p ≡ true
lease-fits p None h = h
lease-fits p (Some e) h = (both (fits p) (encodable p e) h).0

pub listed-fits : (x : Listed) → FineListed x → (x.lease.prefix.length ≤ 128) × (x.lease.prefix.bits < 2 ^ 128)
listed-fits x f =
    let p = x.lease.prefix in
    let h = both (leb p.length 128) (ltb p.bits (2 ^ 128)) (lease-fits p x.lease.except f.encodes) in
    (leb-true _ _ h.0, ltb-true _ _ h.1)

-- ---------------------------------------------------------------- contents as they are, and Status Codes

contents-found : (m : List ℕ) (l : List (List ℕ)) (fs : List (Option Spot)) → Match m fs (map (λ c. c) l ++ []) → map (content m) fs ≡ l
contents-found m l fs h = match-values m (λ c. c) (content m) l (every (λ c p s t. stands-part t refl) l) fs (rw append-nil at h)

abbrev pub status_bytes : ℕ → List ℕ
status_bytes k = be16 k ++ name_of k

pub status-good : (k p : ℕ) → wants (leb 2 (length (status_bytes k))) p ≡ Ok tt
status-good k p = rw (le-leb 2 (length (status_bytes k)) (omega arith))

-- at every level
statuses-well : (m : List ℕ) (own : ℕ → ℕ → ℕ → ℕ → ℕ → Checked) → ((k p s n : ℕ) → own k p 13 s n ≡ wants (leb 2 n) p)
    → (l : List ℕ) (k : ℕ) → Well m own k (map status_item l)
statuses-well m own e l k = well-map m status_bytes own 13 k l (every (λ x j p q t. e j p q (length (status_bytes x)) ∙ status-good x p) l)

statuses-found : (m : List ℕ) (l : List ℕ) (fs : List (Option Spot)) → Match m fs (map status_bytes l) → map (status_at m) fs ≡ l
statuses-found m l fs h = match-values m status_bytes (status_at m) l (every (λ k p s t. stands-u16 k t) l) fs h

-- ---------------------------------------------------------------- PD Exclude

pub exclude-length : (a : ℕ) (e : Prefix) → length (exclude_bytes a e) ≡ 1 + bytes_for a e.length
unfolding exclude_bytes
exclude-length a e = omega (arith, length-be (bytes_for a e.length) (packed a e))

module _ {m : List ℕ} {q : ℕ} (p e : Prefix) (i : encodable p e ≡ true) (h : Stands m q (exclude_bytes p.length e)) where
  -- the excluded length, and the packed bits after it
  exclude-0 : get_or m q 0 ≡ e.length
  unfolding exclude_bytes
  exclude-0 = stands-byte h

  exclude-1 : Stands m (q + 1) (be (bytes_for p.length e.length) (packed p.length e))
  unfolding exclude_bytes
  exclude-1 = stands-tail (e.length ∷ []) _ h refl

  exclude-rest : length (exclude_bytes p.length e) - 1 ≡ bytes_for p.length e.length
  exclude-rest = omega (arith, exclude-length p.length e)

  pub exclude-well : exclude_ok m p.length q (length (exclude_bytes p.length e)) ≡ true
  exclude-well =
      rw (
        lt-ltb 0 (length (exclude_bytes p.length e)) (omega (arith, exclude-length p.length e)),
        exclude-0,
        exclude-rest,
        stands-part exclude-1 (sym (length-be (bytes_for p.length e.length) (packed p.length e))),
      ) (packed-content p e i)

  pub exclude-found : unpacked p (get_or m q 0) (num_at m (q + 1) (length (exclude_bytes p.length e) - 1)) ≡ e
  exclude-found =
      let t : Stands m (q + 1) (be (bytes_for p.length e.length) (packed p.length e) ++ []) = rw append-nil exclude-1 in
      rw (exclude-0, exclude-rest, stands-num _ _ [] t (packed_lt p.length e), ← num-packed p.length e) (unpacked-packed p e i)

except-well : (m : List ℕ) (p : Prefix) (o : Option Prefix) → lease_encodable p o ≡ true → Well m (in_prefix m p.length) 0 (except_items p.length o)
except-well m p None f = tt
except-well m p (Some e) f = ((λ r q h. rw (exclude-well p e (both (fits p) (encodable p e) f).1 h)), tt)

abbrev except_bytes : ℕ → Option Prefix → List (List ℕ)
except_bytes a None = []
except_bytes a (Some e) = exclude_bytes a e ∷ []

except-items : (a : ℕ) (o : Option Prefix) → except_items a o ≡ map (item 67) (except_bytes a o)
except-items a None = refl
except-items a (Some e) = refl

except-found : (m : List ℕ) (p : Prefix) (o : Option Prefix) → lease_encodable p o ≡ true
    → (fs : List (Option Spot)) → Match m fs (except_bytes p.length o) → except_at m p (get_or fs 0 None) ≡ o
except-found m p None f [] h = refl
except-found m p None f (x ∷ fs) h = absurd h
except-found m p (Some e) f [] h = absurd h
except-found m p (Some e) f (None ∷ fs) h = absurd h.0
except-found m p (Some e) f (Some o ∷ fs) h = rw h.0.1 (ap Some (exclude-found p e (both (fits p) (encodable p e) f).1 h.0.0))

-- ---------------------------------------------------------------- an IA Prefix

unfoldable pub listed_items : Listed → List Item
listed_items x = except_items x.lease.prefix.length x.lease.except ++ map status_item x.statuses

listed-bytes : (w : ℕ) (x : Listed)
    → bytes_of w (listed_items x)
    ≡ cond (eqb 67 w) (map (λ c. c) (except_bytes x.lease.prefix.length x.lease.except)) [] ++ cond (eqb 13 w) (map status_bytes x.statuses) []
unfolding listed_items
listed-bytes w x =
    let a = x.lease.prefix.length in
    let o = x.lease.except in
    rw (except-items a o, bytes-block w 67 (λ c. c) (except_bytes a o) (map status_item x.statuses), bytes-map w 13 status_bytes x.statuses)

pub listed-length : (x : Listed) → length (listed_bytes x) ≡ 25 + length (printed (listed_items x))
unfolding listed_bytes listed_items
listed-length x = simp (length-append, length-be) (omega arith)

module _ {m : List ℕ} {s : ℕ} (x : Listed) (f : FineListed x) (h : Stands m s (listed_bytes x)) where
  -- what stands after 4, 8, 9 and 25 bytes of it
  listed-4 : Stands m (s + 4) (be 4 x.valid ++ (x.lease.prefix.length ∷ (be 16 x.lease.prefix.bits ++ printed (listed_items x))))
  unfolding listed_bytes listed_items
  listed-4 = stands_after 4 x.preferred _ h refl

  listed-8 : Stands m (s + 8) (x.lease.prefix.length ∷ (be 16 x.lease.prefix.bits ++ printed (listed_items x)))
  listed-8 = stands_after 4 x.valid _ listed-4 (omega arith)

  listed-9 : Stands m (s + 9) (be 16 x.lease.prefix.bits ++ printed (listed_items x))
  listed-9 = stands-tail (x.lease.prefix.length ∷ []) _ listed-8 (omega arith)

  listed-25 : Stands m (s + 25) (printed (listed_items x))
  listed-25 = stands_after 16 x.lease.prefix.bits _ listed-9 (omega arith)

  listed-area : area_of m (s + 25) (s + length (listed_bytes x)) ≡ placed (s + 25) (listed_items x)
  listed-area = area_of_lem (listed_items x) listed-25 (omega (arith, listed-length x))

  listed-items-well : Well m (in_prefix m x.lease.prefix.length) 0 (listed_items x)
  unfolding listed_items
  listed-items-well =
      well-append m (in_prefix m x.lease.prefix.length) 0 (except_items x.lease.prefix.length x.lease.except) (map status_item x.statuses)
      (except-well m x.lease.prefix x.lease.except f.encodes) (statuses-well m (in_prefix m x.lease.prefix.length) (λ k p q n. refl) x.statuses)

  pub listed-well : (k p : ℕ) → in_pd m k p 26 s (length (listed_bytes x)) ≡ Ok tt
  unfolding check_prefix
  listed-well k p =
      rw (
        stands-byte listed-8,
        le-leb 25 (length (listed_bytes x)) (omega (arith, listed-length x)),
        le-leb x.lease.prefix.length 128 (listed-fits x f).0,
        listed-area,
      )
      (well (in_prefix m x.lease.prefix.length) 0 (listed_items x) listed-items-well listed-25)

  pub listed_found : (p : ℕ) → listed_at m (Some (spot p s (length (listed_bytes x)))) ≡ x
  unfolding listed_at listed_bytes
  listed_found p =
      let os = placed (s + 25) (listed_items x) in
      let e : except_at m (prefix x.lease.prefix.bits x.lease.prefix.length) (nth 67 0 os) ≡ x.lease.except =
      except-found m x.lease.prefix x.lease.except f.encodes (options 67 os)
      (rw (listed-bytes 67 x, append-nil, map-id) at (match 67 (listed_items x) listed-25)) in
      let t = statuses-found m x.statuses (options 13 os) (rw (listed-bytes 13 x) at (match 13 (listed_items x) listed-25)) in
      simp (
        stands-num 4 x.preferred _ h f.preferred,
        stands-num 4 x.valid _ listed-4 f.valid,
        stands-byte listed-8,
        stands-num 16 x.lease.prefix.bits _ listed-9 (listed-fits x f).1,
        listed-area,
        e,
        t,
      )

-- ---------------------------------------------------------------- an IA_PD

unfoldable pub ia_items : Ia → List Item
ia_items i = map listed_item i.listed ++ map status_item i.statuses

ia-bytes : (w : ℕ) (i : Ia)
    → bytes_of w (ia_items i) ≡ cond (eqb 26 w) (map listed_bytes i.listed) [] ++ cond (eqb 13 w) (map status_bytes i.statuses) []
unfolding ia_items
ia-bytes w i = rw (bytes-block w 26 listed_bytes i.listed (map status_item i.statuses), bytes-map w 13 status_bytes i.statuses)

pub ia-length : (i : Ia) → length (ia_bytes i) ≡ 12 + length (printed (ia_items i))
unfolding ia_bytes ia_items
ia-length i = simp (length-append, length-be) (omega arith)

module _ {m : List ℕ} {s : ℕ} (i : Ia) (f : FineIa i) (h : Stands m s (ia_bytes i)) where
  -- what stands after 4, 8 and 12 bytes of it
  ia-4 : Stands m (s + 4) (be 4 i.t1 ++ (be 4 i.t2 ++ printed (ia_items i)))
  unfolding ia_bytes ia_items
  ia-4 = stands_after 4 i.iaid _ h refl

  ia-8 : Stands m (s + 8) (be 4 i.t2 ++ printed (ia_items i))
  ia-8 = stands_after 4 i.t1 _ ia-4 (omega arith)

  ia-12 : Stands m (s + 12) (printed (ia_items i))
  ia-12 = stands_after 4 i.t2 _ ia-8 (omega arith)

  ia-area : area_of m (s + 12) (s + length (ia_bytes i)) ≡ placed (s + 12) (ia_items i)
  ia-area = area_of_lem (ia_items i) ia-12 (omega (arith, ia-length i))

  ia-items-well : Well m (in_pd m) 0 (ia_items i)
  unfolding ia_items
  ia-items-well =
      well-append m (in_pd m) 0 (map listed_item i.listed) (map status_item i.statuses)
      (well-map m listed_bytes (in_pd m) 26 0 i.listed (every-weaker (λ x g k p q t. listed-well x g t k p) i.listed f.listed))
      (statuses-well m (in_pd m) (λ k p q n. refl) i.statuses)

  pub ia-well : (k p : ℕ) → in_top m k p 25 s (length (ia_bytes i)) ≡ Ok tt
  unfolding check_pd
  ia-well k p = rw (le-leb 12 (length (ia_bytes i)) (omega (arith, ia-length i)), ia-area) (well (in_pd m) 0 (ia_items i) ia-items-well ia-12)

  pub ia-found : (p : ℕ) → ia_at m (Some (spot p s (length (ia_bytes i)))) ≡ i
  unfolding ia_at ia_bytes
  ia-found p =
      let os = placed (s + 12) (ia_items i) in
      let l = match-values m listed_bytes (listed_at m) i.listed (every-weaker (λ x g p q t. listed_found x g t p) i.listed f.listed)
      (options 26 os) (rw (ia-bytes 26 i, append-nil) at (match 26 (ia_items i) ia-12)) in
      let t = statuses-found m i.statuses (options 13 os) (rw (ia-bytes 13 i) at (match 13 (ia_items i) ia-12)) in
      simp (stands-num 4 i.iaid _ h f.iaid, stands-num 4 i.t1 _ ia-4 f.t1, stands-num 4 i.t2 _ ia-8 f.t2, ia-area, l, t)

-- ---------------------------------------------------------------- a message

abbrev asks_bytes : Bool → List (List ℕ)
asks_bytes true = be16 67 ∷ []
asks_bytes false = []

asks-items : (b : Bool) → asks_items b ≡ map (item 6) (asks_bytes b)
asks-items true = refl
asks-items false = refl

asks-well : (m : List ℕ) (b : Bool) → Every (λ c. (k : ℕ) → WellAt m (in_top m) k (item 6 c)) (asks_bytes b)
asks-well m true = ((λ k p q t. refl), tt)
asks-well m false = tt

asks-found : (b : Bool) → any asks67 (asks_bytes b) ≡ b
unfolding codes
asks-found true = refl
asks-found false = refl

module _ (v : Message) where
  items-bytes : (w : ℕ)
      → bytes_of w (items v)
      ≡ cond (eqb 1 w) (map (λ c. c) v.clients) [] ++ (cond (eqb 2 w) (map (λ c. c) v.servers) []
      ++ (cond (eqb 6 w) (map (λ c. c) (asks_bytes v.asks)) [] ++ (cond (eqb 13 w) (map status_bytes v.statuses) []
      ++ cond (eqb 25 w) (map ia_bytes v.ias) [])))
  unfolding items
  items-bytes w =
      rw (
        asks-items v.asks,
        bytes-block w 1 (λ c. c) v.clients _,
        bytes-block w 2 (λ c. c) v.servers _,
        bytes-block w 6 (λ c. c) (asks_bytes v.asks) _,
        bytes-block w 13 status_bytes v.statuses _,
        bytes-map w 25 ia_bytes v.ias,
      )

  items-well : (m : List ℕ) → Every FineIa v.ias → Well m (in_top m) 0 (items v)
  unfolding items
  items-well m f =
      rw (asks-items v.asks)
      (well-append m judge 0 (map (item 1) v.clients) _ (well-map m (λ c. c) judge 1 0 v.clients (every (λ c k p q t. refl) v.clients))
      (λ j. well-append m judge j (map (item 2) v.servers) _ (well-map m (λ c. c) judge 2 j v.servers (every (λ c k p q t. refl) v.servers))
      (λ j. well-append m judge j (map (item 6) (asks_bytes v.asks)) _ (well-map m (λ c. c) judge 6 j (asks_bytes v.asks) (asks-well m v.asks))
      (λ j. well-append m judge j (map status_item v.statuses) _ (statuses-well m judge (λ k p q n. refl) v.statuses j)
      (λ j. well-map m ia_bytes judge 25 j v.ias (every-weaker (λ i g k p q t. ia-well i g t k p) v.ias f))))))
    where
      judge : ℕ → ℕ → ℕ → ℕ → ℕ → Checked
      judge = in_top m

  pub print-length : length (print v) ≡ 4 + length (printed (items v))
  unfolding print
  print-length = simp (length-append, length-be) (omega arith)

  -- the kind, and what stands after 1 and 4 bytes
  print-0 : get_or (print v) 0 0 ≡ v.kind
  unfolding print
  print-0 = refl

  print-1 : Stands (print v) 1 (be 3 v.number ++ printed (items v))
  unfolding print
  print-1 = stands-tail (v.kind ∷ []) (be 3 v.number ++ printed (items v)) (stands-all (print v)) refl

  pub print-4 : Stands (print v) 4 (printed (items v))
  print-4 = stands_after 3 v.number (printed (items v)) print-1 refl

  pub print-top : top (print v) ≡ placed 4 (items v)
  unfolding top
  print-top = area_of_lem (items v) print-4 print-length

  pub print-well : Fine v → well_formed (print v) ≡ true
  unfolding well_formed check own top
  print-well f = ap is_ok (ap (scan (in_top (print v)) 0) print-top ∙ well (in_top (print v)) 0 (items v) (items-well (print v) f.ias) print-4)

  pub print-read : Fine v → read (print v) ≡ v
  unfolding read
  print-read f =
      let m = print v in
      let fs : ℕ → List (Option Spot) = λ w. options w (placed 4 (items v)) in
      let h : (w : ℕ) → Match m (fs w) (bytes_of w (items v)) = λ w. match w (items v) print-4 in
      let i = match-values m ia_bytes (ia_at m) v.ias (every-weaker (λ i g p q t. ia-found i g t p) v.ias f.ias)
      (fs 25) (rw (items-bytes 25) at (h 25)) in
      simp (
        print-0,
        stands-num 3 v.number _ print-1 f.number,
        print-top,
        contents-found m v.clients (fs 1) (rw (items-bytes 1) at (h 1)),
        contents-found m v.servers (fs 2) (rw (items-bytes 2) at (h 2)),
        contents-found m (asks_bytes v.asks) (fs 6) (rw (items-bytes 6) at (h 6)),
        asks-found v.asks,
        statuses-found m v.statuses (fs 13) (rw (items-bytes 13, append-nil) at (h 13)),
        i,
      )
