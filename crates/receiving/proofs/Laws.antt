-- Receiving: the tests as code makes them, the prefix that is taken, and the state that is left.
use mathlib.Core.Path.{◌≡◌, refl, sym, ap, ◌∙◌}
use mathlib.Core.Bool.{Bool, true, false, cond, not, ◌&&◌, ◌||◌}
use mathlib.Core.List.{List, [], ◌∷◌, map}
use Rattle.std.specs.Prelude.{Option, None, Some, Result, Err, Ok}
use Prim.Native.Nat.{ℕ, suc, ◌+◌, ◌*◌, ◌^◌, ◌≤◌, ◌<◌}
use native.Mathlib.Omega.{arith}
use Rattle.std.proofs.Common.{lit<}
use Rattle.rules.specs.RouterBytes.{sound_router_bytes, held_bytes, router_bytes, router_of}
use borrow.Author.Tests.{ne_eqb, eq-eqb, eqb-true, leb-true, le-leb, not-true, not-false}
use lib.Dec.{eqb, leb, ltb}
use lib.ListN.{length, get_or, replicate, length-map, get_or-map}
use Rattle.rules.specs.Words.{all, first, splice, num, num_at}
use Rattle.rules.specs.Refusals.{Res, refuse, done, number_of, unless, bad_time}
use Rattle.rules.specs.Prefix.{prefix, front, zero_after, fits, encodable, lease_encodable}
use Rattle.rules.specs.Options.{area_of, in_pd, options, content, spot}
use Rattle.rules.specs.Clock.{plus}
use Rattle.rules.specs.Message.{Listed, listed_at, ia_at, top, read}
use Rattle.rules.specs.Identity.{Duid, good_duid, kind_of, type_of, is_release, stands}
use Rattle.rules.specs.Box.{ia_of}
use Rattle.rules.specs.Router.{Hold, Router, good_ia, good_ias, awaited, takes, held_until, taken, held_after, server_after, closed, accept, open_of, router_receive}
use Rattle.rules.specs.Lent.{Ended, ended, settle, no_text, router_received}
use Rattle.rules.specs.declared.Kind.{Kind}
use Rattle.rules.specs.declared.Kind.TheVariants.{Solicit, Request, Renew, Rebind, Release}
use Rattle.rules.specs.declared.Refusal.{Refusal}
use Rattle.rules.specs.declared.Refusal.TheVariants.{Time, Room, Size, Unserved, Malformed, Identity, Delegation, Silence, Unsound, Settings, Busy, Early, State, Unawaited}
use Rattle.rules.specs.declared.Spot.{Spot}
use Rattle.laws.specs.Tests.{both, neither, false-true}
use Rattle.laws.specs.Refusals.{none-applies, number-refused, refused_by, unless-made}
use Rattle.laws.specs.Every.{Every}
use Rattle.laws.specs.Kinds.{one-stands}
use Rattle.laws.specs.Formed.{PdFormed, PrefixFormed, formed-prefix, listed-place}
use Rattle.laws.specs.Told.{listed-fine}
use Rattle.laws.specs.RouterFields.{sound-facts}
use Rattle.laws.specs.RouterRepresent.{lent_length, router-sound-bytes}
use Rattle.laws.specs.RouterChange.{server_given, hold_given, release-type}
use Rattle.values.specs.Values.{except_of, lease_of, lease_encodes, listed_of}
use Rattle.values.specs.declared.IaPrefix.{IaPrefix}
use Rattle.heard.specs.Heard.{only_of}
use Rattle.heard.specs.Facts.{only_at, only-inside, only-nothing}
use Rattle.state.specs.Judged.{by_state}
use Rattle.state.specs.Facts.{state-here, state-later, state-sound, router-once}
use Rattle.awaited.specs.Facts.{Awaited, awaited-facts, exchange-is, open_as, kind-type}
use Rattle.wire.proofs.Spots.{options-there}
use Rattle.wire.specs.Found.{Within}
use Rattle.wire.specs.Spots.{there}
use Rattle.std.specs.List.{find}
use Rattle.receiving.specs.Received.{awaited_tests, tests, judged, Accepted, first_found, taken_in, server_told}

-- ---------------------------------------------------------------- 9, 1, 14

number-above : (f : Refusal) → 0 < number_of f
number-above Time = lit< tt
number-above Room = lit< tt
number-above Size = lit< tt
number-above Unserved = lit< tt
number-above Malformed = lit< tt
number-above Identity = lit< tt
number-above Delegation = lit< tt
number-above Silence = lit< tt
number-above Unsound = lit< tt
number-above Settings = lit< tt
number-above Busy = lit< tt
number-above Early = lit< tt
number-above State = lit< tt
number-above Unawaited = lit< tt

refused-above : {A : Type 0} {r : Result A Refusal} {f : Refusal} → r ≡ Err f → refused_by r ≡ 0 → ⊥
refused-above {f = f} h z = let n : number_of f ≡ 0 = sym (ap refused_by h) ∙ z in omega (arith, number-above f)

module _ (b m : List ℕ) (now : ℕ) {r : Result (Unit {0}) Refusal} (e : refused_by r ≡ by_state b now) where
  pub judged-state : {f : Refusal} → r ≡ Err f → number_of f ≡ judged b now m
  unfolding judged
  judged-state h = sym (ap refused_by h) ∙ state-here b now e (awaited_tests b m) (refused-above h)

  module _ {u : Unit {0}} (h : r ≡ Ok u) where
    pub judged-sound : sound_router_bytes b ≡ true
    judged-sound = state-sound b now e (ap refused_by h)

    pub judged-awaited : {y : Bool} → y ≡ awaited (router_of b) m (read m) (router_of b).exchange → {k : ℕ} → cond (not y) 14 0 ≡ k → k ≡ judged b now m
    unfolding judged
    judged-awaited aw q = sym (state-later b now e (ap refused_by h) (awaited_tests b m) ∙ ap (λ t. cond (not t) 14 0) (sym aw) ∙ q)

-- ---------------------------------------------------------------- the first prefix that is taken

pub takes-read : (x : IaPrefix) {z : Bool} → z ≡ zero_after (prefix (num x.bits) x.length) → ltb 0 x.valid && leb x.preferred x.valid && z ≡ takes (listed_of x [])
unfolding listed_of lease_of
takes-read x e = rw e

pub taken-read : (m : List ℕ) (p : Spot) (x : IaPrefix) {r : Bool} → listed_of x (listed_at m (Some (spot 0 p.start p.len))).statuses ≡ listed_at m (Some (spot 0 p.start p.len))
    → r ≡ takes (listed_of x []) → r ≡ takes (listed_at m (Some p))
unfolding listed_of
taken-read m p x q g = g ∙ ap takes (q ∙ sym (listed-place m p.place p.start p.len))

first-some : (f : Option Spot → Bool) (l : List Spot) → first_found f (map Some l) ≡ find (λ p. f (Some p)) l
first-some f [] = refl
first-some f (x ∷ l) = rw (first-some f l)

-- the first of those that the iterator gives
pub found-first : (m : List ℕ) (s n : ℕ) → find (λ p. takes (listed_at m (Some p))) (there (options 26 (area_of m (s + 12) (s + n)))) ≡ taken_in m s n
unfolding taken_in
found-first m s n =
    let a = area_of m (s + 12) (s + n) in
    sym (ap (first_found (λ f. takes (listed_at m f))) (options-there 26 a) ∙ first-some (λ f. takes (listed_at m f)) (there (options 26 a)))

-- what is found stands in the list
first-at : (f : Option Spot → Bool) (l : List (Option Spot)) {p s n : ℕ} → first_found f l ≡ Some (spot p s n) → (k : ℕ) × (get_or l k None ≡ Some (spot p s n))
first-at f [] h = let z : ◌≡◌ {A = ℕ} 0 1 = cc in absurd (omega arith)
first-at f (x ∷ l) {p} {s} {n} h = by (f x) h (first-at f l)
  where
    by : (b : Bool) → cond b x (first_found f l) ≡ Some (spot p s n) → (first_found f l ≡ Some (spot p s n) → (k : ℕ) × (get_or l k None ≡ Some (spot p s n))) → (k : ℕ) × (get_or (x ∷ l) k None ≡ Some (spot p s n))
    by true h ih = (0, h)
    by false h ih = let r = ih h in (suc r.0, r.1)

-- what was found, as it is read
abbrev taken_as : List ℕ → Option Spot → Option Listed
taken_as m (Some o) = Some (listed_at m (Some o))
taken_as m None = None

first-as : (m : List ℕ) (l : List (Option Spot)) → first takes (map (listed_at m) l) ≡ taken_as m (first_found (λ f. takes (listed_at m f)) l)
unfolding listed_at
first-as m [] = refl
first-as m (x ∷ l) = by x (takes (listed_at m x)) refl (first-as m l)
  where
    by : (x : Option Spot) (b : Bool) → takes (listed_at m x) ≡ b → first takes (map (listed_at m) l) ≡ taken_as m (first_found (λ f. takes (listed_at m f)) l)
        → cond b (Some (listed_at m x)) (first takes (map (listed_at m) l)) ≡ taken_as m (cond b x (first_found (λ f. takes (listed_at m f)) l))
    by x false q ih = ih
    by (Some o) true q ih = refl
    by None true q ih = absurd (false-true q)

-- ---------------------------------------------------------------- its hold

-- the lengths of a prefix with an encoding fit a byte
pub encodes-small : (x : IaPrefix) → lease_encodes x ≡ true → (x.length ≤ 128) × (x.cut ≤ 128)
unfolding lease_of except_of encodable
encodes-small x h = by (eqb x.cut 0) refl h
  where
    short : fits (prefix (num x.bits) x.length) ≡ true → x.length ≤ 128
    short f = leb-true x.length 128 (both (leb x.length 128) (ltb (num x.bits) (2 ^ 128)) f).0

    by : (t : Bool) → eqb x.cut 0 ≡ t → lease_encodable (prefix (num x.bits) x.length) (cond t None (Some (prefix (num x.out) x.cut))) ≡ true
        → (x.length ≤ 128) × (x.cut ≤ 128)
    by true e h = let z = eqb-true x.cut 0 e in (short h, omega arith)
    by false e h =
        let p = prefix (num x.bits) x.length in
        let o = prefix (num x.out) x.cut in
        let a = both (fits p) (encodable p o) h in
        let c = both _ (zero_after o) a.1 in
        let d = both _ (eqb (front (num x.out) x.length) (front (num x.bits) x.length)) c.0 in
        (short a.0, leb-true x.cut 128 (both (ltb x.length x.cut) (leb x.cut 128) d.0).1)

module _ (x : IaPrefix) (began now : ℕ) {e : ℕ} {a : Bool} (ee : e ≡ plus began x.valid) (ea : a ≡ ltb now e) where
  pub hold-none : not a ≡ true → replicate 43 0 ≡ held_bytes (held_until now (lease_of x) (plus began x.valid))
  hold-none h = rw (← ee, ← ea, not-true a h)

  pub hold-some : {r : List ℕ} → not a ≡ false → r ≡ held_bytes (Some (hold_given (num x.bits) x.length (num x.out) x.cut e))
      → r ≡ held_bytes (held_until now (lease_of x) (plus began x.valid))
  unfolding lease_of except_of
  hold-some h q = rw (← ee, ← ea, not-false a h) q

-- an IA Prefix that can be read has an encoding
pub prefix-encodes : (m : List ℕ) {s n : ℕ} → PrefixFormed m s n → (x : IaPrefix) → listed_of x (listed_at m (Some (spot 0 s n))).statuses ≡ listed_at m (Some (spot 0 s n)) → lease_encodes x ≡ true
unfolding listed_of
prefix-encodes m {s} {n} f x q =
    let l : lease_of x ≡ (listed_at m (Some (spot 0 s n))).lease = ap (λ y. y.lease) q in
    let g : in_pd m 0 0 26 s n ≡ Ok tt = rw (le-leb 25 n f.long, le-leb (get_or m (s + 8) 0) 128 f.short) f.inner in
    ap (λ y. lease_encodable y.prefix y.except) l ∙ (listed-fine m (length m) (omega arith) (Some (spot 0 s n)) (f.within, 0, g)).encodes

module _ (m : List ℕ) (o : Spot) (began now : ℕ) where
  abbrev gives : Option Hold
  gives = taken now began (first takes (ia_at m (Some o)).listed)

  first_taken : first takes (ia_at m (Some o)).listed ≡ taken_as m (taken_in m o.start o.len)
  unfolding ia_at taken_in
  first_taken = first-as m (options 26 (area_of m (o.start + 12) (o.start + o.len)))

  pub taken-formed : PdFormed m o.start o.len → {p t l : ℕ} → taken_in m o.start o.len ≡ Some (spot p t l) → PrefixFormed m t l
  unfolding taken_in
  taken-formed h e = let r = first-at (λ f. takes (listed_at m f)) (options 26 (area_of m (o.start + 12) (o.start + o.len))) e in formed-prefix m o.start o.len h r.0 r.1

  pub taken-some : {p t l : ℕ} {r : List ℕ} (x : IaPrefix) → taken_in m o.start o.len ≡ Some (spot p t l) → listed_of x (listed_at m (Some (spot 0 t l))).statuses ≡ listed_at m (Some (spot 0 t l))
      → r ≡ held_bytes (held_until now (lease_of x) (plus began x.valid)) → r ≡ held_bytes gives
  unfolding listed_of
  taken-some {p} {t} {l} x e q g =
      let y : Some (listed_of x (listed_at m (Some (spot 0 t l))).statuses) ≡ first takes (ia_at m (Some o)).listed =
      ap Some (q ∙ sym (listed-place m p t l)) ∙ sym (first_taken ∙ ap (taken_as m) e) in
      g ∙ ap (λ o. held_bytes (taken now began o)) y

  pub taken_none : taken_in m o.start o.len ≡ None → replicate 43 0 ≡ held_bytes gives
  taken_none e = sym (ap (λ o. held_bytes (taken now began o)) (first_taken ∙ ap (taken_as m) e))

-- ---------------------------------------------------------------- what is held afterwards

held-type : (d : Kind) (r : Router) (now : ℕ) (x : Option Listed) → held_after d r now x ≡ cond (eqb (type_of d) 1 || eqb (type_of d) 8) r.held (taken now r.began x)
held-type Solicit r now x = refl
held-type Request r now x = refl
held-type Renew r now x = refl
held-type Rebind r now x = refl
held-type Release r now x = refl

server-type : (d : Kind) (r : Router) (s : Option Duid) → server_after d r s ≡ cond (eqb (type_of d) 1 || eqb (type_of d) 6) s r.server
server-type Solicit r s = refl
server-type Request r s = refl
server-type Renew r s = refl
server-type Rebind r s = refl
server-type Release r s = refl

module _ {b m : List ℕ} {k : ℕ} (a : Accepted b m k) where
  pub facts : Awaited b m k
  facts = awaited-facts b m a.kind a.awaits

  type-is : k ≡ type_of (kind_of k)
  type-is = kind-type b a.sound a.kind facts.pending

  pub began-small : {e : ℕ} → e ≡ num_at b 16 8 → e < 2 ^ 48
  unfolding router_of
  began-small e = let f = sound-facts (router_of b) (router-sound-bytes b a.sound).0 in omega (arith, f.began-last, f.time)

  module _ (now : ℕ) where
    abbrev left : Option Hold
    left = held_after (kind_of k) (router_of b) now (first takes (ia_of (read m)).listed)

    left_is : left ≡ cond (eqb k 1 || eqb k 8) (router_of b).held (taken now (router_of b).began (first takes (ia_of (read m)).listed))
    left_is = held-type (kind_of k) (router_of b) now _ ∙ ap (λ j. cond (eqb j 1 || eqb j 8) (router_of b).held (taken now (router_of b).began (first takes (ia_of (read m)).listed))) (sym type-is)

    pub held_kept : {h : List ℕ} → eqb k 1 || eqb k 8 ≡ true → h ≡ held_bytes (router_of b).held → h ≡ held_bytes left
    held_kept t q = let l : left ≡ (router_of b).held = left_is ∙ rw t in q ∙ ap held_bytes (sym l)

    module _ (t : eqb k 1 || eqb k 8 ≡ false) where
      pub held-taken : {h : List ℕ} {e : ℕ} (o : Spot) → e ≡ num_at b 16 8 → only_of 25 m ≡ Some o → h ≡ held_bytes (taken now e (first takes (ia_at m (Some o)).listed)) → h ≡ held_bytes left
      unfolding read router_of
      held-taken {e = e} o q f g =
          let i : ia_of (read m) ≡ ia_at m (Some o) = rw (only_at 25 m f) in
          let l : left ≡ taken now e (first takes (ia_at m (Some o)).listed) = left_is ∙ rw t (λ j. taken now (sym q j) (first takes (i j).listed)) in
          g ∙ ap held_bytes (sym l)

      pub held_one : only_of 25 m ≡ None → ⊥
      unfolding read
      held_one o =
          let r : is_release (kind_of k) ≡ false = release-type (kind_of k) ∙ ap (λ j. eqb j 8) (sym type-is) ∙ (neither (eqb k 1) (eqb k 8) t).1 in
          let p : good_ias (kind_of k) (router_of b).me.iaid (read m).ias ≡ true = facts.pds in
          let g = both (eqb (length (read m).ias) 1) (all (good_ia (router_of b).me.iaid) (read m).ias) (rw r at p) in
          only-nothing 25 m o (sym (length-map (options 25 (top m)) (ia_at m)) ∙ eqb-true _ 1 g.0)

-- ---------------------------------------------------------------- the server

module _ (k : ℕ) (m : List ℕ) where
  pub server-kept : not (eqb k 1) && not (eqb k 6) ≡ true → [] ≡ server_told k m
  unfolding server_told
  server-kept h =
      let p = both (not (eqb k 1)) (not (eqb k 6)) h in
      rw (not-true (eqb k 1) p.0, not-true (eqb k 6) p.1)

  module _ (h : not (eqb k 1) && not (eqb k 6) ≡ false) where
    pub told : server_told k m ≡ content m (only_of 2 m)
    unfolding server_told
    told = rw (by (eqb k 1) (eqb k 6) h)
      where
        by : (x y : Bool) → not x && not y ≡ false → x || y ≡ true
        by true y h = refl
        by false y h = not-false y h

pub only-within : (w : ℕ) (m : List ℕ) (f : Option Spot) → f ≡ only_of w m → Within (length m) f
only-within w m (Some o) q = only-inside w m (sym q)
only-within w m None q = tt

-- the Server ID of a message that has one
only-content : (m : List ℕ) → stands true (read m).servers ≡ true → content m (only_of 2 m) ≡ get_or (read m).servers 0 []
unfolding only_of read
only-content m h =
    let l = options 2 (top m) in
    let c : length l ≡ 1 = sym (length-map l (content m)) ∙ eqb-true _ 1 h in
    rw (eq-eqb (length l) 1 c) (sym (get_or-map (content m) l 0 None))

module _ {b m : List ℕ} {k : ℕ} (a : Accepted b m k) where
  abbrev d : Duid
  d = get_or (read m).servers 0 []

  server-good : good_duid d ≡ true
  server-good = (one-stands good_duid (read m).servers (facts a).one (facts a).good).1

  sized : (3 ≤ length d) × (length d ≤ 130)
  sized =
      let g = both (leb 3 (length d)) (leb (length d) 130) server-good in
      (leb-true 3 (length d) g.0, leb-true (length d) 130 g.1)

  told_is : server_told k m ≡ cond (eqb k 1 || eqb k 6) d []
  unfolding server_told
  told_is = rw (only-content m (facts a).one)

  pub told-short : {s : Duid} → s ≡ server_told k m → length s ≤ 130
  told-short e = rw (e, told_is) (by (eqb k 1 || eqb k 6))
    where
      by : (t : Bool) → length (cond t d []) ≤ 130
      by true = sized.1
      by false = omega arith

  given_is : server_given (router_of b).server (server_told k m) ≡ server_after (kind_of k) (router_of b) (Some d)
  given_is =
      ap (server_given (router_of b).server) told_is ∙ by (eqb k 1 || eqb k 6)
      ∙ sym (server-type (kind_of k) (router_of b) (Some d) ∙ ap (λ j. cond (eqb j 1 || eqb j 6) (Some d) (router_of b).server) (sym (type-is a)))
    where
      by : (t : Bool) → server_given (router_of b).server (cond t d []) ≡ cond t (Some d) (router_of b).server
      by true = rw (ne_eqb (length d) 0 (λ q. omega (arith, sized.0)))
      by false = refl

  open-kind : (open_of (router_of b).exchange).kind ≡ kind_of k
  open-kind =
      let o : (router_of b).exchange ≡ Some (open_as b k) = exchange-is b a.kind ∙ rw (ne_eqb k 0 (facts a).pending) in
      ap (λ o. (open_of o).kind) o

  -- what is written is what the acceptance leaves
  pub accepted-is : (now : ℕ) {h s c : List ℕ} → h ≡ held_bytes (left a now) → s ≡ server_told k m
      → ((o : Option Hold) → h ≡ held_bytes o → c ≡ router_bytes (closed (router_of b) now (server_given (router_of b).server s) o))
      → c ≡ router_bytes (accept (router_of b) now (read m) (open_of (router_of b).exchange).kind)
  unfolding accept
  accepted-is now e q w =
      w (left a now) e ∙ ap (λ s. router_bytes (closed (router_of b) now s (left a now))) (ap (server_given (router_of b).server) q ∙ given_is)
      ∙ ap (λ j. router_bytes (accept (router_of b) now (read m) j)) (sym open-kind)

-- ---------------------------------------------------------------- the whole

module _ (b m : List ℕ) (now : ℕ) where
  abbrev after : Router
  after = accept (router_of b) now (read m) (open_of (router_of b).exchange).kind

  abbrev settled : Res Router → Ended
  settled x = settle router_bytes b [] (no_text x)

  received_is : router_received b now m ≡ settled (unless (tests b now m) (done after))
  unfolding router_received router_receive
  received_is = ap settled (router-once b ((1, bad_time (router_of b).last now) ∷ awaited_tests b m) (done after))

  module _ {r : Result (Unit {0}) Refusal} (e : refused_by r ≡ judged b now m) where
    pub received-refused : {f : Refusal} → r ≡ Err f → ended (number_of f * 65536) b [] ≡ router_received b now m
    unfolding judged
    received-refused {f} h =
        let n : refused_by r ≡ number_of f = ap refused_by h in
        let q : unless (tests b now m) (done after) ≡ refuse (number_of f) = number-refused (tests b now m) (done after) e (refused-above h) ∙ ap refuse n in
        sym (received_is ∙ ap settled q)

    module _ {u : Unit {0}} (h : r ≡ Ok u) where
      passed : Every (λ r. r.1 ≡ false) (tests b now m)
      unfolding judged
      passed = none-applies (tests b now m) refl e (ap refused_by h)

      pub received-accepted : {k : ℕ} → k ≡ num_at b 346 1 → Accepted b m k
      received-accepted q = record { sound = not-false _ passed.0; kind = q; awaits = not-false _ passed.1.1.0 }

      pub received-long : length b ≡ 384
      received-long = lent_length b (not-false _ passed.0)

      pub received-done : {c : List ℕ} → c ≡ router_bytes after → ended 0 c [] ≡ router_received b now m
      unfolding splice
      received-done q = ap (λ c. ended 0 c []) q ∙ sym (received_is ∙ ap settled (unless-made (tests b now m) (done after) passed))
