-- The message of the open exchange, part by part as code writes it.
use mathlib.Core.Path.{◌≡◌, refl, sym, ap, ◌∙◌, subst}
use mathlib.Core.Logic.{◌⊎◌, inl, inr}
use mathlib.Core.Bool.{Bool, true, false, cond, not, ◌||◌, false≢true}
use mathlib.Core.List.{List, [], ◌∷◌, map}
use Rattle.std.specs.Prelude.{Option, None, Some}
use Prim.Native.Nat.{ℕ, ◌+◌, ◌-◌, ◌%◌, ◌≤◌, ◌<◌}
use native.Mathlib.Omega.{arith}
use mir.Val.{bool_byte}
use denote.Enum.Bare.{sameb}
use lib.Dec.{eqb, leb, lit≤, lit<}
use lib.ListN.{length, take, drop, replicate, length-take, length-drop}
use borrow.Author.Tests.{eqb-true, leb-true}
use Rattle.rules.specs.Words.{all, cons_if, part, splice, num_at}
use Rattle.rules.specs.Prefix.{Lease}
use Rattle.rules.specs.Message.{Listed, print}
use Rattle.rules.specs.Identity.{Duid, kind_of, type_of, is_release}
use Rattle.rules.specs.Router.{Exchange, Router, known, good_server, good_exchange, good_sent, wants_server, lists, servers_of, query, carries, is_open, open_of}
use Rattle.rules.specs.RouterBytes.{some_if, lease_of, duid_at, exchange_of, router_of}
use Rattle.rules.specs.contracts.Kind.{the_type}
use Rattle.rules.specs.declared.Kind.{Kind}
use Rattle.rules.specs.declared.Kind.TheVariants.{Solicit, Request, Renew, Rebind, Release}
use Rattle.laws.specs.Tests.{both, both-made}
use Rattle.laws.specs.Every.{Every}
use Rattle.laws.specs.Numbers.{Bytes}
use Rattle.laws.specs.Bits.{num-zeros}
use Rattle.laws.specs.Round.{FineListed}
use Rattle.laws.specs.Sent.{Sendable}
use Rattle.laws.specs.RouterFields.{Sound, sound-facts}
use Rattle.laws.specs.RouterFlat.{lease-read, duid-short}
use Rattle.laws.specs.RouterRepresent.{router-sound-bytes, lent_length}
use Rattle.laws.specs.RouterKeeps.{open-some, query-able}
use Rattle.values.specs.Values.{except_of, lease_of as lease_in, listed_of, lease_encodes, first_listed, ia_of, Able}
use Rattle.values.specs.declared.IaPrefix.{IaPrefix}
use Rattle.values.specs.declared.Pd.{Pd}
use Rattle.print.specs.declared.message.Head.{Head}
use Rattle.print.specs.Whole.{message_of}
use Rattle.requester.specs.Written.{Open, exchange_in, HeadOf, first_for, ia_asked, query_of, Put}

-- ---------------------------------------------------------------- a prefix

-- a zero prefix with a length
pub wanted-made : (b : List ℕ) {n : ℕ} → n ≡ num_at b 36 1
    → listed_of (record { preferred = 0; valid = 0; length = n; bits = replicate 16 0; cut = 0; out = replicate 16 0 }) [] ≡ first_for (router_of b).wanted None
unfolding listed_of lease_in except_of router_of
wanted-made b e = rw (num-zeros 16) (ap (λ k. first_for k None) e)

-- one that is read from the state
pub carried-made : (b : List ℕ) {p e : List ℕ} {a c : ℕ} → Bytes b → length b ≡ 384 → p ≡ part 347 16 b → a ≡ num_at b 363 1 → e ≡ part 364 16 b → c ≡ num_at b 380 1
    → listed_of (record { preferred = 0; valid = 0; length = a; bits = p; cut = c; out = e }) [] ≡ first_for 0 (Some (lease_of (part 347 34 b)))
unfolding listed_of lease_in except_of
carried-made b y l ep ea ee ec = rw (ep, ea, ee, ec, lease-read b y 347 34 (omega arith) (omega arith))

-- ---------------------------------------------------------------- the exchange by its type

-- the test whether it is a Release
asks-kind : (k : Kind) → not (sameb the_type k Release) ≡ not (is_release k)
asks-kind Solicit = refl
asks-kind Request = refl
asks-kind Renew = refl
asks-kind Rebind = refl
asks-kind Release = refl

module _ (b : List ℕ) (o : Open b) where
  abbrev r : Router
  r = router_of b

  abbrev x : Exchange
  x = exchange_in (router_of b)

  pub open_long : length b ≡ 384
  open_long = lent_length b o.sound

  good : Sound (router_of b)
  good = sound-facts (router_of b) (router-sound-bytes b o.sound).0

  pub head-made : {k : Kind} {n t : ℕ} {w a : Bool} → k ≡ x.kind → n ≡ num_at b 32 4 → t ≡ type_of k → w ≡ wants_server k → a ≡ not (sameb the_type k Release)
      → HeadOf (router_of b) (record { kind = t; number = (n + 16777215) % 16777216; server = w; asks = a; says = false; status = 0; pd = true })
  unfolding router_of
  head-made {k} ek en et ew ea = record {
    kind = et ∙ ap type_of ek;
    number = ap (λ n. (n + 16777215) % 16777216) en;
    server = ew ∙ ap wants_server ek;
    asks = ea ∙ asks-kind k ∙ ap (λ k. not (is_release k)) ek;
    says = refl;
    status = refl;
    pd = refl;
  }

  -- ---------------------------------------------------------------- the prefix that it sends

  abbrev n : ℕ
  n = num_at b 346 1

  abbrev l : Lease
  l = lease_of (part 347 34 b)

  exchange-is : exchange_in (router_of b) ≡ exchange_of (kind_of (num_at b 346 1)) (lease_of (part 347 34 b))
  unfolding router_of
  exchange-is = by (eqb n 0) o.has
    where
      by : (z : Bool) → is_open (cond z None (Some (exchange_of (kind_of n) l))) ≡ true → open_of (cond z None (Some (exchange_of (kind_of n) l))) ≡ exchange_of (kind_of n) l
      by true h = absurd (false≢true h)
      by false h = refl

  sent-by : x.sent ≡ carries x.kind (Some (lease_of (part 347 34 b)))
  sent-by = ap (λ y. y.sent) exchange-is ∙ ap (λ k. carries k (Some l)) (sym (ap (λ y. y.kind) exchange-is))

  module _ {k : Kind} (ek : k ≡ x.kind) where
    sent-none : (k ≡ Solicit) ⊎ (k ≡ Request) → x.sent ≡ None
    sent-none (inl h) = sent-by ∙ ap (λ k. carries k (Some l)) (sym ek ∙ h)
    sent-none (inr h) = sent-by ∙ ap (λ k. carries k (Some l)) (sym ek ∙ h)

    sent-some : (k ≡ Renew) ⊎ ((k ≡ Rebind) ⊎ (k ≡ Release)) → x.sent ≡ Some (lease_of (part 347 34 b))
    sent-some (inl h) = sent-by ∙ ap (λ k. carries k (Some l)) (sym ek ∙ h)
    sent-some (inr (inl h)) = sent-by ∙ ap (λ k. carries k (Some l)) (sym ek ∙ h)
    sent-some (inr (inr h)) = sent-by ∙ ap (λ k. carries k (Some l)) (sym ek ∙ h)

    pub first-wanted : {y : Listed} → (k ≡ Solicit) ⊎ (k ≡ Request) → y ≡ first_for r.wanted None → y ≡ first_for r.wanted x.sent
    first-wanted h e = e ∙ ap (first_for r.wanted) (sym (sent-none h))

    pub first-carried : {y : Listed} → (k ≡ Renew) ⊎ ((k ≡ Rebind) ⊎ (k ≡ Release)) → y ≡ first_for 0 (Some (lease_of (part 347 34 b))) → y ≡ first_for r.wanted x.sent
    first-carried h e = e ∙ ap (first_for r.wanted) (sym (sent-some h))

    -- and how many stand in the message
    pub count-wanted : (k ≡ Solicit) ⊎ (k ≡ Request) → {w : ℕ} → w ≡ num_at b 36 1 → bool_byte (not (eqb w 0)) ≡ length (lists r.wanted x.sent)
    unfolding router_of
    count-wanted h {w} ew = rw (sent-none h, ← ew) (by (eqb w 0))
      where
        by : (z : Bool) → bool_byte (not z) ≡ length (cond z [] (first_for w None ∷ []))
        by true = refl
        by false = refl

    pub count-one : (k ≡ Renew) ⊎ ((k ≡ Rebind) ⊎ (k ≡ Release)) → 1 ≡ length (lists r.wanted x.sent)
    count-one h = rw (sent-some h)

  -- ---------------------------------------------------------------- its IA_PD

  able : Sendable (query (router_of b) (exchange_in (router_of b))) 344
  able = query-able (router_of b) (router-sound-bytes b o.sound).0 (exchange_in (router_of b)) (open-some r.exchange o.has)

  listed-fine : Every FineListed (lists (router_of b).wanted (exchange_in (router_of b)).sent)
  unfolding query
  listed-fine = able.fine.ias.0.listed

  abbrev five : IaPrefix → List IaPrefix
  five y = y ∷ y ∷ y ∷ y ∷ y ∷ []

  lists-by : (w : ℕ) (s : Option Lease) (y : IaPrefix) {c : ℕ} → listed_of y [] ≡ first_for w s → c ≡ length (lists w s) → first_listed c (five y) ≡ lists w s
  lists-by w (Some l) y e q = rw (q, e)
  lists-by w None y {c} e q = by (eqb w 0) q
    where
      by : (z : Bool) → c ≡ length (cond z [] (first_for w None ∷ [])) → first_listed c (five y) ≡ cond z [] (first_for w None ∷ [])
      by true h = rw h
      by false h = rw (h, e)

  lists-few : (w : ℕ) (s : Option Lease) → length (lists w s) ≤ 1
  lists-few w (Some l) = lit≤ tt
  lists-few w None = by (eqb w 0)
    where
      by : (z : Bool) → length (cond z [] (first_for w None ∷ [])) ≤ 1
      by true = lit≤ tt
      by false = lit≤ tt

  encodes : (ys : List IaPrefix) → Every FineListed (map (λ y. listed_of y []) ys) → all lease_encodes ys ≡ true
  unfolding listed_of
  encodes [] f = refl
  encodes (y ∷ ys) f = both-made f.0.encodes (encodes ys f.1)

  pub pd-made : {y : IaPrefix} {c i : ℕ} → listed_of y [] ≡ first_for r.wanted x.sent → c ≡ length (lists r.wanted x.sent) → i ≡ num_at b 37 4
      → (ia_of (record { iaid = i; t1 = 0; t2 = 0; count = c; prefixes = y ∷ y ∷ y ∷ y ∷ y ∷ []; says = false; status = 0 }) ≡ ia_asked (router_of b))
      × Able (record { iaid = i; t1 = 0; t2 = 0; count = c; prefixes = y ∷ y ∷ y ∷ y ∷ y ∷ []; says = false; status = 0 })
  unfolding ia_of router_of
  pd-made {y} {c} e q w =
      let s = lists-by r.wanted x.sent y e q in (
        λ j. record { iaid = w j; t1 = 0; t2 = 0; listed = s j; statuses = [] },
        record {
          count = omega (arith, lists-few r.wanted x.sent);
          prefixes = encodes (take c (five y)) (subst (Every FineListed) (sym s) listed-fine);
          status = lit< tt;
        },
      )

  -- ---------------------------------------------------------------- the whole

  -- where a Server ID stands, one is known
  server-made : (w : Bool) (m : ℕ) (d : Duid) → not w || known (some_if m d) ≡ true → cons_if w d [] ≡ cond w (servers_of (some_if m d)) []
  server-made false m d h = refl
  server-made true m d h = by (eqb m 0) h
    where
      by : (z : Bool) → known (cond z None (Some d)) ≡ true → d ∷ [] ≡ servers_of (cond z None (Some d))
      by true h = absurd (false≢true h)
      by false h = refl

  -- the bytes of the server's DUID stand in the state
  pub server-few : Bytes b → num_at b 172 1 ≤ 130
  unfolding router_of
  server-few y = by (eqb (num_at b 172 1) 0) refl good.server
    where
      by : (z : Bool) → eqb (num_at b 172 1) 0 ≡ z → good_server (cond z None (Some (duid_at b 172))) ≡ true → num_at b 172 1 ≤ 130
      by true e g = omega (arith, eqb-true (num_at b 172 1) 0 e)
      by false e g =
          let d = duid_at b 172 in
          duid-short b y 172 (omega (arith, open_long)) (omega (arith, open_long)) (leb-true (length d) 130 (both (leb 3 (length d)) (leb (length d) 130) g).1)

  server-known : not (wants_server x.kind) || known r.server ≡ true
  server-known =
      let g : good_exchange r.server (Some x) ≡ true = subst (λ y. good_exchange r.server y ≡ true) (open-some r.exchange o.has) good.exchange in
      (both (not (wants_server x.kind) || known r.server) (good_sent x.kind x.sent) g).0

  -- the bytes that code cuts
  cut : (at : ℕ) {m k : ℕ} → m ≡ k → take (at + m - at) (drop at b) ≡ part at k b
  unfolding part
  cut at {m} {k} e = let q : at + m - at ≡ k = omega arith in ap (λ i. take i (drop at b)) q

  module _ {h : Head} (d : Pd) {m k : ℕ} (eh : HeadOf (router_of b) h) (ed : ia_of d ≡ ia_asked (router_of b)) (em : m ≡ num_at b 41 1) (ek : k ≡ num_at b 172 1) where
    abbrev client : List ℕ
    client = take (42 + m - 42) (drop 42 b)

    abbrev server : List ℕ
    server = take (173 + k - 173) (drop 173 b)

    message-is : message_of h client server d ≡ query (router_of b) (exchange_in (router_of b))
    unfolding message_of query router_of
    message-is =
        let c : client ≡ duid_at b 41 = cut 42 em in
        let s : cons_if h.server server [] ≡ cond (wants_server x.kind) (servers_of r.server) [] =
        ap (λ w. cons_if w server []) eh.server ∙ ap (λ e. cons_if (wants_server x.kind) e []) (cut 173 ek) ∙ server-made (wants_server x.kind) (num_at b 172 1) (duid_at b 172) server-known in
        let u : cons_if h.says h.status [] ≡ [] = ap (λ z. cons_if z h.status []) eh.says in
        let i : cons_if h.pd (ia_of d) [] ≡ ia_asked (router_of b) ∷ [] = ap (λ z. cons_if z (ia_of d) []) eh.pd ∙ ap (λ a. a ∷ []) ed in
        λ j. record {
          kind = eh.kind j;
          number = eh.number j;
          clients = c j ∷ [];
          servers = s j;
          asks = eh.asks j;
          statuses = u j;
          ias = i j;
        }

    short : (at c : ℕ) → length (take c (drop at b)) < 65536
    short at c = let e = length-take c (drop at b) in let f = length-drop at b in omega (arith, open_long)

    pub put-able : {room : ℕ} → Able d → 344 ≤ room
        → (length client < 65536) × (length server < 65536) × (h.status < 65536) × Able d × (length (print (message_of h client server d)) ≤ room)
    put-able a l =
        (short 42 (42 + m - 42), short 173 (173 + k - 173), omega (arith, eh.status), a, rw message-is (omega (arith, able.size)))

    pub put-made : {w : ℕ} {out c : List ℕ} → (w ≡ length (print (message_of h client server d))) × (c ≡ splice 0 (print (message_of h client server d)) out) → Put (query_of b) w out c
    unfolding query_of
    put-made {w} {out} q = record { size = q.0 ∙ ap (λ v. length (print v)) message-is; is = q.1 ∙ ap (λ v. splice 0 (print v) out) message-is }
