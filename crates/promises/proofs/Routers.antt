-- What the router's operations tell: each meets what Readings says of its steps.
use Rattle.std.specs.Prelude.{ℕ, ◌+◌, ◌≤◌, ◌<◌, ◌^◌, ◌≡◌, Bool, cond, not, ◌&&◌, ◌||◌, List, [], ◌∷◌, ◌⊎◌, eqb, leb, ltb, length, get_or, Option, None, Some}
use Rattle.std.proofs.Math.Path.{refl, sym, ap}
use Rattle.std.proofs.Common.{◌∙◌, true≢false, inl, inr, eqb-true, leb-false}
use Rattle.std.proofs.Math.Bool.{true, false}
use Rattle.std.proofs.lemmas.Bool.{false≢true, not-false}
use Rattle.std.proofs.lemmas.Option.{none-some}
use native.Mathlib.Omega.{arith}
use Rattle.rules.specs.Words.{all, first, same_bytes}
use Rattle.rules.specs.Refusals.{done, wrong_size}
use Rattle.rules.specs.Prefix.{Lease}
use Rattle.rules.specs.Message.{Listed, Ia, read, well_formed, print}
use Rattle.rules.specs.Clock.{Moment, Lifetime, plus}
use Rattle.rules.specs.Identity.{Duid, Identity, identity, type_of, kind_of, answer_type, is_release, stands}
use Rattle.rules.specs.Box.{start_tests, client_of, ia_of}
use Rattle.rules.specs.Router.{Hold, Exchange, Router, good_asker, sound_router, number_before, query, allows, is_open, exchange_for, begun, again, closed, good_ia, good_ias, may_offer, from_server, awaited, takes, taken, held_after, accept, router_start, send_tests, router_send, resend_tests, open_of, router_resend, abandon_tests, router_abandon, receive_tests, router_receive}
use Rattle.rules.specs.declared.Kind.{Kind}
use Rattle.rules.specs.declared.Kind.TheVariants.{Solicit, Request, Renew, Rebind, Release}
use Rattle.laws.specs.Tests.{both, neither}
use Rattle.laws.specs.Refusals.{in-time, unless-done, one, two}
use Rattle.laws.specs.Kinds.{type-kind, one-stands, bytes-true}
use Rattle.laws.specs.RouterFields.{Sound, sound-facts}
use Rattle.laws.specs.RouterKeeps.{moment, number-before, begun-sound, again-sound, open-some, query-able}
use Rattle.laws.specs.Round.{Fine, print-read}
use Rattle.promises.specs.Readings.{Up, Down, hold, Held, Open, Busy, holding, asking, Fit, Moves, Began, Resent, Got, Fresh}

-- ---------------------------------------------------------------- the message of an exchange

-- what the box reads of it: its own kind, number and identity
module _ (r : Router) (x : Exchange) (f : Fine (query r x)) where
  abbrev m : List ℕ
  m = print (query r x)

  query-up : (i : Identity) (n : ℕ) (b : Bool) → Up m i n b → (i ≡ r.me) × (n ≡ number_before r.next) × (b ≡ is_release x.kind)
  unfolding query
  query-up i n b u =
      let e : read m ≡ query r x = print-read (query r x) f in
      let a : identity r.me.duid r.me.iaid ≡ i = ap (λ v. identity (client_of v) (ia_of v).iaid) (sym e) ∙ u.asker in
      let k : is_release (kind_of (type_of x.kind)) ≡ b = ap (λ v. is_release (kind_of v.kind)) (sym e) ∙ u.frees in
      (sym a, sym u.number ∙ ap (λ v. v.number) e, sym k ∙ ap is_release (type-kind x.kind))

  -- a router's message is no answer
  query-down : (i : Identity) (n : ℕ) (c : Lease) (v : Lifetime) → Down m i n c v → ⊥
  unfolding query
  query-down i n c v d =
      let e : read m ≡ query r x = print-read (query r x) f in
      let k : type_of x.kind ≡ 7 = ap (λ w. w.kind) (sym e) ∙ d.reply in
      seven x.kind k
    where
      seven : (k : Kind) → type_of k ≡ 7 → ⊥
      seven Solicit e = omega arith
      seven Request e = omega arith
      seven Renew e = omega arith
      seven Rebind e = omega arith
      seven Release e = omega arith

-- ---------------------------------------------------------------- start

pub starts : (i : Identity) (w : ℕ) (n : Moment) (r : Router) → router_start i w n ≡ done r → Fresh i n r
unfolding router_start
starts i w n r e = one (Fresh i n) (unless-done (start_tests (good_asker i w) n) e).1 (record {
  fit = record { small = omega arith; dropped = λ o. refl };
  me = refl;
  started-now = refl;
  began-by = omega arith;
  idle = λ b. elim b [ holding h ↦ none-some _ h | asking o ↦ none-some _ o.is ];
})

-- ---------------------------------------------------------------- a new exchange

cond-none : {A : Type 0} {x : Option A} {y : A} (b : Bool) → cond b None x ≡ Some y → (b ≡ false) × (x ≡ Some y)
cond-none true e = absurd (none-some _ e)
cond-none false e = (refl, e)

cond-empty : {A : Type 0} (x : Option A) (b : Bool) → b ≡ true → cond b None x ≡ None
cond-empty x true e = refl
cond-empty x false e = absurd (false≢true e)

module _ (k : Kind) (r : Router) (n : Moment) (sound : sound_router r ≡ true) (late : r.last ≤ n) (time : n < 2 ^ 48) (may : allows k r n ≡ true)
    (h1 : r.started + 60 < n) (h2 : r.freed + 60 < n) (h3 : r.began < n) where
  abbrev x : Exchange
  x = exchange_for k r n

  abbrev g : Sound r
  g = sound-facts r sound

  -- the open exchange of the new state is the new one
  opened : {b : Bool} → Open (begun k r n) b → is_release k ≡ b
  unfolding begun
  opened o = let w : x ≡ o.exchange = cc in ap (λ y. is_release y.kind) w ∙ o.frees

  begun-fine : Fine (query (begun k r n) x)
  unfolding begun
  begun-fine = (query-able (begun k r n) (begun-sound r n sound late time k may) x refl).fine

  m' : (r.freed ≤ cond (is_release k) n r.freed) × (cond (is_release k) n r.freed ≤ n)
  m' = moment (is_release k) n r.freed (omega (arith, g.freed-last))

  begins-so : Began r n (begun k r n) (print (query (begun k r n) x))
  unfolding begun
  begins-so = record {
    fit = record { small = omega arith; dropped = λ o. cond-empty r.held (is_release k) (opened o) };
    me-same = refl;
    started-same = refl;
    began-now = refl;
    small = g.small;
    next_up = refl;
    freed-up = m'.0;
    after-start = h1;
    after-freed = h2;
    after-second = h3;
    busy = λ b. elim b [ holding h ↦ rw (cond-none (is_release k) h).0 | asking o ↦ rw (opened o) ];
    holds = λ c e h. (cond-none (is_release k) h).1;
    reads = λ i y b u. let z = query-up (begun k r n) x begun-fine i y b u in (z.0, z.1 ∙ number-before r.next g.small);
    frees = λ i y u. rw (← (query-up (begun k r n) x begun-fine i y true u).2) (omega arith);
    silent = query-down (begun k r n) x begun-fine;
  }

pub begins : (k : Kind) (r r' : Router) (n : Moment) (room : ℕ) (m : List ℕ) → Fit r → router_send k r n room ≡ done (r', m) → Began r n r' m
unfolding router_send
begins k r r' n room m f e =
    let a = unless-done (send_tests k r n room) e in
    let p = a.0 in
    let t = in-time r.last n p.1.0 in
    let s = neither (leb n (r.started + 60) || leb n (r.freed + 60)) (leb n r.began) p.1.1.1.1.0 in
    let u = neither (leb n (r.started + 60)) (leb n (r.freed + 60)) s.0 in
    two (Began r n) a.1 (begins-so k r n (not-false _ p.0) t.0 t.1 (not-false _ p.1.1.1.1.1.0) (leb-false _ _ u.0) (leb-false _ _ u.1) (leb-false _ _ s.1))

-- ---------------------------------------------------------------- the open exchange again

module _ (r : Router) (n : Moment) (x : Exchange) (is : r.exchange ≡ Some x) (f : Fit r) (sound : sound_router r ≡ true) (late : r.last ≤ n) (time : n < 2 ^ 48) where
  again-opens : (b : Bool) → Open (again r n x) b → Open r b
  unfolding again
  again-opens b o = let w : x ≡ o.exchange = cc in record { exchange = x; is = is; frees = ap (λ y. is_release y.kind) w ∙ o.frees }

  again-fine : Fine (query (again r n x) x)
  unfolding again
  again-fine = (query-able (again r n x) (again-sound r n sound late time x is) x refl).fine

  -- a Release is open only beside nothing held, so the last sending of a Release changes only for one that isn't busy
  again-busy : (b : Bool) → is_release x.kind ≡ b → Busy (again r n x) → Busy r × (cond b n r.freed ≡ r.freed)
  unfolding again
  again-busy false q (holding h) = (holding h, refl)
  again-busy false q (asking o) = (asking (again-opens false o), refl)
  again-busy true q (holding h) = absurd (none-some _ (sym (f.dropped (record { exchange = x; is = is; frees = q })) ∙ h))
  again-busy true q (asking o) = let p = again-opens false o in let w : x ≡ o.exchange = cc in absurd (true≢false (sym q ∙ ap (λ y. is_release y.kind) w ∙ o.frees))

  moved : (r.freed ≤ cond (is_release x.kind) n r.freed) × (cond (is_release x.kind) n r.freed ≤ n)
  moved = moment (is_release x.kind) n r.freed (omega (arith, (sound-facts r sound).freed-last))

  repeats-so : Resent r n (again r n x) (print (query (again r n x) x))
  unfolding again
  repeats-so = record {
    moves = record {
      fit = record { small = f.small; dropped = λ o. f.dropped (again-opens true o) };
      me-same = refl;
      started-same = refl;
      began-same = refl;
      next-same = refl;
      freed-up = moved.0;
      busy = again-busy (is_release x.kind) refl;
      opens = again-opens;
    };
    holds = λ c e h. h;
    reads = λ i y b u. let z = query-up (again r n x) x again-fine i y b u in (z.0, z.1);
    frees = λ i y u. rw (← (query-up (again r n x) x again-fine i y true u).2) (omega arith);
    silent = query-down (again r n x) x again-fine;
  }

pub repeats : (r r' : Router) (n : Moment) (room : ℕ) (m : List ℕ) → Fit r → router_resend r n room ≡ done (r', m) → Resent r n r' m
unfolding router_resend
repeats r r' n room m f e =
    let a = unless-done (resend_tests r n room) e in
    let p = a.0 in
    let t = in-time r.last n p.1.0 in
    let o = not-false _ p.1.1.1.0 in
    two (Resent r n) a.1 (repeats-so r n (open_of r.exchange) (open-some r.exchange o) f (not-false _ p.0) t.0 t.1)

-- ---------------------------------------------------------------- the exchange closed

-- a state with nothing open, whatever it then knows and holds
shuts : (r : Router) (n : Moment) (s : Option Duid) (h : Option Hold) → Fit r → ((c : Lease) (e : Moment) → h ≡ Some (hold c e) → Busy r) → Moves r n (closed r n s h)
unfolding closed
shuts r n s h f b = record {
  fit = record { small = f.small; dropped = λ o. absurd (none-some _ o.is) };
  me-same = refl;
  started-same = refl;
  began-same = refl;
  next-same = refl;
  freed-up = omega arith;
  busy = λ y. elim y [ holding k ↦ (b _ _ k, refl) | asking o ↦ absurd (none-some _ o.is) ];
  opens = λ y o. absurd (none-some _ o.is);
}

pub closes : (r r' : Router) (n : Moment) → Fit r → router_abandon r n ≡ done r' → Moves r n r' × ((c : Lease) (e : Moment) → Held r' c e → Held r c e)
unfolding router_abandon closed
closes r r' n f e =
    one (λ q. Moves r n q × ((c : Lease) (e : Moment) → Held q c e → Held r c e)) (unless-done (abandon_tests r n) e).1
    (shuts r n r.server r.held f (λ c e h. holding h), λ c e h. h)

-- ---------------------------------------------------------------- a message accepted

-- what is known of the message awaited
pub record Awaited (r : Router) (m : List ℕ) (x : Exchange) : Type 0 where
  pub formed : well_formed m ≡ true
  pub type : (read m).kind ≡ answer_type x.kind
  pub number : (read m).number ≡ number_before r.next
  pub client : client_of (read m) ≡ r.me.duid
  pub told-by : from_server x.kind r.server (read m).servers ≡ true
  pub ias : good_ias x.kind r.me.iaid (read m).ias ≡ true

pub awaited-facts : (r : Router) (m : List ℕ) (x : Exchange) → awaited r m (read m) (Some x) ≡ true → Awaited r m x
unfolding awaited
awaited-facts r m x e =
    let v = read m in
    let a = both _ (may_offer x.kind v) e in
    let b = both _ (good_ias x.kind r.me.iaid v.ias) a.0 in
    let c = both _ (from_server x.kind r.server v.servers) b.0 in
    let d = both _ (all (same_bytes r.me.duid) v.clients) c.0 in
    let f = both _ (stands true v.clients) d.0 in
    let g = both _ (eqb v.number (number_before r.next)) f.0 in
    let h = both _ (eqb v.kind (answer_type x.kind)) g.0 in
    let i = both (not (wrong_size m)) (well_formed m) h.0 in
    let o = one-stands (same_bytes r.me.duid) v.clients f.1 d.1 in
    record {
      formed = i.1;
      type = eqb-true _ _ h.1;
      number = eqb-true _ _ g.1;
      client = sym (bytes-true _ _ o.1);
      told-by = c.1;
      ias = b.1;
    }

-- the one IA_PD has the router's IAID
own-ia : (i : ℕ) (l : List Ia) (d : Ia) → eqb (length l) 1 && all (good_ia i) l ≡ true → (get_or l 0 d).iaid ≡ i
own-ia i [] d e = absurd (false≢true e)
own-ia i (a ∷ []) d e =
    let g = both (good_ia i a) true (both (eqb 1 1) (good_ia i a && true) e).1 in
    eqb-true _ _ (both (eqb a.iaid i) (not (ltb a.t2 a.t1 && ltb 0 a.t2)) g.0).0
own-ia i (a ∷ b ∷ l) d e =
    let z : ◌≡◌ {A = ℕ} (length (a ∷ b ∷ l)) 1 = eqb-true _ 1 (both (eqb (length (a ∷ b ∷ l)) 1) (all (good_ia i) (a ∷ b ∷ l)) e).0 in
    absurd (omega arith)

-- what is taken of a Reply
taken_is : (n t : Moment) (o : Option Listed) (c : Lease) (e : Moment) → taken n t o ≡ Some (hold c e)
    → (x : Listed) × (o ≡ Some x) × (x.lease ≡ c) × (e ≡ plus t x.valid)
taken_is n t None c e h = absurd (none-some _ h)
taken_is n t (Some x) c e h = by (ltb n (plus t x.valid)) h
  where
    by : (b : Bool) → cond b (Some (hold x.lease (plus t x.valid))) None ≡ Some (hold c e)
        → (y : Listed) × (Some x ≡ Some y) × (y.lease ≡ c) × (e ≡ plus t y.valid)
    by true q =
        let w : hold x.lease (plus t x.valid) ≡ hold c e = cc in
        (x, refl, ap (λ k. k.lease) w, sym (ap (λ k. k.end) w))
    by false q = absurd (none-some _ q)

module _ (r : Router) (n : Moment) (m : List ℕ) (x : Exchange) (is : r.exchange ≡ Some x) (a : Awaited r m x) where
  abbrev Taken : Lease → Moment → Type 0
  Taken c e = Held r c e ⊎ ((v : Lifetime) × Open r false × Down m r.me (number_before r.next) c v × (e ≡ plus r.began v))

  -- of a Reply to a Request, Renew or Rebind
  by-reply : is_release x.kind ≡ false → answer_type x.kind ≡ 7 → (c : Lease) (e : Moment)
      → taken n r.began (first takes (ia_of (read m)).listed) ≡ Some (hold c e) → Taken c e
  by-reply q t c e h =
      let w = taken_is n r.began (first takes (ia_of (read m)).listed) c e h in
      let g : eqb (length (read m).ias) 1 && all (good_ia r.me.iaid) (read m).ias ≡ true = rw q at a.ias in
      inr (
        w.0.valid,
        record { exchange = x; is = is; frees = q },
        record {
          reply = a.type ∙ t;
          client = a.client;
          iaid = own-ia r.me.iaid (read m).ias _ g;
          number = a.number;
          listed = w.0;
          taken = w.1;
          lease = w.2;
          valid = refl;
        },
        w.3,
      )

  held_after_lem : (k : Kind) → x.kind ≡ k → (c : Lease) (e : Moment) → held_after k r n (first takes (ia_of (read m)).listed) ≡ Some (hold c e) → Taken c e
  held_after_lem Solicit q c e h = inl h
  held_after_lem Request q c e h = by-reply (ap is_release q) (ap answer_type q) c e h
  held_after_lem Renew q c e h = by-reply (ap is_release q) (ap answer_type q) c e h
  held_after_lem Rebind q c e h = by-reply (ap is_release q) (ap answer_type q) c e h
  held_after_lem Release q c e h = inl h

  busy-by : {c : Lease} {e : Moment} → Taken c e → Busy r
  busy-by (inl h) = holding h
  busy-by (inr h) = asking h.1

  accepts-so : Fit r → Got r n m (accept r n (read m) x.kind)
  unfolding accept closed
  accepts-so f = record {
    moves = shuts r n _ _ f (λ c e h. busy-by (held_after_lem x.kind refl c e h));
    holds = λ c e h. held_after_lem x.kind refl c e h;
  }

pub awaited-open : (r : Router) (m : List ℕ) (o : Option Exchange) → awaited r m (read m) o ≡ true → is_open o ≡ true
unfolding awaited
awaited-open r m None e = absurd (false≢true e)
awaited-open r m (Some x) e = refl

pub accepts : (r r' : Router) (n : Moment) (m : List ℕ) → Fit r → router_receive r n m ≡ done r' → Got r n m r'
unfolding router_receive
accepts r r' n m f e =
    let a = unless-done (receive_tests r n m (read m)) e in
    let w = not-false _ a.0.1.1.0 in
    let o = open-some r.exchange (awaited-open r m r.exchange w) in
    one (Got r n m) a.1 (accepts-so r n m (open_of r.exchange) o (awaited-facts r m (open_of r.exchange) (sym (ap (awaited r m (read m)) o) ∙ w)) f)
