-- The invariant of every run, kept by each step, over what Readings says that a step tells.
use Rattle.std.specs.Prelude.{ℕ, ◌+◌, ◌≤◌, ◌<◌, ◌%◌, ◌^◌, ◌≡◌, refl, Bool, true, false, cond, List, ◌∷◌, ◌⊎◌, Option, None, Some}
use Rattle.std.proofs.Common.{sym, ◌∙◌, ap, inl, inr, arith}
use Rattle.std.proofs.lemmas.Option.{none-some}
use Rattle.rules.specs.Prefix.{Lease}
use Rattle.rules.specs.Refusals.{done}
use Rattle.rules.specs.Clock.{Moment, Lifetime, plus}
use Rattle.rules.specs.Identity.{Identity, same_identity}
use Rattle.rules.specs.Settings.{Settings}
use Rattle.rules.specs.Table.{Table, sound}
use Rattle.rules.specs.Box.{box_start, box_handle}
use Rattle.rules.specs.Router.{Router, number_before, number_after, router_start, router_send, router_resend, router_abandon, router_receive}
use Rattle.rules.specs.World.{Box, Alive, put, Sent, In, last, older, Run, nobody, opens, tick, born, dies, sends, resends, abandons, receives, serves}
use Rattle.rules.specs.declared.Kind.{Kind}
use Rattle.laws.specs.Tests.{false-true}
use Rattle.laws.specs.Kinds.{identity-true, identity-refl}
use Rattle.promises.specs.Readings.{Up, Down, Binds, Held, Open, Busy, holding, asking, Fit, Moves, Began, Resent, Got, Fresh, Served}

-- ---------------------------------------------------------------- the routers alive

-- a changed map has at an identity what was put there, or what stood there before
pub put-cases : (A : Alive) (i : Identity) (o : Option Router) (j : Identity) (r : Router) → put A i o j ≡ Some r
    → ((j ≡ i) × (o ≡ Some r)) ⊎ (A j ≡ Some r)
unfolding put
put-cases A i o j r e = by (same_identity j i) refl e
  where
    by : (b : Bool) → same_identity j i ≡ b → cond b o (A j) ≡ Some r → ((j ≡ i) × (o ≡ Some r)) ⊎ (A j ≡ Some r)
    by true q e = inl (identity-true j i q, e)
    by false q e = inr e

pub put_same : (A : Alive) (i : Identity) (o : Option Router) → put A i o i ≡ o
unfolding put
put_same A i o = rw (identity-refl i)

-- what holds of every router alive still does when one changes, or dies; the others are known to be others
pub put_all : (P : Identity → Router → Type 0) (A : Alive) (i : Identity) {r' : Router} → P i r'
    → ((j : Identity) (q : Router) → same_identity j i ≡ false → A j ≡ Some q → P j q)
    → (j : Identity) (q : Router) → put A i (Some r') j ≡ Some q → P j q
unfolding put
put_all P A i {r'} o f j q p = by (same_identity j i) refl p
  where
    by : (b : Bool) → same_identity j i ≡ b → cond b (Some r') (A j) ≡ Some q → P j q
    by true s e = let d : q ≡ r' = cc in let k = identity-true j i s in rw (k, d) o
    by false s e = f j q s e

pub drop_all : (A : Alive) (i j : Identity) (q : Router) → put A i None j ≡ Some q → A j ≡ Some q
drop_all A i j q p = by (put-cases A i None j q p)
  where
    by : ((j ≡ i) × (None ≡ Some q)) ⊎ (A j ≡ Some q) → A j ≡ Some q
    by (inl h) = absurd (none-some q h.1)
    by (inr h) = h

others : {i j : Identity} → same_identity j i ≡ false → j ≡ i → ⊥
others {i} {j} s e = let q : same_identity j i ≡ true = rw e (identity-refl i) in false-true (sym s ∙ q)

-- ---------------------------------------------------------------- the invariant

-- how old a message with number x, sent at s, is to a router of that identity: of a former life, of the latest exchange
-- (resendings too), or of k exchanges ago
pub data Aged (r : Router) (s x : ℕ) : Type 0 where
  former : s ≤ r.started → Aged r s x
  latest : (x + 1) % 16777216 ≡ r.next → Aged r s x
  ago : (k : ℕ) → 2 ≤ k → (x + k) % 16777216 ≡ r.next → s + k ≤ r.began + 2 → Aged r s x

-- of a router alive
pub record Ok (n : Moment) (B : Box) (S : Sent) (i : Identity) (r : Router) : Type 0 where
  pub fit : Fit r
  pub named : r.me ≡ i
  pub since : r.started ≤ n
  pub prior : r.began ≤ n
  pub calm : Busy r → (r.started + 30 < n) × (r.freed + 30 < n)
  pub frees : {s : ℕ} {m : List ℕ} {x : ℕ} → In s m S → Up m i x true → (s ≤ r.started) ⊎ (s ≤ r.freed)
  pub ages : {s : ℕ} {m : List ℕ} {x : ℕ} {b : Bool} → In s m S → Up m i x b → Aged r s x
  pub bound : {c : Lease} {e : Moment} → Held r c e → n < e → Binds B i c e
  pub granted : {s : ℕ} {m : List ℕ} {c : Lease} {v : Lifetime} → Open r false → In s m S → Down m i (number_before r.next) c v → n ≤ s + 30
      → n < plus r.began v → Binds B i c (plus r.began v)

-- the valid lifetime of the box that has started: it is the same in every Reply
abbrev pub Lasts : Box → Lifetime → Type 0
Lasts B v = (T : Table) × (B ≡ Some T) × (v ≡ T.settings.valid)

-- of the world
pub record Inv (n : Moment) (B : Box) (A : Alive) (S : Sent) : Type 0 where
  pub sound-table : (T : Table) → B ≡ Some T → sound T ≡ true
  pub soon : {s : ℕ} {m : List ℕ} → In s m S → s ≤ n
  pub echoed : {s x : ℕ} {m : List ℕ} {i : Identity} {c : Lease} {v : Lifetime} → In s m S → Down m i x c v
      → (s' : ℕ) × (m' : List ℕ) × (b : Bool) × In s' m' S × Up m' i x b × (s ≤ s' + 30)
  pub lasting : {s x : ℕ} {m : List ℕ} {i : Identity} {c : Lease} {v : Lifetime} → In s m S → Down m i x c v → Lasts B v
  pub ok : (i : Identity) (r : Router) → A i ≡ Some r → Ok n B S i r

-- ---------------------------------------------------------------- one router, step by step

ok-tick : {n n' : Moment} {B : Box} {S : Sent} {i : Identity} {r : Router} → n ≤ n' → Ok n B S i r → Ok n' B S i r
ok-tick g o = record {
  fit = o.fit;
  named = o.named;
  since = omega (arith, o.since);
  prior = omega (arith, o.prior);
  calm = λ b. let h = o.calm b in omega arith;
  frees = o.frees;
  ages = o.ages;
  bound = λ h l. o.bound h (omega arith);
  granted = λ p q d l u. o.granted p q d (omega arith) (omega arith);
}

-- a message is sent
ok_add : {n : Moment} {B : Box} {S : Sent} {i : Identity} {r : Router} {m : List ℕ} → Ok n B S i r
    → ((x : ℕ) → Up m i x true → n ≤ r.freed)
    → ((x : ℕ) (b : Bool) → Up m i x b → Aged r n x)
    → ((c : Lease) (v : Lifetime) → Open r false → Down m i (number_before r.next) c v → Binds B i c (plus r.began v))
    → Ok n B ((n, m) ∷ S) i r
ok_add {n} {B} {S} {i} {r} {m} o f g h = record {
  fit = o.fit;
  named = o.named;
  since = o.since;
  prior = o.prior;
  calm = o.calm;
  bound = o.bound;
  frees = free;
  ages = aged;
  granted = grant;
}
  where
    free : {s : ℕ} {m' : List ℕ} {x : ℕ} → In s m' ((n, m) ∷ S) → Up m' i x true → (s ≤ r.started) ⊎ (s ≤ r.freed)
    free (last p q) u = inr (rw p (f _ (rw q at u)))
    free (older k) u = o.frees k u

    aged : {s : ℕ} {m' : List ℕ} {x : ℕ} {b : Bool} → In s m' ((n, m) ∷ S) → Up m' i x b → Aged r s x
    aged (last p q) u = rw p (g _ _ (rw q at u))
    aged (older k) u = o.ages k u

    grant : {s : ℕ} {m' : List ℕ} {c : Lease} {v : Lifetime} → Open r false → In s m' ((n, m) ∷ S) → Down m' i (number_before r.next) c v → n ≤ s + 30
        → n < plus r.began v → Binds B i c (plus r.began v)
    grant p (last a q) d l u = h _ _ p (rw q at d)
    grant p (older k) d l u = o.granted p k d l u

-- the table changes and keeps what counts
ok-table : {n : Moment} {B B' : Box} {S : Sent} {i : Identity} {r : Router} → Ok n B S i r
    → (Busy r → (c : Lease) (e : Moment) → Binds B i c e → n < e → Binds B' i c e) → Ok n B' S i r
ok-table o k = record {
  fit = o.fit;
  named = o.named;
  since = o.since;
  prior = o.prior;
  calm = o.calm;
  frees = o.frees;
  ages = o.ages;
  bound = λ h l. k (holding h) _ _ (o.bound h l) l;
  granted = λ p q d l u. k (asking p) _ _ (o.granted p q d l u) u;
}

pub aged-moves : {r r' : Router} {n s x : ℕ} → Moves r n r' → Aged r s x → Aged r' s x
aged-moves v (former h) = former (omega (arith, v.started-same))
aged-moves v (latest e) = latest (e ∙ sym v.next-same)
aged-moves v (ago k l e h) = ago k l (e ∙ sym v.next-same) (omega (arith, v.began-same))

freed-moves : {a b a' b' s : ℕ} → a ≤ a' → b ≤ b' → (s ≤ a) ⊎ (s ≤ b) → (s ≤ a') ⊎ (s ≤ b')
freed-moves p q (inl h) = inl (omega arith)
freed-moves p q (inr h) = inr (omega arith)

-- a router moves and begins no exchange
ok-moves : {n : Moment} {B : Box} {S : Sent} {i : Identity} {r r' : Router} → Ok n B S i r → Moves r n r'
    → ((c : Lease) (e : Moment) → Held r' c e → n < e → Binds B i c e) → Ok n B S i r'
ok-moves o v k = record {
  fit = v.fit;
  named = v.me-same ∙ o.named;
  since = omega (arith, o.since, v.started-same);
  prior = omega (arith, o.prior, v.began-same);
  calm = λ b. let h = v.busy b in let g = o.calm h.0 in omega (arith, v.started-same);
  frees = λ q u. freed-moves (omega (arith, v.started-same)) v.freed-up (o.frees q u);
  ages = λ q u. aged-moves v (o.ages q u);
  bound = λ h l. k _ _ h l;
  granted = λ p q d l u. rw v.began-same (o.granted (v.opens _ p) q (rw v.next-same at d) l (rw v.began-same at u));
}

aged-began : {r r' : Router} {n s x : ℕ} {m : List ℕ} → Began r n r' m → s ≤ n → Aged r s x → Aged r' s x
aged-began v l (former h) = former (omega (arith, v.started-same))
aged-began v l (latest e) = ago 2 (omega arith) (omega (arith, v.next_up)) (omega (arith, v.began-now))
aged-began v l (ago k g e h) = ago (k + 1) (omega arith) (omega (arith, v.next_up)) (omega (arith, v.began-now, v.after-second))

-- no message in flight bears the number of a new exchange
pub unheard : {r r' : Router} {n s : ℕ} {m : List ℕ} → r.began ≤ n → Began r n r' m → n ≤ s + 60 → Aged r s r.next → ⊥
unheard p v l (former h) = omega (arith, v.after-start)
unheard p v l (latest e) = omega arith
unheard p v l (ago k g e h) = omega arith

number-back : (x : ℕ) → x < 2 ^ 24 → number_before (number_after x) ≡ x
number-back x h = omega arith

-- a router begins an exchange
ok-began : {n : Moment} {B : Box} {A : Alive} {S : Sent} {i : Identity} {r r' : Router} {m : List ℕ}
    → Inv n B A S → Ok n B S i r → Began r n r' m → Ok n B S i r'
ok-began {i = i} {r = r} {r' = r'} I o v = record {
  fit = v.fit;
  named = v.me-same ∙ o.named;
  since = omega (arith, o.since, v.started-same);
  prior = omega (arith, v.began-now);
  calm = λ b. omega (arith, v.busy b, v.started-same, v.after-start, v.after-freed);
  frees = λ q u. freed-moves (omega (arith, v.started-same)) v.freed-up (o.frees q u);
  ages = λ q u. aged-began v (I.soon q) (o.ages q u);
  bound = λ h l. o.bound (v.holds _ _ h) l;
  granted = λ p q d l u.
      let x : number_before r'.next ≡ r.next = ap number_before v.next_up ∙ number-back r.next v.small in
      let e = I.echoed q (rw x at d) in
      absurd (unheard o.prior v (omega (arith, e.5)) (o.ages e.3 e.4));
}

-- a router starts
ok-fresh : {n : Moment} {B : Box} {A : Alive} {S : Sent} {i : Identity} {r : Router} → Inv n B A S → Fresh i n r → Ok n B S i r
ok-fresh I v = record {
  fit = v.fit;
  named = v.me;
  since = omega (arith, v.started-now);
  prior = v.began-by;
  calm = λ b. absurd (v.idle b);
  frees = λ q u. inl (omega (arith, v.started-now, I.soon q));
  ages = λ q u. former (omega (arith, v.started-now, I.soon q));
  bound = λ h l. absurd (v.idle (holding h));
  granted = λ p q d l u. absurd (v.idle (asking p));
}

-- a Release that can still arrive is from no busy router
pub no-release : {n s x : ℕ} {B : Box} {S : Sent} {i : Identity} {r : Router} {m : List ℕ}
    → Ok n B S i r → Busy r → In s m S → n ≤ s + 30 → Up m i x true → ⊥
no-release o b q l u = go l (o.calm b) (o.frees q u)
  where
    go : {a c s n : ℕ} → n ≤ s + 30 → (a + 30 < n) × (c + 30 < n) → (s ≤ a) ⊎ (s ≤ c) → ⊥
    go l h (inl k) = omega arith
    go l h (inr k) = omega arith

-- ---------------------------------------------------------------- the world, step by step

soon-add : {n : Moment} {B : Box} {A : Alive} {S : Sent} {m m' : List ℕ} {s : ℕ} → Inv n B A S → In s m' ((n, m) ∷ S) → s ≤ n
soon-add I (last p q) = omega arith
soon-add I (older k) = I.soon k

abbrev pub Echo : Sent → ℕ → Identity → ℕ → Type 0
Echo S s i x = (s' : ℕ) × (m' : List ℕ) × (b : Bool) × In s' m' S × Up m' i x b × (s ≤ s' + 30)

later : {S : Sent} {p : Moment × List ℕ} {s x : ℕ} {i : Identity} → Echo S s i x → Echo (p ∷ S) s i x
later e = (e.0, e.1, e.2, older e.3, e.4, e.5)

echo-add : {n : Moment} {B : Box} {A : Alive} {S : Sent} {m m' : List ℕ} {s x : ℕ} {i : Identity} {c : Lease} {v : Lifetime}
    → Inv n B A S → (Down m i x c v → Echo S n i x) → In s m' ((n, m) ∷ S) → Down m' i x c v → Echo ((n, m) ∷ S) s i x
echo-add I f (last p q) d = rw p (later (f (rw q at d)))
echo-add I f (older k) d = later (I.echoed k d)

lasts-add : {n : Moment} {B : Box} {S : Sent} {m m' : List ℕ} {s x : ℕ} {i : Identity} {c : Lease} {v : Lifetime}
    → (Down m i x c v → Lasts B v) → (In s m' S → Down m' i x c v → Lasts B v) → In s m' ((n, m) ∷ S) → Down m' i x c v → Lasts B v
lasts-add f g (last p q) d = f (rw q at d)
lasts-add f g (older k) d = g k d

-- a router changes, and sends a message
inv-says : {n : Moment} {B : Box} {A : Alive} {S : Sent} {r' : Router} {m : List ℕ} (i : Identity)
    → Inv n B A S → Ok n B S i r'
    → ((j : Identity) (x : ℕ) (b : Bool) → Up m j x b → (j ≡ i) × Aged r' n x)
    → ((j : Identity) (x : ℕ) → Up m j x true → n ≤ r'.freed)
    → ((j : Identity) (x : ℕ) (c : Lease) (v : Lifetime) → Down m j x c v → ⊥)
    → Inv n B (put A i (Some r')) ((n, m) ∷ S)
inv-says {A = A} i I o g f d = record {
  sound-table = I.sound-table;
  soon = soon-add I;
  echoed = echo-add I (λ h. absurd (d _ _ _ _ h));
  lasting = lasts-add (λ h. absurd (d _ _ _ _ h)) I.lasting;
  ok = put_all (Ok _ _ _) A i
      (ok_add o (f i) (λ x b u. (g i x b u).1) (λ c v p h. absurd (d _ _ _ _ h)))
      (λ j q z p. ok_add (I.ok j q p) (λ x u. absurd (others z (g j x true u).0)) (λ x b u. absurd (others z (g j x b u).0))
      (λ c v p h. absurd (d _ _ _ _ h)));
}

inv-sends : {n : Moment} {B : Box} {A : Alive} {S : Sent} {r r' : Router} {m : List ℕ} (i : Identity)
    → Inv n B A S → A i ≡ Some r → Began r n r' m → Inv n B (put A i (Some r')) ((n, m) ∷ S)
inv-sends i I e v = let o = I.ok _ _ e in
    inv-says i I (ok-began I o v)
    (λ j x b u. let h = v.reads j x b u in (h.0 ∙ o.named, latest (rw h.1 (sym v.next_up)))) v.frees v.silent

number-again : (x y : ℕ) → y < 2 ^ 24 → x ≡ number_before y → (x + 1) % 16777216 ≡ y
number-again x y h e = omega arith

inv-resends : {n : Moment} {B : Box} {A : Alive} {S : Sent} {r r' : Router} {m : List ℕ} (i : Identity)
    → Inv n B A S → A i ≡ Some r → Resent r n r' m → Inv n B (put A i (Some r')) ((n, m) ∷ S)
inv-resends i I e v = let o = I.ok _ _ e in
    inv-says i I (ok-moves o v.moves (λ c w h l. o.bound (v.holds c w h) l))
    (λ j x b u. let h = v.reads j x b u in
    (h.0 ∙ o.named, latest (number-again x _ o.fit.small h.1 ∙ sym v.moves.next-same))) v.frees v.silent

-- a router changes, and sends nothing
inv-moves : {n : Moment} {B : Box} {A : Alive} {S : Sent} {r r' : Router} (i : Identity)
    → Inv n B A S → A i ≡ Some r → Moves r n r'
    → ((c : Lease) (e : Moment) → Held r' c e → n < e → Binds B i c e) → Inv n B (put A i (Some r')) S
inv-moves {A = A} i I e v h = record {
  sound-table = I.sound-table;
  soon = I.soon;
  echoed = I.echoed;
  lasting = I.lasting;
  ok = put_all (Ok _ _ _) A i (ok-moves (I.ok _ _ e) v h) (λ j q z p. I.ok j q p);
}

taken : {n s : ℕ} {B : Box} {S : Sent} {i : Identity} {r r' : Router} {m : List ℕ} → Ok n B S i r → Got r n m r'
    → In s m S → n ≤ s + 30 → (c : Lease) (e : Moment) → Held r' c e → n < e → Binds B i c e
taken {n} {s} {B} {S} {i} {r} {r'} {m} o v q l c e h g = go (v.holds c e h)
  where
    go : Held r c e ⊎ ((w : Lifetime) × Open r false × Down m r.me (number_before r.next) c w × (e ≡ plus r.began w)) → Binds B i c e
    go (inl k) = o.bound k g
    go (inr k) = rw k.3 (o.granted k.1 q (rw o.named at k.2) l (rw k.3 at g))

-- the box serves a message
inv-serves : {n s : ℕ} {T T' : Table} {A : Alive} {S : Sent} {m a : List ℕ}
    → Inv n (Some T) A S → In s m S → n ≤ s + 30 → Served T n m T' a → Inv n (Some T') A ((n, a) ∷ S)
inv-serves {s = s} {T = T} {T' = T'} {m = m} I q l v = record {
  sound-table = λ t e. let w : T' ≡ t = cc in rw (← w) v.sound-after;
  soon = soon-add I;
  echoed = echo-add I (λ d. let h = v.echoes _ _ _ _ d in (s, m, h.0, q, h.1, l));
  lasting = lasts-add (λ d. (T', refl, v.lasting _ _ _ _ d ∙ ap (λ z. z.valid) (sym v.settings-same)))
      (λ k d. let h = I.lasting k d in let w : h.0 ≡ T = cc in (T', refl, h.2 ∙ ap (λ (t : Table). t.settings.valid) w ∙ ap (λ z. z.valid) (sym v.settings-same)));
  ok = λ i r p. let o = I.ok i r p in
      ok_add (ok-table o (λ b c e h g. v.keeps i c e h g (λ x u. no-release o b q l u)))
      (λ x u. absurd (v.mute _ _ _ u)) (λ x b u. absurd (v.mute _ _ _ u))
      (λ c w p d. v.gives i _ c w _ d o.prior);
}

-- ---------------------------------------------------------------- every run

-- what the steps tell, gathered
pub record Steps : Type 0 where
  pub box-starts : (s : Settings) (n : Moment) (T : Table) → box_start s n ≡ done T → sound T ≡ true
  pub starts : (i : Identity) (w : ℕ) (n : Moment) (r : Router) → router_start i w n ≡ done r → Fresh i n r
  pub begins : (k : Kind) (r r' : Router) (n : Moment) (room : ℕ) (m : List ℕ) → Fit r → router_send k r n room ≡ done (r', m) → Began r n r' m
  pub repeats : (r r' : Router) (n : Moment) (room : ℕ) (m : List ℕ) → Fit r → router_resend r n room ≡ done (r', m) → Resent r n r' m
  pub closes : (r r' : Router) (n : Moment) → Fit r → router_abandon r n ≡ done r'
      → Moves r n r' × ((c : Lease) (e : Moment) → Held r' c e → Held r c e)
  pub accepts : (r r' : Router) (n : Moment) (m : List ℕ) → Fit r → router_receive r n m ≡ done r' → Got r n m r'
  pub answers : (T T' : Table) (n : Moment) (m a : List ℕ) (room : ℕ) → box_handle T n m room ≡ done (T', a) → Served T n m T' a

-- nothing is bound where no box has started
unopened : {i : Identity} {c : Lease} {e : Moment} → Binds None i c e → ⊥
unopened b = none-some _ b.started

module _ (L : Steps) where
  pub invariant : {n : Moment} {B : Box} {A : Alive} {S : Sent} → Run n B A S → Inv n B A S
  invariant nobody = record {
    sound-table = λ t e. absurd (none-some t e);
    soon = λ q. elim q [ ];
    echoed = λ q. elim q [ ];
    lasting = λ q. elim q [ ];
    ok = λ i r e. absurd (none-some r e);
  }
  invariant (opens {T = T} R s e) = let I = invariant R in record {
    sound-table = λ t d. let w : T ≡ t = cc in rw (← w) (L.box-starts s _ T e);
    soon = I.soon;
    echoed = I.echoed;
    lasting = λ q d. absurd (none-some _ (I.lasting q d).1);
    ok = λ i r p. ok-table (I.ok i r p) (λ b c d h g. absurd (unopened h));
  }
  invariant (tick R g) = let I = invariant R in record {
    sound-table = I.sound-table;
    soon = λ q. omega (arith, I.soon q);
    echoed = I.echoed;
    lasting = I.lasting;
    ok = λ i r e. ok-tick g (I.ok i r e);
  }
  invariant (born {A = A} R i w z e) = let I = invariant R in record {
    sound-table = I.sound-table;
    soon = I.soon;
    echoed = I.echoed;
    lasting = I.lasting;
    ok = put_all (Ok _ _ _) A i (ok-fresh I (L.starts i w _ _ e)) (λ j q d p. I.ok j q p);
  }
  invariant (dies {A = A} R i) = let I = invariant R in record {
    sound-table = I.sound-table;
    soon = I.soon;
    echoed = I.echoed;
    lasting = I.lasting;
    ok = λ j q p. I.ok j q (drop_all A i j q p);
  }
  invariant (sends R i k room e h) = let I = invariant R in inv-sends i I e (L.begins k _ _ _ room _ (I.ok _ _ e).fit h)
  invariant (resends R i room e h) = let I = invariant R in inv-resends i I e (L.repeats _ _ _ room _ (I.ok _ _ e).fit h)
  invariant (abandons R i e h) = let I = invariant R in let v = L.closes _ _ _ (I.ok _ _ e).fit h in
      inv-moves i I e v.0 (λ c w k l. (I.ok _ _ e).bound (v.1 c w k) l)
  invariant (receives R i e q l h) = let I = invariant R in let v = L.accepts _ _ _ _ (I.ok _ _ e).fit h in
      inv-moves i I e v.moves (taken (I.ok _ _ e) v q l)
  invariant (serves R room q l h) = inv-serves (invariant R) q l (L.answers _ _ _ _ _ room h)
