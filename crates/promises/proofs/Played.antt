-- What is played under the rules as they stand is a run of the world: so the promises hold of it.
use Rattle.std.specs.Prelude.{ℕ, zero, suc, ◌+◌, ◌<◌, ◌≡◌, refl, Bool, true, false, cond, List, [], ◌∷◌, leb, ltb, Option, None, Some, slice_get}
use Rattle.std.proofs.Common.{sym, ◌∙◌, ap, subst, leb-true, ltb-true}
use Rattle.std.proofs.lemmas.Option.{none-some}
use Rattle.rules.specs.Refusals.{Res, refuse, done, unless}
use Rattle.rules.specs.Prefix.{Lease}
use Rattle.rules.specs.Message.{read}
use Rattle.rules.specs.Clock.{Moment}
use Rattle.rules.specs.Identity.{Identity}
use Rattle.rules.specs.Settings.{Settings}
use Rattle.rules.specs.Table.{Record, Table, current}
use Rattle.rules.specs.Box.{Asked, serve, serving, table_after, answer_after, box_tests, box_start, box_handle}
use Rattle.rules.specs.Router.{Router, Hold, holds, accept, router_start, router_send, router_resend, router_abandon, router_receive}
use Rattle.rules.specs.World.{Sent, In, last, older, Run}
use Rattle.rules.specs.World as world
use Rattle.rules.specs.declared.Kind.{Kind}
use Rattle.rules.specs.declared.Kind.TheVariants.{Solicit, Request, Renew, Rebind, Release}
use Rattle.promises.specs.Play.{standing, send_by, receive_by, serve_by, answer_by, handle_by, World, empty, Event, tick, opens, born, dies, sends, resends, abandons, receives, serves, copy, when_done, when_some, when_none, step, play, holding, shared, lent_twice}
use Rattle.promises.proofs.Demand3.{apart}

-- ---------------------------------------------------------------- the operations as they stand

send-stands : (k : Kind) (r : Router) (now : Moment) (room : ℕ) → send_by standing k r now room ≡ router_send k r now room
unfolding send_by router_send
send-stands k r now room = refl

receive-stands : (r : Router) (now : Moment) (m : List ℕ) → receive_by standing r now m ≡ router_receive r now m
unfolding receive_by router_receive accept
receive-stands r now m = refl

serve-stands : (s : Settings) (now : Moment) (q : Asked) (rs : List Record) (k : Kind) → serve_by standing s now q rs k ≡ serve s now q rs k
unfolding serve
serve-stands s now q rs Solicit = refl
serve-stands s now q rs Request = refl
serve-stands s now q rs Renew = refl
serve-stands s now q rs Rebind = refl
serve-stands s now q rs Release = refl

handle-stands : (t : Table) (now : Moment) (m : List ℕ) (room : ℕ) → handle_by standing t now m room ≡ box_handle t now m room
unfolding handle_by box_handle serving table_after answer_after
handle-stands t now m room =
    ap (λ d. unless (box_tests t now m (read m) room) (done (answer_by t now (read m) d)))
    (serve-stands t.settings now _ (current now t.records) _)

-- ---------------------------------------------------------------- what a step that is taken tells

when-done : {A : Type 0} {f : A → World} {w : World} (x : Res A) → when_done f x ≡ Some w → (y : A) × (x ≡ done y) × (f y ≡ w)
when-done (refuse n) e = absurd (none-some _ e)
when-done (done y) e = (y, refl, cc)

when-some : {A B : Type 0} {f : A → Option B} {b : B} (o : Option A) → when_some f o ≡ Some b → (x : A) × (o ≡ Some x) × (f x ≡ Some b)
when-some None e = absurd (none-some _ e)
when-some (Some x) e = (x, refl, e)

when-none : {A B : Type 0} {w : Option B} {b : B} (o : Option A) → when_none w o ≡ Some b → (o ≡ None) × (w ≡ Some b)
when-none None e = (refl, e)
when-none (Some x) e = absurd (none-some _ e)

when_true : {A : Type 0} {x : Option A} {y : A} (b : Bool) → cond b x None ≡ Some y → (b ≡ true) × (x ≡ Some y)
when_true true e = (refl, e)
when_true false e = absurd (none-some _ e)

some_same : {A : Type 0} {x y : A} → Some x ≡ Some y → x ≡ y
some_same e = cc

copy-in : (S : Sent) (k : ℕ) (c : Moment × List ℕ) → slice_get S k ≡ Some c → In c.0 c.1 S
copy-in [] k c e = absurd (none-some _ e)
copy-in (a ∷ S) zero c e = last (ap (λ x. x.0) (sym (some_same e))) (ap (λ x. x.1) (sym (some_same e)))
copy-in (a ∷ S) (suc k) c e = older (copy-in S k c e)

-- ---------------------------------------------------------------- a step, and all of them

abbrev pub Ran : World → Type 0
Ran w = Run w.now w.box w.alive w.sent

step_run : (w w' : World) (e : Event) → step standing w e ≡ Some w' → Ran w → Ran w'
unfolding step
step_run w w' (tick n) e R = let a = when_true (leb w.now n) e in subst Ran (some_same a.1) (world.tick R (leb-true _ _ a.0))
step_run w w' (opens s) e R =
    let a = when-none w.box e in
    let d = when-done (box_start s w.now) a.1 in
    subst Ran d.2 (world.opens (subst (λ b. Run w.now b w.alive w.sent) a.0 R) s d.1)
step_run w w' (born i n) e R =
    let a = when-none (w.alive i) e in
    let d = when-done (router_start i n w.now) a.1 in
    subst Ran d.2 (world.born R i n a.0 d.1)
step_run w w' (dies i) e R = subst Ran (some_same e) (world.dies R i)
step_run w w' (sends i k) e R =
    let a = when-some (w.alive i) e in
    let d = when-done (send_by standing k a.0 w.now 512) a.2 in
    subst Ran d.2 (world.sends R i k 512 a.1 (sym (send-stands k a.0 w.now 512) ∙ d.1))
step_run w w' (resends i) e R =
    let a = when-some (w.alive i) e in
    let d = when-done (router_resend a.0 w.now 512) a.2 in
    subst Ran d.2 (world.resends R i 512 a.1 d.1)
step_run w w' (abandons i) e R =
    let a = when-some (w.alive i) e in
    let d = when-done (router_abandon a.0 w.now) a.2 in
    subst Ran d.2 (world.abandons R i a.1 d.1)
step_run w w' (receives i c) e R =
    let a = when-some (w.alive i) e in
    let b = when-some (copy c w.sent) a.2 in
    let t = when_true (leb w.now (b.0.0 + 30)) b.2 in
    let d = when-done (receive_by standing a.0 w.now b.0.1) t.1 in
    subst Ran d.2
    (world.receives R i a.1 (copy-in w.sent _ b.0 b.1) (leb-true _ _ t.0)
    (sym (receive-stands a.0 w.now b.0.1) ∙ d.1))
step_run w w' (serves c) e R =
    let a = when-some w.box e in
    let b = when-some (copy c w.sent) a.2 in
    let t = when_true (leb w.now (b.0.0 + 30)) b.2 in
    let d = when-done (handle_by standing a.0 w.now b.0.1 512) t.1 in
    subst Ran d.2
    (world.serves (subst (λ o. Run w.now o w.alive w.sent) a.1 R) 512 (copy-in w.sent _ b.0 b.1) (leb-true _ _ t.0)
    (sym (handle-stands a.0 w.now b.0.1 512) ∙ d.1))

pub play-run : (es : List Event) (w w' : World) → play standing es w ≡ Some w' → Ran w → Ran w'
unfolding play
play-run [] w w' e R = subst Ran (some_same e) R
play-run (e ∷ es) w w' h R = let a = when-some (step standing w e) h in play-run es a.0 w' a.2 (step_run w a.0 e a.1 R)

-- ---------------------------------------------------------------- nothing is lent twice

-- a lease counts as held: by a router alive, until a moment that hasn't come
record Holder (w : World) (i : Identity) (l : Lease) : Type 0 where
  router : Router
  hold : Hold
  alive : w.alive i ≡ Some router
  held : router.held ≡ Some hold
  lasts : w.now < hold.end
  same : hold.lease ≡ l

holder : (w : World) (i : Identity) (l : Lease) → holding w.now (w.alive i) ≡ Some l → Holder w i l
holder w i l e = router (w.alive i) refl e
  where
    lasting : (r : Router) (h : Hold) → w.alive i ≡ Some r → r.held ≡ Some h → holds w.now (Some h) ≡ Some l → Holder w i l
    lasting r h a k q = let t = when_true (ltb w.now h.end) q in
        record { router = r; hold = h; alive = a; held = k; lasts = ltb-true _ _ t.0; same = some_same t.1 }

    kept : (r : Router) (o : Option Hold) → w.alive i ≡ Some r → r.held ≡ o → holds w.now o ≡ Some l → Holder w i l
    kept r None a k q = absurd (none-some _ q)
    kept r (Some h) a k q = lasting r h a k q

    router : (o : Option Router) → w.alive i ≡ o → holding w.now o ≡ Some l → Holder w i l
    router None a q = absurd (none-some _ q)
    router (Some r) a q = kept r r.held a refl q

pub never-twice : (es : List Event) (w : World) (i j : Identity) → (i ≡ j → ⊥) → play standing es empty ≡ Some w → lent_twice i j w ≡ false
never-twice es w i j d e = by (holding w.now (w.alive i)) (holding w.now (w.alive j)) refl refl
  where
    by : (x y : Option Lease) → holding w.now (w.alive i) ≡ x → holding w.now (w.alive j) ≡ y → shared x y ≡ false
    by None y p q = refl
    by (Some l) None p q = refl
    by (Some l) (Some k) p q =
        let a = holder w i l p in
        let b = holder w j k q in
        let R = play-run es empty w e world.nobody in
        rw (← a.same, ← b.same)
        (apart w.now w.box w.alive w.sent R i j a.router b.router a.hold b.hold d a.alive a.held a.lasts b.alive
        b.held b.lasts)
