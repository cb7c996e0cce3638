-- What the box tells: a message that it serves meets what Readings says of it.
use Rattle.std.specs.Prelude.{ℕ, ◌+◌, ◌≤◌, ◌<◌, ◌≡◌, Bool, cond, ◌⊎◌, eqb, get_or, Option, None, Some}
use Rattle.std.proofs.Math.Path.{refl, sym, ap, subst}
use Rattle.std.proofs.Common.{◌∙◌, true≢false, arith, lt-ltb}
use Rattle.std.proofs.Math.Bool.{true, false, not}
use mathlib.Core.List.Memᴰ
use mathlib.Core.List.{List, [], ◌∷◌, map, Memᴰ}
use Rattle.std.proofs.Math.Logic.{inl, inr}
use Rattle.std.proofs.lemmas.Option.{none-some}
use Rattle.rules.specs.Words.{keep, first, cons_if}
use Rattle.rules.specs.Refusals.{done}
use Rattle.rules.specs.Prefix.{Prefix, Lease}
use Rattle.rules.specs.Message.{Listed, Message, read, print}
use Rattle.rules.specs.Clock.{Moment, Lifetime, for_ever, never, plus}
use Rattle.rules.specs.Identity.{Identity, kind_of, answer_type, served, is_release}
use Rattle.rules.specs.Settings.{Settings}
use Rattle.rules.specs.Table.{Record, Table, is_binding, live, give_up, current}
use Rattle.rules.specs.Choose.{choose}
use Rattle.rules.specs.Box.{binding, lease_for, bind, longer, extend, returned, gone, is_freed, hint_of, Verdict, offer, return, say, success, silence, no_binding, Served as Outcome, leaves, Asked, serve_solicit, serve_request, serve_renew, serve_rebind, serve_release, serve, answer_to, client_of, ia_of, asked_by, serving, saying, table_after, answer_after, box_handle}
use Rattle.rules.specs.Router.{takes}
use Rattle.rules.specs.declared.Kind.{Kind}
use Rattle.rules.specs.declared.Kind.TheVariants.{Solicit, Request, Renew, Rebind, Release}
use Rattle.laws.specs.Tests.{false-true}
use Rattle.laws.specs.Round.{print-read}
use Rattle.laws.specs.Said.{offer-taken}
use Rattle.laws.specs.Refusals.{two}
use Rattle.laws.specs.Kinds.{answer-unserved, identity-path, identity-true}
use Rattle.laws.specs.Sound.{give-up, touched}
use Rattle.promises.specs.Readings.{Up, Down, Binds, Served}
use Rattle.laws.specs.Accepted.{Accepted, accepted, sound-after, verdict-said, answer-sendable}

-- ---------------------------------------------------------------- records that stay

abbrev Mem : Record → List Record → Type 0
Mem = Memᴰ

-- the same record, with an end that is no earlier
record Later (ρ σ : Record) : Type 0 where
  owner-same : σ.owner ≡ ρ.owner
  lease-same : σ.lease ≡ ρ.lease
  end-up : ρ.end ≤ σ.end

same : (ρ : Record) → Later ρ ρ
same ρ = record { owner-same = refl; lease-same = refl; end-up = omega arith }

keep-mem : (f : Record → Bool) {ρ : Record} (l : List Record) → f ρ ≡ true → Mem ρ l → Mem ρ (keep f l)
keep-mem f [] g h = elim h [ ]
keep-mem f {ρ} (a ∷ l) g h = by (f a) refl (Memᴰ.cases_cons h) (keep-mem f l g)
  where
    by : (b : Bool) → f a ≡ b → (ρ ≡ a) ⊎ Mem ρ l → (Mem ρ l → Mem ρ (keep f l)) → Mem ρ (cons_if b a (keep f l))
    by true q (inl e) r = Memᴰ.head e
    by true q (inr k) r = Memᴰ.tail (r k)
    by false q (inl e) r = absurd (false-true (sym q ∙ ap f (sym e) ∙ g))
    by false q (inr k) r = r k

give-up-mem : (f : Record → Bool) {ρ : Record} (l : List Record) → f ρ ≡ false → Mem ρ l → Mem ρ (give_up f l)
give-up-mem f l g h = rw (give-up f l) (keep-mem (λ r. not (f r)) l (ap not g) h)

first-mem : (f : Record → Bool) {ρ : Record} (l : List Record) → first f l ≡ Some ρ → Mem ρ l × (f ρ ≡ true)
first-mem f {ρ} [] e = absurd (none-some ρ e)
first-mem f {ρ} (a ∷ l) e = by (f a) refl e (first-mem f l)
  where
    by : (b : Bool) → f a ≡ b → cond b (Some a) (first f l) ≡ Some ρ → (first f l ≡ Some ρ → Mem ρ l × (f ρ ≡ true)) → Mem ρ (a ∷ l) × (f ρ ≡ true)
    by true q e r = let w : a ≡ ρ = cc in (Memᴰ.head (sym w), rw (← w) q)
    by false q e r = let z = r e in (Memᴰ.tail z.0, z.1)

map-mem : (g : Record → Record) {ρ : Record} (l : List Record) → Mem ρ l → Mem (g ρ) (map g l)
map-mem g [] h = elim h [ ]
map-mem g {ρ} (a ∷ l) h = by (Memᴰ.cases_cons h) (map-mem g l)
  where
    by : (ρ ≡ a) ⊎ Mem ρ l → (Mem ρ l → Mem (g ρ) (map g l)) → Mem (g ρ) (g a ∷ map g l)
    by (inl e) r = Memᴰ.head (ap g e)
    by (inr k) r = Memᴰ.tail (r k)

module _ (s : Settings) (i : Identity) (now : Moment) (v : Lifetime) where
  touched-later : (ρ : Record) → Later ρ (touched s i now v ρ)
  touched-later ρ = by (is_binding i ρ)
    where
      by : (b : Bool) → Later ρ (cond b (longer now v ρ) ρ)
      by true = record { owner-same = refl; lease-same = refl; end-up = omega arith }
      by false = same ρ

  touched-up : (ρ : Record) → is_binding i ρ ≡ true → plus now v ≤ (touched s i now v ρ).end
  touched-up ρ q = rw q (omega arith)

-- ---------------------------------------------------------------- one IA_PD served

abbrev is_solicit : Kind → Bool
is_solicit Solicit = true
is_solicit Request = false
is_solicit Renew = false
is_solicit Rebind = false
is_solicit Release = false

record Acts (s : Settings) (now : Moment) (q : Asked) (rs : List Record) (k : Kind) (o : Outcome) : Type 0 where
  kept : (ρ : Record) → Mem ρ rs → (is_binding q.who ρ ≡ false) ⊎ (is_release k ≡ false) → (σ : Record) × Mem σ o.records × Later ρ σ
  gave : (c : Lease) (xs : List Listed) → o.verdict ≡ offer c xs → is_solicit k ≡ false
      → (σ : Record) × Mem σ o.records × (σ.owner ≡ q.who) × (σ.lease ≡ c) × (plus now s.valid ≤ σ.end)

module _ (s : Settings) (now : Moment) (q : Asked) (rs : List Record) where
  idle : (k : Kind) (v : Verdict) → ((c : Lease) (xs : List Listed) → v ≡ offer c xs → is_solicit k ≡ false → ⊥) → Acts s now q rs k (leaves rs v)
  idle k v f = record { kept = λ ρ h z. (ρ, h, same ρ); gave = λ c xs e z. absurd (f c xs e z) }

  says : (k : Kind) (n : ℕ) → Acts s now q rs k (leaves rs (say n))
  says k n = idle k (say n) (λ c xs e z. let w : ◌≡◌ {A = ℕ} 0 1 = cc in omega arith)

  extends : (k : Kind) (r : Record) (zs : List Listed) → binding q.who rs ≡ Some r → Acts s now q rs k (leaves (extend q.who now s.valid rs) (offer r.lease zs))
  unfolding extend
  extends k r zs b = record {
    kept = λ ρ h z. (touched s q.who now s.valid ρ, map-mem (touched s q.who now s.valid) rs h, touched-later s q.who now s.valid ρ);
    gave = λ c xs e z.
        let f = first-mem (is_binding q.who) rs b in
        let t = touched-later s q.who now s.valid r in
        let w : r.lease ≡ c = cc in (
          touched s q.who now s.valid r,
          map-mem (touched s q.who now s.valid) rs f.0,
          t.owner-same ∙ identity-true _ _ f.1,
          t.lease-same ∙ w,
          touched-up s q.who now s.valid r f.1,
        );
  }

  binds : (p : Prefix) → Acts s now q rs Request (leaves (bind q.who (lease_for s q.asks p) (plus now s.valid) rs) (offer (lease_for s q.asks p) []))
  binds p = record {
    kept = λ ρ h z. (ρ, Memᴰ.append_left _ h, same ρ);
    gave = λ c xs e z. let w : lease_for s q.asks p ≡ c = cc in (_, Memᴰ.append_right rs (Memᴰ.head refl), refl, w, omega arith);
  }

  solicits : (f : Option Record) (c : Option Prefix) → Acts s now q rs Solicit (serve_solicit s now q rs f c)
  solicits (Some r) c = idle Solicit (offer r.lease []) (λ c xs e z. true≢false z)
  solicits None (Some p) = idle Solicit _ (λ c xs e z. true≢false z)
  solicits None None = says Solicit 6

  requests : (f : Option Record) (c : Option Prefix) → binding q.who rs ≡ f → Acts s now q rs Request (serve_request s now q rs f c)
  requests (Some r) c b = extends Request r [] b
  requests None (Some p) b = binds p
  requests None None b = says Request 6

  renews : (k : Kind) (f : Option Record) → binding q.who rs ≡ f → Acts s now q rs k (serve_renew s now q rs f)
  renews k (Some r) b = extends k r _ b
  renews k None b = says k 3

  rebinds : (f : Option Record) → binding q.who rs ≡ f → Acts s now q rs Rebind (serve_rebind s now q rs f)
  rebinds (Some r) b = extends Rebind r _ b
  rebinds None b = by (gone s q.listed)
    where
      by : (b : Bool) → Acts s now q rs Rebind (leaves rs (cond b (return (map returned q.listed)) silence))
      by true = idle Rebind _ (λ c xs e z. let w : ◌≡◌ {A = ℕ} 0 1 = cc in omega arith)
      by false = idle Rebind _ (λ c xs e z. let w : ◌≡◌ {A = ℕ} 0 1 = cc in omega arith)

  releases : (f : Option Record) → Acts s now q rs Release (serve_release s now q rs f)
  releases None = says Release 3
  releases (Some r) = by (is_freed r q.listed)
    where
      by : (b : Bool) → Acts s now q rs Release (cond b (leaves (give_up (is_binding q.who) rs) success) (leaves rs no_binding))
      by true = record {
        kept = λ ρ h z. elim z [ inl d ↦ (ρ, give-up-mem (is_binding q.who) rs d h, same ρ) | inr d ↦ absurd (true≢false d) ];
        gave = λ c xs e z. let w : ◌≡◌ {A = ℕ} 0 1 = cc in absurd (omega arith);
      }
      by false = says Release 3

  acts : (k : Kind) → Acts s now q rs k (serve s now q rs k)
  unfolding serve
  acts Solicit = solicits (binding q.who rs) (choose s rs (hint_of q.listed))
  acts Request = requests (binding q.who rs) (choose s rs (hint_of q.listed)) refl
  acts Renew = renews Renew (binding q.who rs) refl
  acts Rebind = rebinds (binding q.who rs) refl
  acts Release = releases (binding q.who rs)

-- ---------------------------------------------------------------- a message served

plus-mono : (t n : Moment) (v : Lifetime) → t ≤ n → plus t v ≤ plus n v
unfolding plus
plus-mono t n v l = by (eqb v for_ever)
  where
    by : (b : Bool) → cond b never (t + v) ≤ cond b never (n + v)
    by true = omega arith
    by false = omega arith

module _ {T : Table} {n : Moment} {m : List ℕ} {room : ℕ} (a : Accepted T n m room) where
  abbrev v : Message
  v = read m

  abbrev s : Settings
  s = T.settings

  abbrev rs : List Record
  rs = current n T.records

  abbrev q : Asked
  q = asked_by v

  pub answer-reads : read (print (answer_after T n v)) ≡ answer_after T n v
  answer-reads = print-read (answer_after T n v) (answer-sendable a).fine

  act : Acts s n q rs (kind_of v.kind) (serving T n v)
  unfolding serving
  act = acts s n q rs (kind_of v.kind)

  -- the message reads as its asker's
  up : {i : Identity} {x : ℕ} → q.who ≡ i → v.number ≡ x → Up m i x (is_release (kind_of v.kind))
  up e f = record { kind = a.kind; asker = e; number = f; frees = refl }

  abbrev out : List ℕ
  out = print (answer_after T n v)

  -- what a Reply gives: the lease that was offered, to the asker
  record Given (i : Identity) (x : ℕ) (c : Lease) (w : Lifetime) : Type 0 where
    rest : List Listed
    offers : (serving T n v).verdict ≡ offer c rest
    lasting : w ≡ s.valid
    asker : q.who ≡ i
    number : v.number ≡ x
    replied : is_solicit (kind_of v.kind) ≡ false

  given : (i : Identity) (x : ℕ) (c : Lease) (w : Lifetime) → Down out i x c w → Given i x c w
  unfolding answer_after answer_to
  given i x c w d =
      let e = answer-reads in
      let t : first takes (get_or (saying T n v) 0 _).listed ≡ Some d.listed = ap (λ u. first takes (ia_of u).listed) (sym e) ∙ d.taken in
      let z = offer-taken s (ia_of v).iaid (serving T n v).verdict _ refl (verdict-said a).1 d.listed t in
      let l : z.0 ≡ c = ap (λ u. u.lease) (sym z.3) ∙ d.lease in
      record {
        rest = z.1;
        offers = z.2 ∙ ap (λ k. offer k z.1) l;
        lasting = sym d.valid ∙ ap (λ u. u.valid) z.3;
        asker = identity-path (ap client_of (sym e) ∙ d.client) (sym z.4 ∙ ap (λ u. (ia_of u).iaid) (sym e) ∙ d.iaid);
        number = ap (λ u. u.number) (sym e) ∙ d.number;
        replied = reply (kind_of v.kind) (ap (λ u. u.kind) (sym e) ∙ d.reply);
      }
    where
      reply : (k : Kind) → answer_type k ≡ 7 → is_solicit k ≡ false
      reply Solicit h = absurd (omega arith)
      reply Request h = refl
      reply Renew h = refl
      reply Rebind h = refl
      reply Release h = refl

  keeps : (i : Identity) (c : Lease) (e : Moment) → Binds (Some T) i c e → n < e → ((x : ℕ) → Up m i x true → ⊥) → Binds (Some (table_after T n v)) i c e
  unfolding table_after
  keeps i c e b l f =
      let w : T ≡ b.table = cc in
      let h : Mem b.record_of T.records = subst (λ t. Mem b.record_of t.records) (sym w) b.stands in
      let g = give-up-mem (λ r. not (live n r)) T.records (ap not (lt-ltb n _ (omega (arith, b.lasts)))) h in
      let k = act.kept b.record_of g (other (is_binding q.who b.record_of) refl (is_release (kind_of v.kind)) refl) in
      record {
        table = table_after T n v;
        started = refl;
        record_of = k.0;
        stands = k.1;
        owned = k.2.owner-same ∙ b.owned;
        same = k.2.lease-same ∙ b.same;
        lasts = omega (arith, k.2.end-up, b.lasts);
      }
    where
      other : (x : Bool) → is_binding q.who b.record_of ≡ x → (y : Bool) → is_release (kind_of v.kind) ≡ y
          → (is_binding q.who b.record_of ≡ false) ⊎ (is_release (kind_of v.kind) ≡ false)
      other false p y r = inl p
      other true p false r = inr r
      other true p true r =
          let o : q.who ≡ i = sym (identity-true _ _ p) ∙ b.owned in
          absurd (f v.number (subst (Up m i v.number) r (up o refl)))

  gives : (i : Identity) (x : ℕ) (c : Lease) (w : Lifetime) (t : Moment) → Down out i x c w → t ≤ n → Binds (Some (table_after T n v)) i c (plus t w)
  unfolding table_after
  gives i x c w t d l =
      let g = given i x c w d in
      let k = act.gave c g.rest g.offers g.replied in
      let p : plus t w ≤ plus n s.valid = subst (λ u. plus t w ≤ plus n u) g.lasting (plus-mono t n w l) in
      record {
        table = table_after T n v;
        started = refl;
        record_of = k.0;
        stands = k.1;
        owned = k.2 ∙ g.asker;
        same = k.3;
        lasts = omega (arith, k.4);
      }

  answers-so : Served T n m (table_after T n v) out
  unfolding table_after answer_after answer_to
  answers-so = record {
    sound-after = sound-after a;
    settings-same = refl;
    keeps = keeps;
    gives = gives;
    echoes = λ i x c w d. let g = given i x c w d in (is_release (kind_of v.kind), up g.asker g.number);
    lasting = λ i x c w d. (given i x c w d).lasting;
    mute = mute;
  }
    where
      mute : (i : Identity) (x : ℕ) (b : Bool) → Up out i x b → ⊥
      mute i x b u = answer-unserved (kind_of v.kind) (ap (λ w. served w.kind) (sym answer-reads) ∙ u.kind)

pub answers : (T T' : Table) (n : Moment) (m a : List ℕ) (room : ℕ) → box_handle T n m room ≡ done (T', a) → Served T n m T' a
answers T T' n m a room e = let p = accepted e in two (Served T n m) p.1 (answers-so p.0)
