-- A plan carried out, arm by arm: e says which plan it is. And the answer.
use mathlib.Core.Path.{◌≡◌, refl, sym, ap, ◌∙◌, subst}
use mathlib.Core.Bool.{Bool, true, false, cond}
use mathlib.Core.List.{List, [], ◌∷◌, map}
use Prim.Native.Nat.{ℕ, ◌≤◌, ◌<◌}
use native.Mathlib.Omega.{arith}
use borrow.Author.Tests.{leb-true}
use lib.Dec.{leb}
use lib.ListN.{length, take}
use Rattle.rules.specs.Words.{all, cons_if, part, splice, num_at}
use Rattle.rules.specs.Message.{Message, read, print}
use Rattle.rules.specs.Identity.{Duid, Identity, identity, kind_of, is_release}
use Rattle.rules.specs.Table.{Record}
use Rattle.rules.specs.Settings.{good_settings}
use Rattle.rules.specs.TableBytes.{settings_of, count_of, table_bytes, table_of, sound_bytes}
use Rattle.rules.specs.Box.{Verdict, offer, return, say, success, silence, Served, Asked, serve, ia_for, answer_to, ia_of as asked_ia, asked_by}
use Rattle.rules.specs.Lent.{ended}
use Rattle.rules.specs.declared.Kind.{Kind}
use Rattle.laws.specs.Tests.{both, both-made}
use Rattle.laws.specs.Parts.{length_part}
use Rattle.laws.specs.Sound.{good-facts}
use Rattle.laws.specs.Every.{Every}
use Rattle.laws.specs.Round.{FineListed}
use Rattle.laws.specs.Change.{on_records, held}
use Rattle.values.specs.Values.{listed_of, lease_encodes, first_listed, ia_of, Able}
use Rattle.values.specs.declared.IaPrefix.{IaPrefix}
use Rattle.values.specs.declared.Pd.{Pd}
use Rattle.wire.specs.Client.{client_stretch}
use Rattle.print.specs.Whole.{message_of}
use Rattle.print.specs.declared.message.Head.{Head}
use Rattle.sound.specs.Setup.{setup_of, Agrees}
use Rattle.sound.specs.declared.Setup.{Setup}
use Rattle.plan.specs.Plan.{asked_of, records_after, verdict_of, carried_out, Possible, has_pd}
use Rattle.heard.specs.Heard.{only_of, bare_ia}
use Rattle.heard.specs.Facts.{Standing, ClientAt, client-stands, client-at}
use Rattle.heard.specs.Bare.{serve-bare}
use Rattle.judge.specs.Understood.{client-is, asked-iaid, asked_is}
use Rattle.decide.specs.Decided.{Decided}
use Rattle.plan.specs.declared.Plan.{Plan}
use Rattle.said.specs.Said.{listed_for, Small}
use Rattle.act.specs.Head.{HeadFor}
use Rattle.act.specs.Answer.{answered, Answerable}
use Rattle.act.specs.Serve.{service_on, reply_on, served_on, Ready}

pub possible : (n : ℕ) {p P : Plan} → p ≡ P → Possible n p → Possible n P
possible n e h = subst (Possible n) e h

module _ (i : Identity) (b : List ℕ) {p P : Plan} (e : p ≡ P) where
  -- what a change leaves
  pub carried : {c : List ℕ} → c ≡ table_bytes (on_records (λ rs. records_after i rs P) (table_of b)) → c ≡ table_bytes (on_records (λ rs. records_after i rs p) (table_of b))
  carried {c} q = subst (λ x. c ≡ table_bytes (on_records (λ rs. records_after i rs x) (table_of b))) (sym e) q

  -- no change
  pub unchanged : sound_bytes b ≡ true → records_after i (table_of b).records P ≡ (table_of b).records → b ≡ table_bytes (on_records (λ rs. records_after i rs p) (table_of b))
  unchanged h k = carried (rw k (sym (held b h).is))

-- ---------------------------------------------------------------- the head

pub number_read : (m : List ℕ) → num_at m 1 3 ≡ (read m).number
unfolding read
number_read m = refl

-- ---------------------------------------------------------------- the answer

-- what is said doesn't show the box's DUID
ia-own : (s : Setup) (o : Duid) (i : ℕ) (v : Verdict) → ia_for (setup_of s []) i v ≡ ia_for (setup_of s o) i v
ia-own s o i (offer l xs) = refl
ia-own s o i (return xs) = refl
ia-own s o i (say k) = refl
ia-own s o i success = refl
ia-own s o i silence = refl

listed-own : (s : Setup) (o : Duid) (v : Verdict) → listed_for (setup_of s []) v ≡ listed_for (setup_of s o) v
listed-own s o (offer l xs) = refl
listed-own s o (return xs) = refl
listed-own s o (say k) = refl
listed-own s o success = refl
listed-own s o silence = refl

-- prefixes that are fine have an encoding
fine-encode : (l : List IaPrefix) → Every FineListed (map (λ x. listed_of x []) l) → all lease_encodes l ≡ true
unfolding listed_of
fine-encode [] h = refl
fine-encode (x ∷ l) h = both-made h.0.encodes (fine-encode l h.1)

said-once : (b : Bool) → cons_if {A = ℕ} b 0 [] ≡ cond b (0 ∷ []) []
said-once true = refl
said-once false = refl

module _ (b m : List ℕ) (p : Plan) (q : Pd) (a : Answerable b m p q) (s : Setup) (g : Agrees s b) (d : Pd) where
  abbrev v : Verdict
  v = verdict_of (first_listed q.count q.prefixes) p

  pub answer-able : (ia_of d).listed ≡ listed_for (setup_of s []) v → Small d → Able d
  unfolding ia_of
  answer-able e f =
      let w : listed_for (settings_of b) v ≡ (ia_of d).listed = sym (e ∙ listed-own s (settings_of b).own v ∙ ap (λ x. listed_for x v) g) in
      record { count = f.count; prefixes = fine-encode (take d.count d.prefixes) (subst (Every FineListed) w a.fine); status = f.status }

  pub answer-is : cons_if (has_pd p) (ia_of d) [] ≡ ia_for (setup_of s []) q.iaid v → {x : Bool} → x ≡ has_pd p → (h : Head) → HeadFor (read m) x h
      → {c : Duid} → c ≡ client_stretch m → {o : Duid} → o ≡ (settings_of b).own → message_of h c o d ≡ answered b m p q
  unfolding message_of answered answer_to
  answer-is e {x} xe h f {c} ce {o} oe =
      let w : ia_for (settings_of b) q.iaid v ≡ cons_if h.pd (ia_of d) [] = sym (ap (λ y. cons_if y (ia_of d) []) (f.pd ∙ xe) ∙ e ∙ ia-own s (settings_of b).own q.iaid v ∙ ap (λ y. ia_for y q.iaid v) g) in
      rw (w, a.client, ce, oe, f.kind, f.number, f.server, f.asks, f.says, f.status, said-once (is_release (kind_of (read m).kind)))

own-good : (b : List ℕ) → sound_bytes b ≡ true → good_settings (settings_of b) ≡ true
unfolding table_of
own-good b h = (held b h).sound.settings

own-short : (b : List ℕ) → sound_bytes b ≡ true → {o : Duid} → o ≡ (settings_of b).own → length o ≤ 130
own-short b h e =
    let g = good-facts (settings_of b) (own-good b h) in
    rw e (leb-true (length (settings_of b).own) 130 (both (leb 3 (length (settings_of b).own)) (leb (length (settings_of b).own) 130) g.own).1)

module _ (b m : List ℕ) (p : Plan) (q : Pd) (a : Answerable b m p q) where
  pub client-fits : {c : Duid} → c ≡ client_stretch m → length c < 65536
  client-fits e = rw e (omega (arith, a.short))

  pub own-fits : {o : Duid} → o ≡ (settings_of b).own → length o < 65536
  own-fits e = omega (arith, own-short b a.sound e)

  pub room_fits : {v : Message} → v ≡ answered b m p q → {n : ℕ} → 442 ≤ n → length (print v) ≤ n
  room_fits e h = rw e (omega (arith, a.size))

-- what is written of a message is written of the answer
pub written : {v : Message} (b m : List ℕ) (p : Plan) (q : Pd) → v ≡ answered b m p q → {r : ℕ} {o : List ℕ} (l : List ℕ) → (r ≡ length (print v)) × (o ≡ splice 0 (print v) l)
    → (r ≡ length (print (answered b m p q))) × (o ≡ splice 0 (print (answered b m p q)) l)
written b m p q e {r} {o} l h = subst (λ x. (r ≡ length (print x)) × (o ≡ splice 0 (print x) l)) e h

-- ---------------------------------------------------------------- the message served

module _ (b m : List ℕ) (now : ℕ) (r : Ready b now m) (q : Pd) (e : ia_of q ≡ bare_ia (asked_ia (read m))) {c : Duid} (ce : c ≡ client_stretch m)
    {k : Kind} (ke : k ≡ kind_of (read m).kind) {x : Bool} (xe : x ≡ (read m).asks) (p : Plan) (d : Decided b now k (asked_of c x q) p) where
  abbrev rs : List Record
  rs = (table_of b).records

  decided-is : carried_out (asked_of c x q) rs p ≡ service_on b now m
  decided-is =
      d.served
      ∙ ap (λ (i : Kind). serve (settings_of b) now (asked_of c x q) rs i) ke
      ∙ ap (λ (a : Asked). serve (settings_of b) now a rs (kind_of (read m).kind)) (asked_is m q e (ce ∙ client-is b m r.understood) xe)
      ∙ serve-bare (settings_of b) now (asked_by (read m)) rs (kind_of (read m).kind)

  verdict-is : verdict_of (first_listed q.count q.prefixes) p ≡ (service_on b now m).verdict
  verdict-is = ap (λ (z : Served). z.verdict) decided-is

  records-are : records_after (identity c q.iaid) rs p ≡ (service_on b now m).records
  records-are = ap (λ (z : Served). z.records) decided-is

  reply-is : answered b m p q ≡ reply_on b now m
  unfolding answered reply_on
  reply-is = rw (asked-iaid m q e, verdict-is)

  one-client : Standing (only_of 1 m)
  one-client = client-stands (table_of b).settings.own m r.understood.kind r.understood.row

  client : ClientAt m one-client.start one-client.len
  client = client-at (table_of b).settings.own m r.understood.kind r.understood.row one-client.is

  client-length : length (client_stretch m) ≤ 130
  client-length =
      let g = client in
      let z : length (client_stretch m) ≡ length (part one-client.start one-client.len m) = ap length (g.stretch ∙ sym g.bytes) in
      omega (arith, length_part one-client.start one-client.len m g.within, g.most)

  pub ready-answer : q.count ≤ 4 → Answerable b m p q
  ready-answer few = record {
    sound = r.understood.sound;
    long = r.long;
    client = client.one ∙ ap (λ (z : Duid). z ∷ []) (sym client.stretch);
    short = client-length;
    few = few;
    offer = d.sendable;
    fine = rw verdict-is r.fine;
    size = rw reply-is r.size;
  }

  pub ready-carry : (sound_bytes b ≡ true) × Possible (count_of b) p × (length c ≤ 130)
  ready-carry = (r.understood.sound, d.possible, rw ce client-length)

  pub served-is : {n : ℕ} {t o : List ℕ} (l : List ℕ) → (n ≡ length (print (answered b m p q))) × (o ≡ splice 0 (print (answered b m p q)) l)
      → t ≡ table_bytes (on_records (λ z. records_after (identity c q.iaid) z p) (table_of b)) → ended n t o ≡ served_on b now m l
  unfolding served_on
  served-is l a w = rw (a.0, a.1, w, reply-is, records-are)
