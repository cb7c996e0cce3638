-- Demand 2's "exactly when": a new asker hears NoPrefixAvail exactly when no /60 in the pool is free or the table is full.
use Rattle.std.specs.Prelude.{ℕ, ◌≤◌, ◌≡◌, Bool, true, false, List, ◌⊎◌, ◌↔◌, Option, None, Some}
use Rattle.std.proofs.Math.Path.{refl, ap}
use Rattle.std.proofs.Common.{sym, ◌∙◌, subst}
use Rattle.std.proofs.lemmas.Bool.{false≢true}
use Rattle.std.proofs.Math.Logic.{inl, inr}
use Rattle.std.proofs.Math.ListN.{length}
use Rattle.rules.specs.Prefix.{Prefix, prefix, zero_after, inside}
use Rattle.rules.specs.Message.{Message, read, print}
use Rattle.rules.specs.Clock.{Moment}
use Rattle.rules.specs.Identity.{kind_of, is_release}
use Rattle.rules.specs.Settings.{Settings}
use Rattle.rules.specs.Table.{Record, Table, current, most_records}
use Rattle.rules.specs.Choose.{free, choose}
use Rattle.rules.specs.Box.{binding, hint_of, Verdict, Asked, serve_solicit, serve_request, serve, ia_for, answer_to, asked_by, ia_of, serving, answer_after}
use Rattle.rules.specs.Router.{no_prefix}
use Rattle.rules.specs.Promises.{ExactlyWhen, Free60, Asks}
use Rattle.rules.specs.declared.Kind.{Kind}
use Rattle.rules.specs.declared.Kind.TheVariants.{Solicit, Request}
use Rattle.laws.specs.Refusals.{two}
use Rattle.laws.specs.Choose.{Place, choose-none, none-chosen}
use Rattle.laws.specs.Sound.{good-facts, sound-facts, sound-aligned}
use Rattle.laws.specs.Accepted.{Accepted, accepted, fine-records}
use Rattle.promises.specs.Boxes.{answer-reads}

-- a choice that is none
abbrev is_none : Option Prefix → Bool
is_none None = true
is_none (Some p) = false

none_is : (c : Option Prefix) → is_none c ≡ true → c ≡ None
none_is None e = refl
none_is (Some p) e = absurd (false≢true e)

-- the IA_PD of a new asker says NoPrefixAvail exactly where nothing is chosen
abbrev said : Settings → ℕ → Verdict → Message → Message
said s i v m = answer_to s m (ia_for s i v)

solicit-says : (s : Settings) (now : Moment) (q : Asked) (rs : List Record) (i : ℕ) (m : Message) (k : Kind) → kind_of m.kind ≡ k → is_release k ≡ false
    → (c : Option Prefix) → no_prefix (said s i (serve_solicit s now q rs None c).verdict m) ≡ is_none c
unfolding answer_to
solicit-says s now q rs i m k e r None = rw (e, r)
solicit-says s now q rs i m k e r (Some p) = rw (e, r)

request-says : (s : Settings) (now : Moment) (q : Asked) (rs : List Record) (i : ℕ) (m : Message) (k : Kind) → kind_of m.kind ≡ k → is_release k ≡ false
    → (c : Option Prefix) → no_prefix (said s i (serve_request s now q rs None c).verdict m) ≡ is_none c
unfolding answer_to
request-says s now q rs i m k e r None = rw (e, r)
request-says s now q rs i m k e r (Some p) = rw (e, r)

module _ (T : Table) (now : Moment) (v : Message) (new : binding (asked_by v).who (current now T.records) ≡ None) where
  abbrev q : Asked
  q = asked_by v

  abbrev rs : List Record
  rs = current now T.records

  abbrev chosen : Option Prefix
  chosen = choose T.settings rs (hint_of q.listed)

  answer-says : Asks (kind_of v.kind) → no_prefix (answer_after T now v) ≡ is_none chosen
  unfolding answer_after serving serve
  answer-says (inl e) =
      ap (λ k. no_prefix (said T.settings (ia_of v).iaid (serve T.settings now q rs k).verdict v)) e
      ∙ ap (λ o. no_prefix (said T.settings (ia_of v).iaid (serve_solicit T.settings now q rs o chosen).verdict v)) new
      ∙ solicit-says T.settings now q rs (ia_of v).iaid v Solicit e refl chosen
  answer-says (inr e) =
      ap (λ k. no_prefix (said T.settings (ia_of v).iaid (serve T.settings now q rs k).verdict v)) e
      ∙ ap (λ o. no_prefix (said T.settings (ia_of v).iaid (serve_request T.settings now q rs o chosen).verdict v)) new
      ∙ request-says T.settings now q rs (ia_of v).iaid v Request e refl chosen

-- a free /60, as the laws say it and as the promise does
place-free : (T : Table) (rs : List Record) (y : ℕ) → Place T.settings rs 60 y → Free60 T rs
place-free T rs y p = record { place = prefix y 60; length-60 = refl; aligned = p.aligned; in-pool = p.in-pool; is_free = p.is_free }

free-place : (T : Table) (rs : List Record) (f : Free60 T rs) → Place T.settings rs 60 f.place.bits
free-place T rs f =
    let w : f.place ≡ prefix f.place.bits 60 = ap (λ a. prefix f.place.bits a) f.length-60 in
    record {
      aligned = subst (λ p. zero_after p ≡ true) w f.aligned;
      in-pool = subst (λ p. inside p T.settings.pool ≡ true) w f.in-pool;
      is_free = subst (λ p. free rs p ≡ true) w f.is_free;
    }

module _ {T : Table} {now : Moment} {m : List ℕ} {room : ℕ} (a : Accepted T now m room) (k : Asks (kind_of (read m).kind))
    (new : binding (asked_by (read m)).who (current now T.records) ≡ None) where
  abbrev c : Option Prefix
  c = chosen T now (read m) new

  -- what the answer's bytes say
  bytes-say : no_prefix (read (print (answer_after T now (read m)))) ≡ is_none c
  bytes-say = ap no_prefix (answer-reads a) ∙ answer-says T now (read m) new k

  hint : Option Prefix
  hint = hint_of (asked_by (read m)).listed

  none-when : no_prefix (read (print (answer_after T now (read m)))) ≡ true
      → (Free60 T (current now T.records) → ⊥) ⊎ (most_records ≤ length (current now T.records))
  unfolding hint
  none-when e =
      let g = good-facts T.settings (sound-facts T a.sound-table).settings in
      let al = sound-aligned T.settings (current now T.records) (fine-records a).good in
      by (choose-none T.settings (current now T.records) g.lengths hint al (none_is c (sym bytes-say ∙ e)))
    where
      by : ((y : ℕ) → Place T.settings (current now T.records) 60 y → ⊥) ⊎ (most_records ≤ length (current now T.records))
          → (Free60 T (current now T.records) → ⊥) ⊎ (most_records ≤ length (current now T.records))
      by (inl f) = inl (λ x. f x.place.bits (free-place T (current now T.records) x))
      by (inr f) = inr f

  when-none : (Free60 T (current now T.records) → ⊥) ⊎ (most_records ≤ length (current now T.records))
      → no_prefix (read (print (answer_after T now (read m)))) ≡ true
  unfolding hint
  when-none d =
      let g = good-facts T.settings (sound-facts T a.sound-table).settings in
      bytes-say ∙ ap is_none (none-chosen T.settings (current now T.records) g.lengths hint (by d))
    where
      by : (Free60 T (current now T.records) → ⊥) ⊎ (most_records ≤ length (current now T.records))
          → ((y : ℕ) → Place T.settings (current now T.records) 60 y → ⊥) ⊎ (most_records ≤ length (current now T.records))
      by (inl f) = inl (λ y p. f (place-free T (current now T.records) y p))
      by (inr f) = inr f

pub exactly-when : ExactlyWhen
exactly-when T T' now m a room e k new =
    let p = accepted e in
    two (λ t b. (no_prefix (read b) ≡ true) ↔ ((Free60 T (current now T.records) → ⊥) ⊎ (most_records ≤ length (current now T.records))))
    p.1 (none-when p.0 k new, when-none p.0 k new)
