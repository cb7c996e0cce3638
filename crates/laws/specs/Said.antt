-- What the box says of an IA_PD is good: it has an encoding, it is short, and only the bound or offered prefix can be taken.
use Rattle.std.specs.Prelude.{◌≡◌, Bool, true, false, cond, List, [], ◌∷◌, map, ℕ, ◌≤◌, ◌<◌, ◌^◌, length, get_or, Option, None, Some}
use Rattle.std.proofs.Math.Path.{refl}
use Rattle.std.proofs.Common.{sym, ap, ◌∙◌, arith, le-leb, lt-ltb}
use Rattle.std.proofs.Math.Bool.{not}
use Rattle.std.proofs.lemmas.Option.{none-some}
use Rattle.std.proofs.lemmas.List.{length-map}
use Rattle.rules.specs.Words.{keep, first}
use Rattle.rules.specs.Prefix.{Prefix, Lease, lease_encodable, fits, zero_after, same_prefix, last64}
use Rattle.rules.specs.Message.{Listed, Ia}
use Rattle.rules.specs.Clock.{Moment}
use Rattle.rules.specs.Identity.{good_identity, is_release}
use Rattle.rules.specs.Settings.{Settings}
use Rattle.rules.specs.Table.{Record, is_binding, give_up, good_except, good_record}
use Rattle.rules.specs.Choose.{choose}
use Rattle.rules.specs.Box.{binding, lease_for, returned, others, gone, is_freed, hint_of, Verdict, offer, return, say, success, silence, no_binding, leaves, Asked, serve_solicit, serve_request, serve_renew, serve_rebind, serve_release, serve, offered, ia_for}
use Rattle.rules.specs.Router.{takes}
use Rattle.rules.specs.declared.Kind.{Kind}
use Rattle.rules.specs.declared.Kind.TheVariants.{Solicit, Request, Renew, Rebind, Release}
use Rattle.laws.specs.Tests.{both, both-made}
use Rattle.laws.specs.Loops.{first-all}
use Rattle.laws.specs.Prefix.{same-prefix, inside-fits}
use Rattle.laws.specs.Exclude.{last64-encodable}
use Rattle.laws.specs.Every.{Every}
use Rattle.laws.specs.Round.{FineListed}
use Rattle.laws.specs.Told.{others-fine, all-returned-fine}
use Rattle.laws.specs.Sizes.{UpTo, returned-bare, others-bare, others-few}
use Rattle.laws.specs.Sent.{GoodOffer, GoodReturn, GoodVerdict}
use Rattle.laws.specs.Choose.{choose-chosen}
use Rattle.laws.specs.Sound.{Good, record-facts, fresh, fresh-good, Fine}

-- ---------------------------------------------------------------- a lease

last64-length : (p : Prefix) → (last64 p).length ≡ 64
unfolding last64
last64-length p = refl

-- a good excluded prefix is at most the last /64, and has an encoding
except-good : (s : Settings) (p : Prefix) (o : Option Prefix) → good_except s p o ≡ true → fits p ≡ true → zero_after p ≡ true → p.length < 64
    → (lease_encodable p o ≡ true) × UpTo 64 o
except-good s p None e t z l = (t, tt)
except-good s p (Some e) q t z l =
    let w : e ≡ last64 p = same-prefix e (last64 p) (both s.exclusion (same_prefix e (last64 p)) q).1 in
    (both-made t (rw w (last64-encodable p l z)), omega (arith, ap (λ x. x.length) w ∙ last64-length p))

-- a good record's lease can be offered
pub lease-good : (s : Settings) (r : Record) → Good s → good_record s r ≡ true → GoodOffer r.lease
lease-good s r g h =
    let f = record-facts s r h in
    let b = inside-fits r.lease.prefix s.pool g.pool-fits f.in-pool in
    let t : fits r.lease.prefix ≡ true = both-made (le-leb r.lease.prefix.length 128 (omega (arith, f.most))) (lt-ltb r.lease.prefix.bits (2 ^ 128) b) in
    let e = except-good s r.lease.prefix r.lease.except f.except t f.aligned (omega (arith, f.most)) in
    record { encodes = e.0; least = omega (arith, f.least, g.least-32, g.lengths.pool-shortest); except = e.1 }

-- ---------------------------------------------------------------- a verdict

-- of the other prefixes no router takes one
abbrev pub Quiet : Verdict → Type 0
Quiet (offer l xs) = first takes xs ≡ None
Quiet (return xs) = first takes xs ≡ None
Quiet (say k) = Unit {0}
Quiet success = Unit {0}
Quiet silence = Unit {0}

-- what is returned has no lifetime
returned-none : (l : List Listed) → first takes (map returned l) ≡ None
returned-none [] = refl
returned-none (x ∷ l) = returned-none l

module _ (s : Settings) (now : Moment) (q : Asked) (rs : List Record) (good : Good s) (gi : good_identity q.who ≡ true) (soon : now < 2 ^ 48) (fine : Fine s rs)
    (told : Every FineListed q.listed) (few : length q.listed ≤ 4) where
  bound-good : (r : Record) → binding q.who rs ≡ Some r → GoodOffer r.lease
  bound-good r b = lease-good s r good (first-all (is_binding q.who) (good_record s) rs b fine.good).1

  chosen-good : (hint : Option Prefix) (p : Prefix) → choose s rs hint ≡ Some p → GoodOffer (lease_for s q.asks p)
  chosen-good hint p e =
      let c = choose-chosen s rs good.lengths hint e in
      lease-good s (fresh s q.who q.asks now rs p good gi soon c) good (fresh-good s q.who q.asks now rs p good gi soon c)

  none-good : GoodReturn []
  none-good = record { fine = tt; bare = tt; few = omega arith }

  others-good : (p : Prefix) → GoodReturn (others p q.listed)
  others-good p = record { fine = others-fine p q.listed told; bare = others-bare p q.listed; few = omega (arith, others-few p q.listed) }

  others-quiet : (p : Prefix) → first takes (others p q.listed) ≡ None
  unfolding others
  others-quiet p = returned-none (keep (λ x. not (same_prefix x.lease.prefix p)) q.listed)

  solicit-said : (f : Option Record) (c : Option Prefix) → binding q.who rs ≡ f → choose s rs (hint_of q.listed) ≡ c
      → GoodVerdict false (serve_solicit s now q rs f c).verdict × Quiet (serve_solicit s now q rs f c).verdict
  solicit-said (Some r) c b e = ((refl, bound-good r b, none-good), refl)
  solicit-said None (Some p) b e = ((refl, chosen-good (hint_of q.listed) p e, none-good), refl)
  solicit-said None None b e = (tt, tt)

  request-said : (f : Option Record) (c : Option Prefix) → binding q.who rs ≡ f → choose s rs (hint_of q.listed) ≡ c
      → GoodVerdict false (serve_request s now q rs f c).verdict × Quiet (serve_request s now q rs f c).verdict
  request-said (Some r) c b e = ((refl, bound-good r b, none-good), refl)
  request-said None (Some p) b e = ((refl, chosen-good (hint_of q.listed) p e, none-good), refl)
  request-said None None b e = (tt, tt)

  renew-said : (f : Option Record) → binding q.who rs ≡ f → GoodVerdict false (serve_renew s now q rs f).verdict × Quiet (serve_renew s now q rs f).verdict
  renew-said (Some r) b = ((refl, bound-good r b, others-good r.lease.prefix), others-quiet r.lease.prefix)
  renew-said None b = (tt, tt)

  rebind-said : (f : Option Record) → binding q.who rs ≡ f → GoodVerdict false (serve_rebind s now q rs f).verdict × Quiet (serve_rebind s now q rs f).verdict
  rebind-said (Some r) b = renew-said (Some r) b
  rebind-said None b = by (gone s q.listed)
    where
      all-good : GoodReturn (map returned q.listed)
      all-good = record { fine = all-returned-fine q.listed told; bare = returned-bare q.listed; few = rw (length-map q.listed returned) few }

      by : (b : Bool) → GoodVerdict false (cond b (return (map returned q.listed)) silence) × Quiet (cond b (return (map returned q.listed)) silence)
      by true = ((refl, all-good), returned-none q.listed)
      by false = (tt, tt)

  release-said : (f : Option Record) → GoodVerdict true (serve_release s now q rs f).verdict × Quiet (serve_release s now q rs f).verdict
  release-said None = (tt, tt)
  release-said (Some r) = by (is_freed r q.listed)
    where
      by : (b : Bool) → GoodVerdict true (cond b (leaves (give_up (is_binding q.who) rs) success) (leaves rs no_binding)).verdict
          × Quiet (cond b (leaves (give_up (is_binding q.who) rs) success) (leaves rs no_binding)).verdict
      by true = (tt, tt)
      by false = (tt, tt)

  pub said : (k : Kind) → GoodVerdict (is_release k) (serve s now q rs k).verdict × Quiet (serve s now q rs k).verdict
  unfolding serve
  said Solicit = solicit-said (binding q.who rs) (choose s rs (hint_of q.listed)) refl refl
  said Request = request-said (binding q.who rs) (choose s rs (hint_of q.listed)) refl refl
  said Renew = renew-said (binding q.who rs) refl
  said Rebind = rebind-said (binding q.who rs) refl
  said Release = release-said (binding q.who rs)

-- ---------------------------------------------------------------- what a router takes

-- what a router takes of an answer is what was offered
pub offer-taken : (s : Settings) (i : ℕ) (v : Verdict) (d : Ia) → d.listed ≡ [] → Quiet v → (x : Listed) → first takes (get_or (ia_for s i v) 0 d).listed ≡ Some x
    → (l : Lease) × (xs : List Listed) × (v ≡ offer l xs) × (x ≡ offered s l) × ((get_or (ia_for s i v) 0 d).iaid ≡ i)
offer-taken s i (offer l xs) d n f x e = by (takes (offered s l)) e
  where
    by : (b : Bool) → cond b (Some (offered s l)) (first takes xs) ≡ Some x
        → (l' : Lease) × (ys : List Listed) × (offer l xs ≡ offer l' ys) × (x ≡ offered s l') × (i ≡ i)
    by true q = let w : offered s l ≡ x = cc in (l, xs, refl, sym w, refl)
    by false q = absurd (none-some x (sym f ∙ q))
offer-taken s i (return xs) d n f x e = absurd (none-some x (sym f ∙ e))
offer-taken s i (say k) d n f x e = absurd (none-some x e)
offer-taken s i success d n f x e = absurd (none-some x (sym (ap (first takes) n) ∙ e))
offer-taken s i silence d n f x e = absurd (none-some x (sym (ap (first takes) n) ∙ e))
