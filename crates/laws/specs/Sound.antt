-- A sound table stays sound: soundness taken apart and put together, and what each change of the records keeps.
use Rattle.std.specs.Prelude.{◌≡◌, Bool, cond, not, ◌&&◌, List, [], ◌∷◌, ◌++◌, ◌⊎◌, ◌+◌, ◌≤◌, ◌<◌, ◌^◌, max, eqb, leb, ltb, length, Option, None, Some}
use Rattle.std.proofs.Math.Path.{refl}
use Rattle.std.proofs.Math.Bool.{true, false}
use Rattle.std.proofs.Common.{inl, inr, le_of_lt, arith, length-append, eq-eqb, leb-true, le-leb, ltb-true, lt-ltb}
use Rattle.std.proofs.Math.Nat.{max-eq_left, max-eq_right}
use Rattle.std.proofs.Math.ListN.{length-map}
use Rattle.rules.specs.Words.{all, no_two, keep, cons_if}
use Rattle.rules.specs.Prefix.{Prefix, zero_after, inside, same_prefix, last64, fits, except_for}
use Rattle.rules.specs.Clock.{Moment, Lifetime, for_ever, never, plus, good_end}
use Rattle.rules.specs.Identity.{Identity, good_identity, good_duid}
use Rattle.rules.specs.Settings.{Settings, good_settings}
use Rattle.rules.specs.Table.{Record, Table, is_binding, area, may_stand, in_place, give_up, good_except, good_record, sound}
use Rattle.rules.specs.Choose.{hits, free, choose}
use Rattle.rules.specs.Box.{binding, lease_for, bind, longer, extend, is_freed, hint_of, no_binding, success, leaves, Asked, serve_solicit, serve_request, serve_renew, serve_rebind, serve_release, serve}
use Rattle.rules.specs.declared.Kind.{Kind}
use Rattle.rules.specs.declared.Kind.TheVariants.{Solicit, Request, Renew, Rebind, Release}
use Rattle.laws.specs.Tests.{both, both-made, lt-or-ge}
use Rattle.laws.specs.Loops.{all-sub, all_both, all_map, two-map, all_keep, two-keep, keep-few, all-last, two-last, first-none}
use Rattle.laws.specs.Choose.{Aligned, Chosen, Lengths, free_all, choose-chosen, choose-room}

-- ---------------------------------------------------------------- taken apart

pub record Good (s : Settings) : Type 0 where
  pub least-32 : 32 ≤ s.pool.length
  pub most-56 : s.pool.length ≤ 56
  pub pool-fits : fits s.pool ≡ true
  pub lengths : Lengths s
  pub preferred-120 : 120 ≤ s.preferred
  pub preferred-valid : s.preferred ≤ s.valid
  pub valid-32 : s.valid ≤ for_ever
  pub own : good_duid s.own ≡ true

pub good-facts : (s : Settings) → good_settings s ≡ true → Good s
unfolding good_settings
good-facts s e =
    let a = both _ (good_duid s.own) e in
    let b = both _ (leb s.valid for_ever) a.0 in
    let c = both _ (leb s.preferred s.valid) b.0 in
    let d = both _ (leb 120 s.preferred) c.0 in
    let f = both _ (leb s.standard 60) d.0 in
    let g = both _ (leb s.shortest s.standard) f.0 in
    let h = both _ (leb s.pool.length s.shortest) g.0 in
    let i = both _ (zero_after s.pool) h.0 in
    let j = both _ (fits s.pool) i.0 in
    let k = both (leb 32 s.pool.length) (leb s.pool.length 56) j.0 in
    record {
      least-32 = leb-true _ _ k.0;
      most-56 = leb-true _ _ k.1;
      pool-fits = j.1;
      lengths = record { aligned = i.1; pool-shortest = leb-true _ _ h.1; shortest-standard = leb-true _ _ g.1; standard-60 = leb-true _ _ f.1 };
      preferred-120 = leb-true _ _ d.1;
      preferred-valid = leb-true _ _ c.1;
      valid-32 = leb-true _ _ b.1;
      own = a.1;
    }

pub record Sound (t : Table) : Type 0 where
  pub settings : good_settings t.settings ≡ true
  pub few : length t.records ≤ 256
  pub good : all (good_record t.settings) t.records ≡ true
  pub together : no_two may_stand t.records ≡ true
  pub time : t.last < 2 ^ 48

pub sound-facts : (t : Table) → sound t ≡ true → Sound t
unfolding sound
sound-facts t e =
    let a = both _ (ltb t.last (2 ^ 48)) e in
    let b = both _ (no_two may_stand t.records) a.0 in
    let c = both _ (all (good_record t.settings) t.records) b.0 in
    let d = both (good_settings t.settings) (leb (length t.records) 256) c.0 in
    record { settings = d.0; few = leb-true _ _ d.1; good = c.1; together = b.1; time = ltb-true _ _ a.1 }

pub sound-made : (t : Table) → Sound t → sound t ≡ true
unfolding sound
sound-made t s = rw (s.settings, le-leb (length t.records) 256 s.few, s.good, s.together, lt-ltb t.last (2 ^ 48) s.time)

pub record GoodRecord (s : Settings) (r : Record) : Type 0 where
  pub identity : good_identity r.owner ≡ true
  pub in-pool : inside r.lease.prefix s.pool ≡ true
  pub least : s.shortest ≤ r.lease.prefix.length
  pub most : r.lease.prefix.length ≤ 60
  pub aligned : zero_after r.lease.prefix ≡ true
  pub except : good_except s r.lease.prefix r.lease.except ≡ true
  pub end : good_end r.end ≡ true

pub record-facts : (s : Settings) (r : Record) → good_record s r ≡ true → GoodRecord s r
unfolding good_record
record-facts s r e =
    let a = both _ (good_end r.end) e in
    let b = both _ (good_except s r.lease.prefix r.lease.except) a.0 in
    let c = both _ (zero_after r.lease.prefix) b.0 in
    let d = both _ (leb r.lease.prefix.length 60) c.0 in
    let f = both _ (leb s.shortest r.lease.prefix.length) d.0 in
    let g = both (good_identity r.owner) (inside r.lease.prefix s.pool) f.0 in
    record {
      identity = g.0;
      in-pool = g.1;
      least = leb-true _ _ f.1;
      most = leb-true _ _ d.1;
      aligned = c.1;
      except = b.1;
      end = a.1;
    }

pub record-made : (s : Settings) (r : Record) → GoodRecord s r → good_record s r ≡ true
unfolding good_record
record-made s r g =
    both-made (both-made (both-made (both-made (both-made (both-made g.identity g.in-pool) (le-leb _ _ g.least)) (le-leb _ _ g.most)) g.aligned) g.except) g.end

-- the records' areas are aligned
pub sound-aligned : (s : Settings) (rs : List Record) → all (good_record s) rs ≡ true → Aligned rs
sound-aligned s rs e = all-sub (good_record s) (λ r. zero_after (area r)) (λ r g. (record-facts s r g).aligned) rs e

-- ---------------------------------------------------------------- records given up

pub give-up : (f : Record → Bool) (rs : List Record) → give_up f rs ≡ keep (λ r. not (f r)) rs
unfolding give_up
give-up f [] = refl
give-up f (r ∷ rs) = by (f r) (give-up f rs)
  where
    by : (b : Bool) → give_up f rs ≡ keep (λ q. not (f q)) rs → in_place b r (give_up f rs) ≡ cons_if (not b) r (keep (λ q. not (f q)) rs)
    by true e = e
    by false e = rw e

-- what keeps its records keeps them good, few and apart
module _ (s : Settings) (f : Record → Bool) (rs : List Record) where
  pub give-up-good : all (good_record s) rs ≡ true → all (good_record s) (give_up f rs) ≡ true
  give-up-good e = rw (give-up f rs) (all_keep (λ r. not (f r)) (good_record s) rs e)

  pub give-up-together : no_two may_stand rs ≡ true → no_two may_stand (give_up f rs) ≡ true
  give-up-together e = rw (give-up f rs) (two-keep (λ r. not (f r)) may_stand rs e)

  pub give-up-few : length (give_up f rs) ≤ length rs
  give-up-few = rw (give-up f rs) (keep-few (λ r. not (f r)) rs)

-- ---------------------------------------------------------------- records extended

-- a good record with another good end
pub ending-good : (s : Settings) (r : Record) (e : Moment) → good_end e ≡ true → good_record s r ≡ true → good_record s (record { owner = r.owner; lease = r.lease; end = e }) ≡ true
ending-good s r e h g =
    let f = record-facts s r g in
    record-made s _ (record { identity = f.identity; in-pool = f.in-pool; least = f.least; most = f.most; aligned = f.aligned; except = f.except; end = h })

-- an end that a lifetime gives is good
pub plus-good : (now : Moment) (v : Lifetime) → now < 2 ^ 48 → v ≤ for_ever → good_end (plus now v) ≡ true
unfolding plus
plus-good now v h l = by (eqb v for_ever) refl
  where
    by : (b : Bool) → eqb v for_ever ≡ b → good_end (cond b never (now + v)) ≡ true
    by true q = refl
    by false q = rw (lt-ltb (now + v) (2 ^ 49) (omega arith))

pub max-good : (a b : Moment) → good_end a ≡ true → good_end b ≡ true → good_end (max a b) ≡ true
max-good a b g h = by (lt-or-ge a b)
  where
    by : (a < b) ⊎ (b ≤ a) → good_end (max a b) ≡ true
    by (inl l) = rw (max-eq_right (le_of_lt l)) h
    by (inr l) = rw (max-eq_left l) g

module _ (s : Settings) (i : Identity) (now : Moment) (v : Lifetime) where
  abbrev pub touched : Record → Record
  touched r = cond (is_binding i r) (longer now v r) r

  pub extend-good : now < 2 ^ 48 → v ≤ for_ever → (rs : List Record) → all (good_record s) rs ≡ true → all (good_record s) (extend i now v rs) ≡ true
  unfolding extend
  extend-good h l rs e =
      rw (all_map (good_record s) touched rs) (all-sub (good_record s) (λ r. good_record s (touched r)) (λ r g. by r (is_binding i r) g) rs e)
    where
      by : (r : Record) (b : Bool) → good_record s r ≡ true → good_record s (cond b (longer now v r) r) ≡ true
      by r false g = g
      by r true g = ending-good s r _ (max-good r.end (plus now v) (record-facts s r g).end (plus-good now v h l)) g

  pub extend-together : (rs : List Record) → no_two may_stand rs ≡ true → no_two may_stand (extend i now v rs) ≡ true
  unfolding extend may_stand
  extend-together rs e = rw (two-map may_stand may_stand touched (λ x y. by x y (is_binding i x) (is_binding i y)) rs) e
    where
      by : (x y : Record) (b c : Bool) → may_stand (cond b (longer now v x) x) (cond c (longer now v y) y) ≡ may_stand x y
      by x y true true = refl
      by x y true false = refl
      by x y false true = refl
      by x y false false = refl

  pub extend-few : (rs : List Record) → length (extend i now v rs) ≡ length rs
  unfolding extend
  extend-few rs = length-map rs touched

-- ---------------------------------------------------------------- a record bound

pub same_refl : (p : Prefix) → same_prefix p p ≡ true
same_refl p = both-made (eq-eqb p.length p.length refl) (eq-eqb p.bits p.bits refl)

-- the last /64 is a good excluded prefix where exclusion is on
pub except-good : (s : Settings) (asks : Bool) (p : Prefix) → good_except s p (except_for (s.exclusion && asks) p) ≡ true
except-good s asks p = by (s.exclusion && asks) refl
  where
    by : (b : Bool) → s.exclusion && asks ≡ b → good_except s p (except_for b p) ≡ true
    by false q = refl
    by true q = both-made (both s.exclusion asks q).0 (same_refl (last64 p))

module _ (s : Settings) (i : Identity) (asks : Bool) (now : Moment) (rs : List Record) (p : Prefix) (good : Good s) (gi : good_identity i ≡ true) (soon : now < 2 ^ 48)
    (c : Chosen s rs p) where
  abbrev pub fresh : Record
  fresh = record { owner = i; lease = lease_for s asks p; end = plus now s.valid }

  pub fresh-good : good_record s fresh ≡ true
  fresh-good = record-made s fresh (record {
    identity = gi;
    in-pool = c.place.in-pool;
    least = c.least;
    most = c.most;
    aligned = c.place.aligned;
    except = except-good s asks p;
    end = plus-good now s.valid soon good.valid-32;
  })

-- ---------------------------------------------------------------- one IA_PD served

-- what the records of a sound table have, whatever the last time
pub record Fine (s : Settings) (rs : List Record) : Type 0 where
  pub few : length rs ≤ 256
  pub good : all (good_record s) rs ≡ true
  pub together : no_two may_stand rs ≡ true

pub give-up-fine : (s : Settings) (f : Record → Bool) (rs : List Record) → Fine s rs → Fine s (give_up f rs)
give-up-fine s f rs g = record {
  few = omega (arith, give-up-few s f rs, g.few);
  good = give-up-good s f rs g.good;
  together = give-up-together s f rs g.together;
}

-- a good record of an identity that isn't bound yet, with a prefix that is free, put last
pub last-fine : (s : Settings) (rs : List Record) (r : Record) → Fine s rs → length rs < 256 → good_record s r ≡ true → free rs (area r) ≡ true → binding r.owner rs ≡ None
    → Fine s (rs ++ (r ∷ []))
unfolding may_stand
last-fine s rs r fine room g f b = record {
  few = rw length-append (omega arith);
  good = all-last (good_record s) rs r fine.good g;
  together =
      two-last may_stand rs r fine.together
      (all_both (λ q. not (hits (area r) q)) (λ q. not (is_binding r.owner q)) rs (free_all rs (area r) f) (first-none (is_binding r.owner) rs b));
}

module _ (s : Settings) (now : Moment) (q : Asked) (rs : List Record) (good : Good s) (gi : good_identity q.who ≡ true) (soon : now < 2 ^ 48) (fine : Fine s rs) where
  extend-fine : Fine s (extend q.who now s.valid rs)
  extend-fine = record {
    few = rw (extend-few s q.who now s.valid rs) fine.few;
    good = extend-good s q.who now s.valid soon good.valid-32 rs fine.good;
    together = extend-together s q.who now s.valid rs fine.together;
  }

  bind-fine : (hint : Option Prefix) (p : Prefix) → binding q.who rs ≡ None → choose s rs hint ≡ Some p
      → Fine s (bind q.who (lease_for s q.asks p) (plus now s.valid) rs)
  bind-fine hint p b e =
      let c = choose-chosen s rs good.lengths hint e in
      last-fine s rs (fresh s q.who q.asks now rs p good gi soon c) fine (choose-room s rs hint e) (fresh-good s q.who q.asks now rs p good gi soon c) c.place.is_free b

  asked-fine : (f : Option Record) (c : Option Prefix) → binding q.who rs ≡ f → choose s rs (hint_of q.listed) ≡ c
      → Fine s (serve_request s now q rs f c).records
  asked-fine (Some r) c b e = extend-fine
  asked-fine None (Some p) b e = bind-fine (hint_of q.listed) p b e
  asked-fine None None b e = fine

  renew-fine : (f : Option Record) → Fine s (serve_renew s now q rs f).records
  renew-fine (Some r) = extend-fine
  renew-fine None = fine

  rebind-fine : (f : Option Record) → Fine s (serve_rebind s now q rs f).records
  rebind-fine (Some r) = extend-fine
  rebind-fine None = fine

  solicit-fine : (f : Option Record) (c : Option Prefix) → Fine s (serve_solicit s now q rs f c).records
  solicit-fine (Some r) c = fine
  solicit-fine None (Some p) = fine
  solicit-fine None None = fine

  release-fine : (f : Option Record) → Fine s (serve_release s now q rs f).records
  release-fine None = fine
  release-fine (Some r) = by (is_freed r q.listed)
    where
      by : (b : Bool) → Fine s (cond b (leaves (give_up (is_binding q.who) rs) success) (leaves rs no_binding)).records
      by true = give-up-fine s (is_binding q.who) rs fine
      by false = fine

  pub serve-fine : (k : Kind) → Fine s (serve s now q rs k).records
  unfolding serve
  serve-fine Solicit = solicit-fine (binding q.who rs) (choose s rs (hint_of q.listed))
  serve-fine Request = asked-fine (binding q.who rs) (choose s rs (hint_of q.listed)) refl refl
  serve-fine Renew = renew-fine (binding q.who rs)
  serve-fine Rebind = rebind-fine (binding q.who rs)
  serve-fine Release = release-fine (binding q.who rs)
