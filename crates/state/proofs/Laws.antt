-- What a sound state says, as code reads it; and the tests by the state, one after the other as code makes them.
use Rattle.std.specs.Prelude.{Option, None, Some, Ok, Err, option_map}
use Rattle.std.specs.Option.{option_eq}
use Rattle.std.specs.Result.{result_ok}
use mathlib.Core.Path.{◌≡◌, refl, sym, ap, ◌∙◌}
use mathlib.Core.Logic.{◌⊎◌, inl, inr}
use mathlib.Core.Bool.{Bool, true, false, cond, not, ◌&&◌, ◌||◌, false≢true}
use mathlib.Core.List.{List, [], ◌∷◌, ◌++◌}
use Prim.Native.Nat.{ℕ, ◌^◌}
use native.Mathlib.Omega.{arith}
use denote.Enum.Bare.{sameb}
use lib.Dec.{eqb, leb, ltb}
use lib.ListN.{length, take, drop, replicate}
use Rattle.std.proofs.Common.{take-take}
use Rattle.std.proofs.Math.Seq.{take_at}
use Rattle.rules.specs.Words.{all, part, be, num_at}
use Rattle.rules.specs.Refusals.{bad_time}
use Rattle.rules.specs.Identity.{served, kind_of, kind_from, type_of, is_release}
use Rattle.rules.specs.Router.{Hold, Exchange, known, holds, is_held, is_open, open_of}
use Rattle.rules.specs.RouterBytes.{lease_bytes, hold_bytes, held_bytes, sent_bytes, exchange_bytes, lease_of, hold_of, duid_at, router_of, sound_router_bytes}
use Rattle.rules.specs.contracts.Kind.{the_type}
use Rattle.rules.specs.declared.Kind.{Kind}
use Rattle.rules.specs.declared.Kind.TheVariants.{Solicit, Request, Renew, Rebind, Release}
use Rattle.rules.specs.declared.Refusal.{Refusal}
use Rattle.rules.specs.declared.Refusal.TheVariants.{Unserved}
use Rattle.laws.specs.Tests.{neither}
use Rattle.laws.specs.Kinds.{served-type}
use Rattle.laws.specs.Fields.{field_at}
use Rattle.laws.specs.Refusals.{number}
use Rattle.laws.specs.RouterFields.{lease-size, hold-size}
use Rattle.laws.specs.RouterFlat.{num-part, known-if, lease_in, exchange_in}
use Rattle.laws.specs.RouterRepresent.{type-byte, inner-byte, inner-rest, lent-fields, lent_length}
use Rattle.laws.specs.RouterChange.{held_bytes_lem}
use Rattle.state.specs.Judged.{by_state}

-- ---------------------------------------------------------------- 9, 1

module _ (b : List ℕ) (now : ℕ) where
  pub state-long : (length b ≡ 384 → ⊥) → 9 ≡ by_state b now
  unfolding by_state
  state-long h = by (sound_router_bytes b) refl
    where
      by : (t : Bool) → sound_router_bytes b ≡ t → 9 ≡ cond (not t) 9 (number ((1, bad_time (router_of b).last now) ∷ []))
      by true e = absurd (h (lent_length b e))
      by false e = refl

  module _ {x : Bool} (sd : x ≡ sound_router_bytes b) where
    pub state-9 : x ≡ false → 9 ≡ by_state b now
    unfolding by_state
    state-9 h = rw (← sd, h)

    module _ (s : x ≡ true) {last : ℕ} (la : last ≡ num_at b 0 8) where
      timed : {y : Bool} → ltb now last || leb (2 ^ 48) now ≡ y → bad_time (router_of b).last now ≡ y
      unfolding router_of
      timed h = ap (λ x. bad_time x now) (sym la) ∙ h

      pub state-1 : ltb now last || leb (2 ^ 48) now ≡ true → 1 ≡ by_state b now
      unfolding by_state
      state-1 h = rw (← sd, s, timed h)

      pub state-0 : ltb now last || leb (2 ^ 48) now ≡ false → 0 ≡ by_state b now
      unfolding by_state
      state-0 h = rw (← sd, s, timed h)

-- ---------------------------------------------------------------- what a sound state says

-- its server
pub known-read : (b : List ℕ) {n : ℕ} → n ≡ num_at b 172 1 → not (eqb n 0) ≡ known (router_of b).server
unfolding router_of
known-read b e = rw e (sym (known-if (num_at b 172 1) (duid_at b 172)))

-- its hold, from the flag and the end
pub held-read : (b : List ℕ) (now : ℕ) {n t : ℕ} → n ≡ num_at b 303 1 → t ≡ num_at b 338 8 → not (eqb n 0) && ltb now t ≡ is_held (holds now (router_of b).held)
unfolding router_of hold_of
held-read b now {n} {t} en et = rw (← en, num-part b 304 42 34 8 (omega arith), ← et) (by (eqb n 0))
  where
    by : (z : Bool) → not z && ltb now t ≡ is_held (holds now (cond z None (Some (record { lease = lease_of (part 304 42 b); end = t }))))
    by true = refl
    by false = at (ltb now t)
      where
        at : (u : Bool) → u ≡ is_held (cond u (Some (lease_of (part 304 42 b))) None)
        at true = refl
        at false = refl

-- the delegation of the hold
pub lease-read : (b : List ℕ) (now : ℕ) → sound_router_bytes b ≡ true → is_held (holds now (router_of b).held) ≡ true → part 304 34 b ≡ sent_bytes (holds now (router_of b).held)
unfolding hold_bytes part
lease-read b now s = by (router_of b).held (held_bytes_lem b s)
  where
    by : (o : Option Hold) → part 303 43 b ≡ held_bytes o → is_held (holds now o) ≡ true → part 304 34 b ≡ sent_bytes (holds now o)
    by None q h = absurd (false≢true h)
    by (Some x) q h = at (ltb now x.end) h
      where
        e : part 304 42 b ≡ lease_bytes x.lease ++ be 8 x.end
        e = inner-rest b 303 1 42 _ q (hold-size x)

        at : (u : Bool) → is_held (cond u (Some x.lease) None) ≡ true → part 304 34 b ≡ sent_bytes (cond u (Some x.lease) None)
        at false h = absurd (false≢true h)
        at true h = sym (take-take 34 42 (drop 304 b) (omega arith)) ∙ ap (take 34) e ∙ take_at (lease_bytes x.lease) _ 34 (lease-size x.lease)

-- the kind of its exchange, from the type
kind-known : (k : Kind) → result_ok (kind_from (type_of k)) ≡ Some k
kind-known Solicit = refl
kind-known Request = refl
kind-known Renew = refl
kind-known Rebind = refl
kind-known Release = refl

pub kind-read : (b : List ℕ) → sound_router_bytes b ≡ true → {k : ℕ} → k ≡ num_at b 346 1 → result_ok (kind_from k) ≡ option_map (λ x. x.kind) (router_of b).exchange
kind-read b s e = rw e (by (router_of b).exchange (field_at (lent-fields b s) 10 (omega arith)))
  where
    by : (o : Option Exchange) → part 346 35 b ≡ exchange_bytes o → result_ok (kind_from (num_at b 346 1)) ≡ option_map (λ x. x.kind) o
    by None q = rw (inner-byte b 346 35 0 (replicate 34 0) q (omega arith) (omega arith))
    by (Some x) q = rw (inner-byte b 346 35 (type_of x.kind) (sent_bytes x.sent) q (omega arith) (type-byte x.kind)) (kind-known x.kind)

-- ---------------------------------------------------------------- the exchange, by its kind

-- a type that is a kind's
pub type-from : (k : ℕ) {d : Kind} → kind_from k ≡ Ok d → k ≡ type_of d
type-from k {d} e = by (served k) refl e
  where
    by : (t : Bool) → served k ≡ t → cond t (Ok (kind_of k)) (Err Unserved) ≡ Ok d → k ≡ type_of d
    by true s e = let p : kind_of k ≡ d = cc in served-type k s ∙ ap type_of p
    by false s e = absurd (false≢true (cc))

-- s is whether a server is known, l whether the delegation is good, z whether zeros stand for it
abbrev good_for : Kind → Bool → Bool → Bool → Bool
good_for Solicit s l z = z
good_for Request s l z = s && z
good_for Renew s l z = s && l
good_for Rebind s l z = l
good_for Release s l z = s && l

module _ (b : List ℕ) where
  with-server : (t u : Bool) → cond t false u ≡ not t && u
  with-server true u = refl
  with-server false u = refl

  pub exchange-kind : (d : Kind) {n : ℕ} → num_at b 346 1 ≡ type_of d → n ≡ num_at b 172 1
      → exchange_in b ≡ good_for d (not (eqb n 0)) (lease_in 347 b) (all (eqb 0) (part 347 34 b))
  unfolding exchange_in
  exchange-kind Solicit e en = rw e
  exchange-kind Request e en = rw (e, en) (with-server (eqb (num_at b 172 1) 0) (all (eqb 0) (part 347 34 b)))
  exchange-kind Renew e en = rw (e, en) (with-server (eqb (num_at b 172 1) 0) (lease_in 347 b))
  exchange-kind Rebind e en = rw e
  exchange-kind Release e en = rw (e, en) (with-server (eqb (num_at b 172 1) 0) (lease_in 347 b))

  -- a Renew and a Release want the same
  pub exchange-both : {d : Kind} {n : ℕ} → (d ≡ Renew) ⊎ (d ≡ Release) → num_at b 346 1 ≡ type_of d → n ≡ num_at b 172 1 → exchange_in b ≡ not (eqb n 0) && lease_in 347 b
  exchange-both (inl h) e en = exchange-kind Renew (e ∙ ap type_of h) en
  exchange-both (inr h) e en = exchange-kind Release (e ∙ ap type_of h) en

  -- any other type is 0, and zeros follow
  or_none : (t : Bool) → t || false || false ≡ t
  or_none true = refl
  or_none false = refl

  pub exchange-none : {k : ℕ} {x : Refusal} → k ≡ num_at b 346 1 → kind_from k ≡ Err x → eqb k 0 && all (eqb 0) (part 347 34 b) ≡ exchange_in b
  unfolding exchange_in
  exchange-none {k} {x} ek e = by (served k) refl e
    where
      by : (t : Bool) → served k ≡ t → cond t (Ok (kind_of k)) (Err Unserved) ≡ Err x → eqb k 0 && all (eqb 0) (part 347 34 b) ≡ exchange_in b
      by true s e = absurd (false≢true (cc))
      by false s e =
          let a = neither (eqb k 1 || eqb k 3 || eqb k 5 || eqb k 6) (eqb k 8) s in
          let c = neither (eqb k 1 || eqb k 3 || eqb k 5) (eqb k 6) a.0 in
          let d = neither (eqb k 1 || eqb k 3) (eqb k 5) c.0 in
          let f = neither (eqb k 1) (eqb k 3) d.0 in
          rw (← ek, f.0, f.1, d.1, c.1, a.1, or_none)

-- ---------------------------------------------------------------- a Release

pub release-same : (k : Kind) → sameb the_type k Release ≡ is_release k
release-same Solicit = refl
release-same Request = refl
release-same Renew = refl
release-same Rebind = refl
release-same Release = refl

pub release-open : (o : Option Exchange) → is_open o ≡ true → option_eq (sameb the_type) (option_map (λ x. x.kind) o) (Some Release) ≡ is_release (open_of o).kind
release-open None h = absurd (false≢true h)
release-open (Some x) h = release-same x.kind
