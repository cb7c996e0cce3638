-- Demand 3: every prefix that a router alive still counts as held is bound to it in the box's table, with the same excluded prefix,
-- until at least the moment the router stops. So no two routers hold overlapping prefixes.
use Rattle.std.specs.Prelude.{◌≡◌, refl, Bool, true, false, not, ◌⊎◌, Some}
use Rattle.std.proofs.Common.{sym, ◌∙◌, ap, subst, inl, inr, arith}
use mathlib.Core.List.{List, [], ◌∷◌, Memᴰ}
use Rattle.std.proofs.lemmas.Bool.{not-true, not-false}
use Rattle.rules.specs.Words.{all, no_two}
use Rattle.rules.specs.Refusals.{done}
use Rattle.rules.specs.Prefix.{overlap}
use Rattle.rules.specs.Clock.{Moment}
use Rattle.rules.specs.Identity.{Identity, same_identity}
use Rattle.rules.specs.Settings.{Settings, good_settings}
use Rattle.rules.specs.Table.{Record, Table, area, may_stand, sound}
use Rattle.rules.specs.Box.{start_tests, box_start}
use Rattle.rules.specs.World.{Box}
use Rattle.rules.specs.Promises.{Bound, Demand3, Apart}
use Rattle.rules.specs.Router.{Hold}
use Rattle.laws.specs.Tests.{both}
use Rattle.laws.specs.Refusals.{unless-done, in-time, one}
use Rattle.laws.specs.Prefix.{overlap-sym}
use Rattle.laws.specs.Sound.{sound-facts, sound-made}
use Rattle.promises.proofs.Invariant.{Steps, invariant}
use Rattle.promises.proofs.Routers.{starts, begins, repeats, closes, accepts}
use Rattle.promises.specs.Boxes.{answers}

-- ---------------------------------------------------------------- every step

-- a box that just started is sound
box-starts : (s : Settings) (n : Moment) (T : Table) → box_start s n ≡ done T → sound T ≡ true
unfolding box_start
box-starts s n T e =
    let a = unless-done (start_tests (good_settings s) n) e in
    one (λ t. sound t ≡ true) a.1
    (sound-made _ (record { settings = not-false _ a.0.0; few = omega arith; good = refl; together = refl; time = (in-time 0 n a.0.1.0).1 }))

pub steps : Steps
steps = record { box-starts = box-starts; starts = starts; begins = begins; repeats = repeats; closes = closes; accepts = accepts; answers = answers }

-- ---------------------------------------------------------------- demand 3

pub demand3 : Demand3
demand3 n B A S R i r h p q l = ((invariant steps R).ok i r p).bound q l

-- ---------------------------------------------------------------- its last sentence

all-mem : (f : Record → Bool) {ρ : Record} (l : List Record) → all f l ≡ true → Memᴰ ρ l → f ρ ≡ true
all-mem f [] e h = elim h [ ]
all-mem f {ρ} (a ∷ l) e h = let p = both (f a) (all f l) e in by (mathlib.Core.List.Memᴰ.cases_cons h) p.0 (λ k. all-mem f l p.1 k)
  where
    by : (ρ ≡ a) ⊎ Memᴰ ρ l → f a ≡ true → (Memᴰ ρ l → f ρ ≡ true) → f ρ ≡ true
    by (inl q) g r = rw q g
    by (inr k) g r = r k

-- two records that stand in one list are the same, or may stand together, one way round or the other
pair : (rs : List Record) → no_two may_stand rs ≡ true → {ρ σ : Record} → Memᴰ ρ rs → Memᴰ σ rs
    → (ρ ≡ σ) ⊎ ((may_stand ρ σ ≡ true) ⊎ (may_stand σ ρ ≡ true))
pair [] e h g = elim h [ ]
pair (a ∷ l) e {ρ} {σ} h g =
    let p = both (all (may_stand a) l) (no_two may_stand l) e in
    by (mathlib.Core.List.Memᴰ.cases_cons h) (mathlib.Core.List.Memᴰ.cases_cons g) (λ k. all-mem (may_stand a) l p.0 k) (λ k. all-mem (may_stand a) l p.0 k) (λ k j. pair l p.1 k j)
  where
    by : (ρ ≡ a) ⊎ Memᴰ ρ l → (σ ≡ a) ⊎ Memᴰ σ l → (Memᴰ ρ l → may_stand a ρ ≡ true) → (Memᴰ σ l → may_stand a σ ≡ true)
        → (Memᴰ ρ l → Memᴰ σ l → (ρ ≡ σ) ⊎ ((may_stand ρ σ ≡ true) ⊎ (may_stand σ ρ ≡ true)))
        → (ρ ≡ σ) ⊎ ((may_stand ρ σ ≡ true) ⊎ (may_stand σ ρ ≡ true))
    by (inl u) (inl w) x y z = inl (u ∙ sym w)
    by (inl u) (inr k) x y z = inr (inl (rw u (y k)))
    by (inr k) (inl w) x y z = inr (inr (rw w (x k)))
    by (inr k) (inr j) x y z = z k j

may-stand : (ρ σ : Record) → may_stand ρ σ ≡ true → overlap (area ρ) (area σ) ≡ false
unfolding may_stand
may-stand ρ σ e = not-true _ (both (not (overlap (area ρ) (area σ))) (not (same_identity ρ.owner σ.owner)) e).0

bound-apart : (B : Box) → ((T : Table) → B ≡ Some T → sound T ≡ true) → (i j : Identity) (g h : Hold) → (i ≡ j → ⊥) → Bound B i g → Bound B j h
    → overlap g.lease.prefix h.lease.prefix ≡ false
bound-apart B f i j g h d b c =
    let w : c.table ≡ b.table = cc in
    let s = sound-facts b.table (f b.table b.started) in
    let k : Memᴰ c.record_of b.table.records = subst (λ t. Memᴰ c.record_of t.records) w c.stands in
    by (pair b.table.records s.together b.stands k)
  where
    same-areas : overlap (area b.record_of) (area c.record_of) ≡ overlap g.lease.prefix h.lease.prefix
    same-areas = ap (λ x. overlap x.prefix (area c.record_of)) b.same ∙ ap (λ x. overlap g.lease.prefix x.prefix) c.same

    by : (b.record_of ≡ c.record_of) ⊎ ((may_stand b.record_of c.record_of ≡ true) ⊎ (may_stand c.record_of b.record_of ≡ true))
        → overlap g.lease.prefix h.lease.prefix ≡ false
    by (inl e) = absurd (d (sym b.owned ∙ ap (λ r. r.owner) e ∙ c.owned))
    by (inr (inl e)) = sym same-areas ∙ may-stand _ _ e
    by (inr (inr e)) = sym same-areas ∙ overlap-sym _ _ ∙ may-stand _ _ e

pub apart : Apart
apart n B A S R i j q r g h d p u l o v k =
    bound-apart B (invariant steps R).sound-table i j g h d (demand3 n B A S R i q g p u l) (demand3 n B A S R j r h o v k)
