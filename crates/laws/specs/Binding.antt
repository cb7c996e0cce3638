-- An identity's binding: the first record of the identity, if it is live; dropping ended records changes nothing of that.
use Rattle.std.specs.Prelude.{◌≡◌, refl, Bool, true, false, cond, not, List, [], ◌∷◌, Option, None, Some}
use Rattle.std.proofs.Common.{sym, ap, ◌∙◌}
use Rattle.std.proofs.Math.Bool.{not-not}
use Rattle.std.proofs.lemmas.Bool.{not-true}
use Rattle.rules.specs.Words.{all, no_two, cons_if, keep, first}
use Rattle.rules.specs.Clock.{Moment}
use Rattle.rules.specs.Identity.{Identity, same_identity}
use Rattle.rules.specs.Prefix.{overlap}
use Rattle.rules.specs.Table.{Record, is_binding, area, may_stand, live, current}
use Rattle.rules.specs.Box.{binding}
use Rattle.laws.specs.Tests.{both, false-true}
use Rattle.laws.specs.Loops.{all-sub, all_keep}
use Rattle.laws.specs.Kinds.{identity-true, identity-same}
use Rattle.laws.specs.Sound.{give-up}

-- none is found where all fail
pub none_first : {A : Type 0} (f : A → Bool) (l : List A) → all (λ x. not (f x)) l ≡ true → first f l ≡ None
none_first f [] h = refl
none_first f (x ∷ l) h = let p = both (not (f x)) (all (λ y. not (f y)) l) h in rw (not-true (f x) p.0) (none_first f l p.1)

-- the ended ones dropped
pub current-keep : (now : Moment) (rs : List Record) → current now rs ≡ keep (live now) rs
current-keep now rs = give-up (λ r. not (live now r)) rs ∙ same rs
  where
    same : (l : List Record) → keep (λ r. not (not (live now r))) l ≡ keep (live now) l
    same [] = refl
    same (r ∷ l) = rw (not-not (live now r), same l)

-- a record of the identity stands beside no other of it
alone : (i : Identity) (a : Record) (l : List Record) → is_binding i a ≡ true → all (may_stand a) l ≡ true → all (λ r. not (is_binding i r)) l ≡ true
unfolding may_stand
alone i a l h e = all-sub (may_stand a) (λ r. not (is_binding i r)) (λ r g. by r (is_binding i r) refl (both (not (overlap (area a) (area r))) (not (same_identity a.owner r.owner)) g).1) l e
  where
    by : (r : Record) (b : Bool) → is_binding i r ≡ b → not (same_identity a.owner r.owner) ≡ true → not b ≡ true
    by r false q g = refl
    by r true q g =
        let s = identity-same a.owner r.owner (identity-true a.owner i h ∙ sym (identity-true r.owner i q)) in
        absurd (false-true (sym (not-true _ g) ∙ s))

-- what is found among all, if it is live
abbrev pub if_live : Moment → Option Record → Option Record
if_live now None = None
if_live now (Some r) = cond (live now r) (Some r) None

pub binding-current : (i : Identity) (now : Moment) (rs : List Record) → no_two may_stand rs ≡ true → binding i (current now rs) ≡ if_live now (binding i rs)
binding-current i now rs e = ap (first (is_binding i)) (current-keep now rs) ∙ go rs e
  where
    go : (l : List Record) → no_two may_stand l ≡ true → first (is_binding i) (keep (live now) l) ≡ if_live now (first (is_binding i) l)
    go [] h = refl
    go (a ∷ l) h =
        let p = both (all (may_stand a) l) (no_two may_stand l) h in
        by (is_binding i a) refl (live now a) refl (λ q. none_first (is_binding i) (keep (live now) l) (all_keep (live now) (λ r. not (is_binding i r)) l (alone i a l q p.0))) (go l p.1)
      where
        by : (b : Bool) → is_binding i a ≡ b → (c : Bool) → live now a ≡ c → (is_binding i a ≡ true → first (is_binding i) (keep (live now) l) ≡ None)
            → first (is_binding i) (keep (live now) l) ≡ if_live now (first (is_binding i) l)
            → first (is_binding i) (cons_if c a (keep (live now) l)) ≡ if_live now (cond b (Some a) (first (is_binding i) l))
        by true q true r f g = rw (q, r)
        by true q false r f g = rw r (f q)
        by false q true r f g = rw q g
        by false q false r f g = g
