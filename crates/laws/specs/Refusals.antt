-- A table of refusals: nothing is refused exactly where every test fails; and what a result tells.
--   number, refused_by        the number of the first test that applies, or 0; the number with which code refuses, or 0
--   numbered                  no refusal has the number 0
--   goes, stops, passed_on    what `Ok` and `Err` say of the number, and a refusal handed on; word_refused: its word for C
--   none-applies              what the number 0 says of the tests
--   number-here, -later       a table judged part by part
--   number-refused            what another number says of the result
--   in-time                   what the passed test of the time says
--   nine-once                 the test of the lent bytes, and of what they represent
use Rattle.std.specs.Prelude.{◌≡◌, refl, Bool, true, false, cond, not, List, [], ◌∷◌, ◌++◌, ℕ, ◌≤◌, ◌<◌, ◌^◌, leb, ltb, Result, Ok, Err, ◌*◌}
use Rattle.std.proofs.Common.{sym, ◌∙◌, ap, subst, arith, ltb-true, ltb-false, leb-false}
use Rattle.rules.specs.Words.{all}
use Rattle.rules.specs.Refusals.{Res, refuse, done, number_of, unless, bad_time}
use Rattle.rules.specs.Lent.{word_of}
use Rattle.rules.specs.declared.Refusal.{Refusal}
use Rattle.rules.specs.declared.Refusal.TheVariants.{Time, Room, Size, Unserved, Malformed, Identity, Delegation, Silence, Unsound, Settings, Busy, Early, State, Unawaited}
use Rattle.laws.specs.Tests.{both, neither}
use Rattle.laws.specs.Every.{Every}

module _ {A : Type 0} where
  not-refused : (b : Bool) (n : ℕ) {x : Res A} {a : A} → cond b (refuse n) x ≡ done a → (b ≡ false) × (x ≡ done a)
  not-refused true n h = let z : ◌≡◌ {A = ℕ} 0 1 = cc in absurd (omega arith)
  not-refused false n h = (refl, h)

  pub unless-done : {x : Res A} {a : A} (ts : List (ℕ × Bool)) → unless ts x ≡ done a → Every (λ r. r.1 ≡ false) ts × (x ≡ done a)
  unless-done [] h = (tt, h)
  unless-done (r ∷ ts) h =
      let p = not-refused r.1 r.0 h in
      let q = unless-done ts p.1 in
      ((p.0, q.0), q.1)

  pub unless-made : (ts : List (ℕ × Bool)) (x : Res A) → Every (λ r. r.1 ≡ false) ts → unless ts x ≡ x
  unless-made [] x h = refl
  unless-made (r ∷ ts) x h = rw h.0 (unless-made ts x h.1)

-- what is proved of the result that was written is proved of the result that was named
pub one : {A : Type 0} (P : A → Type 0) {x y : A} → done x ≡ done y → P x → P y
one P {x} {y} e h = let p : x ≡ y = cc in subst P p h

pub two : {A B : Type 0} (P : A → B → Type 0) {x x' : A} {y y' : B} → ◌≡◌ {A = Res (A × B)} (done (x, y)) (done (x', y')) → P x y → P x' y'
two P e h = one (λ z. P z.0 z.1) e h

-- ---------------------------------------------------------------- as a number

abbrev pub number : List (ℕ × Bool) → ℕ
number [] = 0
number (r ∷ rs) = cond r.1 r.0 (number rs)

-- the number with which code refuses, or 0
abbrev pub refused_by : {A : Type 0} → Result A Refusal → ℕ
refused_by (Ok x) = 0
refused_by (Err r) = number_of r

pub numbered : (r : Refusal) → number_of r ≡ 0 → ⊥
numbered Time h = omega arith
numbered Room h = omega arith
numbered Size h = omega arith
numbered Unserved h = omega arith
numbered Malformed h = omega arith
numbered Identity h = omega arith
numbered Delegation h = omega arith
numbered Silence h = omega arith
numbered Unsound h = omega arith
numbered Settings h = omega arith
numbered Busy h = omega arith
numbered Early h = omega arith
numbered State h = omega arith
numbered Unawaited h = omega arith

pub goes : {A : Type 0} {q : Result A Refusal} {x : A} → q ≡ Ok x → refused_by q ≡ 0
goes h = ap refused_by h

module _ {A : Type 0} {q : Result A Refusal} {f : Refusal} (h : q ≡ Err f) where
  pub stops : refused_by q ≡ 0 → ⊥
  stops z = numbered f (sym (ap refused_by h) ∙ z)

  pub passed_on : {n : ℕ} → ((refused_by q ≡ 0 → ⊥) → refused_by q ≡ n) → number_of f ≡ n
  passed_on j = sym (ap refused_by h) ∙ j stops

  -- r is the same refusal
  pub word_refused : {r : Result ℕ Refusal} → r ≡ Err f → word_of r ≡ refused_by q * 65536
  word_refused g = ap word_of g ∙ sym (ap (λ x. refused_by x * 65536) h)

-- of a table whose numbers are above 0: where the first that applies is 0, none applies
pub none-applies : (ts : List (ℕ × Bool)) → all (λ r. ltb 0 r.0) ts ≡ true → {n : ℕ} → n ≡ number ts → n ≡ 0 → Every (λ r. r.1 ≡ false) ts
none-applies [] p e z = tt
none-applies (r ∷ ts) p {n} e z =
    let q = both (ltb 0 r.0) (all (λ r. ltb 0 r.0) ts) p in
    by r.1 refl e (ltb-true 0 r.0 q.0) (λ g. none-applies ts q.1 g z)
  where
    by : (b : Bool) → r.1 ≡ b → n ≡ cond b r.0 (number ts) → 0 < r.0 → (n ≡ number ts → Every (λ r. r.1 ≡ false) ts) → (r.1 ≡ false) × Every (λ r. r.1 ≡ false) ts
    by true f g l k = absurd (omega arith)
    by false f g l k = (f, k g)

-- a table in two parts: one test of the first applies, or none does
pub number-here : (ts us : List (ℕ × Bool)) {n : ℕ} → n ≡ number ts → (n ≡ 0 → ⊥) → n ≡ number (ts ++ us)
number-here [] us e h = absurd (h e)
number-here (r ∷ ts) us {n} e h = by r.1 e (λ q. number-here ts us q h)
  where
    by : (b : Bool) → n ≡ cond b r.0 (number ts) → (n ≡ number ts → n ≡ number (ts ++ us)) → n ≡ cond b r.0 (number (ts ++ us))
    by true q g = q
    by false q g = g q

number_past : (ts us : List (ℕ × Bool)) → Every (λ r. r.1 ≡ false) ts → number (ts ++ us) ≡ number us
number_past [] us h = refl
number_past (r ∷ ts) us h = rw h.0 (number_past ts us h.1)

pub number-later : (ts us : List (ℕ × Bool)) → all (λ r. ltb 0 r.0) ts ≡ true → {n : ℕ} → n ≡ number ts → n ≡ 0 → number (ts ++ us) ≡ number us
number-later ts us p e z = number_past ts us (none-applies ts p e z)

pub number-refused : {A : Type 0} (ts : List (ℕ × Bool)) (x : Res A) {n : ℕ} → n ≡ number ts → (n ≡ 0 → ⊥) → unless ts x ≡ refuse n
number-refused [] x e h = absurd (h e)
number-refused (r ∷ ts) x {n} e h = by r.1 e (λ q. number-refused ts x q h)
  where
    by : (b : Bool) → n ≡ cond b r.0 (number ts) → (n ≡ number ts → unless ts x ≡ refuse n) → cond b (refuse r.0) (unless ts x) ≡ refuse n
    by true q g = ap refuse (sym q)
    by false q g = g q

-- ---------------------------------------------------------------- 1

pub in-time : (last now : ℕ) → bad_time last now ≡ false → (last ≤ now) × (now < 2 ^ 48)
in-time last now h = let t = neither (ltb now last) (leb (2 ^ 48) now) h in (ltb-false now last t.0, leb-false (2 ^ 48) now t.1)

-- ---------------------------------------------------------------- 9, once

-- lent bytes that aren't the representation of a sound table or state, and then a table or state that isn't sound
pub nine-once : {A : Type 0} (p q : Bool) → (p ≡ true → q ≡ true) → (ts : List (ℕ × Bool)) (x : Res A)
    → unless ((9, not p) ∷ []) (unless ((9, not q) ∷ ts) x) ≡ unless ((9, not p) ∷ ts) x
nine-once true q h ts x = rw (h refl)
nine-once false q h ts x = refl
