-- Laws of the kinds of message and of identities.
use Rattle.std.specs.Prelude.{◌≡◌, refl, Bool, true, false, cond, ◌||◌, List, [], ◌∷◌, ℕ, eqb, length, get_or}
use Rattle.std.proofs.Common.{ap, ◌∙◌, arith, eqb-true, eq-eqb}
use Rattle.rules.specs.Words.{all, same_bytes}
use Rattle.rules.specs.Message.{Message}
use Rattle.rules.specs.Identity.{Duid, Identity, good_duid, same_identity, served, kind_of, type_of, answer_type, identity_rows, row_of, stands, row_holds}
use Rattle.rules.specs.declared.Kind.{Kind}
use Rattle.rules.specs.declared.Kind.TheVariants.{Solicit, Request, Renew, Rebind, Release}
use Rattle.laws.specs.Tests.{both, both-made, false-true}

-- ---------------------------------------------------------------- kinds

-- a served type is the type of its kind
pub served-type : (k : ℕ) → served k ≡ true → k ≡ type_of (kind_of k)
served-type k e = by (eqb k 1) refl (eqb k 3) refl (eqb k 5) refl (eqb k 6) refl (eqb k 8) refl e
  where
    by : (a : Bool) → eqb k 1 ≡ a → (b : Bool) → eqb k 3 ≡ b → (c : Bool) → eqb k 5 ≡ c → (d : Bool) → eqb k 6 ≡ d → (f : Bool) → eqb k 8 ≡ f
        → a || b || c || d || f ≡ true → k ≡ type_of (cond a Solicit (cond b Request (cond c Renew (cond d Rebind Release))))
    by true p b q c r d s f t e = eqb-true k 1 p
    by false p true q c r d s f t e = eqb-true k 3 q
    by false p false q true r d s f t e = eqb-true k 5 r
    by false p false q false r true s f t e = eqb-true k 6 s
    by false p false q false r false s true t e = eqb-true k 8 t
    by false p false q false r false s false t e = absurd (false-true e)

pub type-kind : (k : Kind) → kind_of (type_of k) ≡ k
type-kind Solicit = refl
type-kind Request = refl
type-kind Renew = refl
type-kind Rebind = refl
type-kind Release = refl

pub type-served : (k : Kind) → served (type_of k) ≡ true
type-served Solicit = refl
type-served Request = refl
type-served Renew = refl
type-served Rebind = refl
type-served Release = refl

-- what the box sends is of no served type
pub answer-unserved : (k : Kind) → served (answer_type k) ≡ true → ⊥
answer-unserved Solicit e = false-true e
answer-unserved Request e = false-true e
answer-unserved Renew e = false-true e
answer-unserved Rebind e = false-true e
answer-unserved Release e = false-true e

-- ---------------------------------------------------------------- rows

-- every served kind wants a Client ID
pub row-client : (k : Kind) → (row_of (type_of k)).0 ≡ true
unfolding identity_rows
row-client Solicit = refl
row-client Request = refl
row-client Renew = refl
row-client Rebind = refl
row-client Release = refl

-- exactly one stands, and what holds of all holds of it
pub one-stands : (f : Duid → Bool) (l : List Duid) → stands true l ≡ true → all f l ≡ true → (l ≡ get_or l 0 [] ∷ []) × (f (get_or l 0 []) ≡ true)
one-stands f [] e h = let z : ◌≡◌ {A = ℕ} 0 1 = eqb-true 0 1 e in absurd (omega arith)
one-stands f (d ∷ []) e h = (refl, (both (f d) true h).0)
one-stands f (d ∷ c ∷ l) e h = let z : ◌≡◌ {A = ℕ} (length (d ∷ c ∷ l)) 1 = eqb-true _ 1 e in absurd (omega arith)

-- a message whose row holds has one good Client ID
pub row-one-client : (own : Duid) (v : Message) → served v.kind ≡ true → row_holds own v ≡ true
    → (v.clients ≡ get_or v.clients 0 [] ∷ []) × (good_duid (get_or v.clients 0 []) ≡ true)
unfolding row_holds
row-one-client own v s e =
    let a = both _ (all (same_bytes own) v.servers) e in
    let b = both _ (stands (row_of v.kind).1 v.servers) a.0 in
    let c = both (stands (row_of v.kind).0 v.clients) (all good_duid v.clients) b.0 in
    let r : (row_of v.kind).0 ≡ true = ap (λ (k : ℕ). (row_of k).0) (served-type v.kind s) ∙ row-client (kind_of v.kind) in
    one-stands good_duid v.clients (rw r at c.0) c.1

-- ---------------------------------------------------------------- identities

pub bytes-true : (x y : List ℕ) → same_bytes x y ≡ true → x ≡ y
bytes-true [] [] e = refl
bytes-true [] (b ∷ y) e = absurd (false-true e)
bytes-true (a ∷ x) [] e = absurd (false-true e)
bytes-true (a ∷ x) (b ∷ y) e = let h = both (eqb a b) (same_bytes x y) e in let p = eqb-true a b h.0 in let q = bytes-true x y h.1 in cc

pub bytes-refl : (x : List ℕ) → same_bytes x x ≡ true
bytes-refl [] = refl
bytes-refl (a ∷ x) = rw (eq-eqb a a refl) (bytes-refl x)

pub identity-path : {i j : Identity} → i.duid ≡ j.duid → i.iaid ≡ j.iaid → i ≡ j
identity-path p q = λ t. record { duid = p t; iaid = q t }

pub identity-true : (i j : Identity) → same_identity i j ≡ true → i ≡ j
identity-true i j e = let h = both (eqb i.iaid j.iaid) (same_bytes i.duid j.duid) e in identity-path (bytes-true _ _ h.1) (eqb-true _ _ h.0)

pub identity-refl : (i : Identity) → same_identity i i ≡ true
identity-refl i = both-made (eq-eqb i.iaid i.iaid refl) (bytes-refl i.duid)

pub identity-same : (i j : Identity) → i ≡ j → same_identity i j ≡ true
identity-same i j e = rw e (identity-refl j)
