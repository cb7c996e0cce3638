-- Identities, and the identity rows.
use Rattle.std.specs.Prelude.{ℕ, ◌^◌, Bool, true, false, cond, ◌&&◌, ◌||◌, List, [], ◌∷◌, eqb, leb, ltb, length, get_or, Result, Ok, Err}
use Rattle.rules.specs.Words.{all, same_bytes}
use Rattle.rules.specs.Message.{Message}
use Rattle.rules.specs.declared.Refusal.{Refusal}
use Rattle.rules.specs.declared.Refusal.TheVariants.{Unserved}
use Rattle.rules.specs.declared.Kind.{Kind}
use Rattle.rules.specs.declared.Kind.TheVariants.{Solicit, Request, Renew, Rebind, Release}

abbrev pub Duid : Type 0
Duid = List ℕ

-- "An identity is a DUID of 3 to 130 bytes with a 32-bit IAID." Bytes are numbers; those of a lent array are below 256, and no
-- rule asks it again.
pub record Identity : Type 0 where
  pub duid : Duid
  pub iaid : ℕ

abbrev pub identity : Duid → ℕ → Identity
identity d i = record { duid = d; iaid = i }

abbrev pub good_duid : Duid → Bool
good_duid d = leb 3 (length d) && leb (length d) 130

abbrev pub good_identity : Identity → Bool
good_identity i = good_duid i.duid && ltb i.iaid (2 ^ 32)

-- IAID, and the DUID's bytes with their number
abbrev pub same_identity : Identity → Identity → Bool
same_identity i j = eqb i.iaid j.iaid && same_bytes i.duid j.duid

-- ---------------------------------------------------------------- the kinds

-- "The box serves Solicit (1), Request (3), Renew (5), Rebind (6) and Release (8)"
abbrev pub served : ℕ → Bool
served k = eqb k 1 || eqb k 3 || eqb k 5 || eqb k 6 || eqb k 8

abbrev pub kind_of : ℕ → Kind
kind_of k = cond (eqb k 1) Solicit (cond (eqb k 3) Request (cond (eqb k 5) Renew (cond (eqb k 6) Rebind Release)))

-- a type as a kind; 4 "its type isn't one the box serves"
abbrev pub kind_from : ℕ → Result Kind Refusal
kind_from k = cond (served k) (Ok (kind_of k)) (Err Unserved)

abbrev pub type_of : Kind → ℕ
type_of Solicit = 1
type_of Request = 3
type_of Renew = 5
type_of Rebind = 6
type_of Release = 8

-- "it sends Advertise (2) to a Solicit and Reply (7) to the rest"
abbrev pub answer_type : Kind → ℕ
answer_type Solicit = 2
answer_type Request = 7
answer_type Renew = 7
answer_type Rebind = 7
answer_type Release = 7

abbrev pub is_release : Kind → Bool
is_release Solicit = false
is_release Request = false
is_release Renew = false
is_release Rebind = false
is_release Release = true

-- ---------------------------------------------------------------- the rows

-- "One row of yes and no for each served kind", by its type: must one Client ID stand, must one Server ID.
-- The types between are not served, and their rows never read.
unfoldable pub identity_rows : List (Bool × Bool)
identity_rows =
    (false, false)
    -- 1, Solicit: "none may stand"
    ∷ (true, false)
    ∷ (false, false)
    -- 3, Request: "exactly one, equal to the box's DUID"
    ∷ (true, true)
    ∷ (false, false)
    -- 5, Renew
    ∷ (true, true)
    -- 6, Rebind: "none may stand"
    ∷ (true, false)
    ∷ (false, false)
    -- 8, Release
    ∷ (true, true)
    ∷ []

abbrev pub row_of : ℕ → Bool × Bool
row_of k = get_or identity_rows k (false, false)

-- yes: exactly one stands; no: none does
abbrev pub stands : Bool → List Duid → Bool
stands one l = eqb (length l) (cond one 1 0)

-- "every kind needs exactly one Client ID of 3 to 130 bytes", and a Server ID is the box's own
unfoldable pub row_holds : Duid → Message → Bool
row_holds own v =
    stands (row_of v.kind).0 v.clients && all good_duid v.clients
    && stands (row_of v.kind).1 v.servers && all (same_bytes own) v.servers
