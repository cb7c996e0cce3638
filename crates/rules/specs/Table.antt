-- The box's table, and when it is sound.
--   Record, Table                       a record; the settings, the last time, and the records in order of binding
--   is_binding, area, left, may_stand     what a record means to an identity, to other prefixes, and to other records
--   give_up, live                        records given up in their places; "with an end after now, or never"
--   sound                               when a table is sound
use Rattle.std.specs.Prelude.{ℕ, ◌^◌, Bool, true, false, not, ◌&&◌, List, [], ◌∷◌, ◌++◌, leb, ltb, length, Option, None, Some}
use Rattle.rules.specs.Words.{all, no_two}
use Rattle.rules.specs.Prefix.{Prefix, zero_after, same_prefix, overlap, inside, last64, Lease}
use Rattle.rules.specs.Clock.{Moment, good_end}
use Rattle.rules.specs.Identity.{Identity, good_identity, same_identity}
use Rattle.rules.specs.Settings.{Settings, good_settings}

-- "A record keeps the identity's own bytes, at most 130, with IAID, prefix, length, excluded prefix or none, and end."
pub record Record : Type 0 where
  pub owner : Identity
  pub lease : Lease
  pub end : Moment

pub record Table : Type 0 where
  pub settings : Settings
  pub last : Moment
  pub records : List Record

abbrev pub most_records : ℕ
most_records = 256

-- ---------------------------------------------------------------- what a record means

-- Four words that say it in one place each; everything else goes by them.

-- the record is a binding of that identity
abbrev pub is_binding : Identity → Record → Bool
is_binding i r = same_identity r.owner i

-- the prefix that a record keeps from others
abbrev pub area : Record → Prefix
area r = r.lease.prefix

-- what stands in a record's place once it is given up: nothing, "The whole delegation is then free"
abbrev pub left : Record → List Record
left r = []

-- "no two overlap, no identity stands twice": the two may stand in one table
unfoldable pub may_stand : Record → Record → Bool
may_stand r q = not (overlap (area r) (area q)) && not (same_identity r.owner q.owner)

-- ""Live" means with an end after now, or never."
abbrev pub live : Moment → Record → Bool
live now r = ltb now r.end

-- the records with some given up, "gaps closed up"
abbrev pub in_place : Bool → Record → List Record → List Record
in_place true r rest = left r ++ rest
in_place false r rest = r ∷ rest

unfoldable pub give_up : (Record → Bool) → List Record → List Record
give_up f [] = []
give_up f (r ∷ rs) = in_place (f r) r (give_up f rs)

-- "drops every record whose end is at or before now"
abbrev pub current : Moment → List Record → List Record
current now rs = give_up (λ r. not (live now r)) rs

-- ---------------------------------------------------------------- sound

-- "each excluded prefix is the last /64 of its delegation (none where exclusion is off)"
abbrev pub good_except : Settings → Prefix → Option Prefix → Bool
good_except s p None = true
good_except s p (Some e) = s.exclusion && same_prefix e (last64 p)

-- "all prefixes lie in the pool with length S to 60 and zero bits after it", "each DUID has 3 to 130 bytes", "each end is below 2^49 or never"
unfoldable pub good_record : Settings → Record → Bool
good_record s r =
    good_identity r.owner
    && inside r.lease.prefix s.pool && leb s.shortest r.lease.prefix.length && leb r.lease.prefix.length 60
    && zero_after r.lease.prefix && good_except s r.lease.prefix r.lease.except
    && good_end r.end

-- "A table is sound when its settings are good, it has at most 256 records, .. and the last time is below 2^48."
unfoldable pub sound : Table → Bool
sound t =
    good_settings t.settings
    && leb (length t.records) most_records
    && all (good_record t.settings) t.records
    && no_two may_stand t.records
    && ltb t.last (2 ^ 48)
