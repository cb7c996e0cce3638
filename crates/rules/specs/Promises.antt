-- What is promised, as statements over the rules. They are proved elsewhere; nothing here is assumed.
use Rattle.std.specs.Prelude.{ℕ, ◌≤◌, ◌<◌, ◌≡◌, true, false, ◌⊎◌, ◌↔◌, length, None, Some}
use mathlib.Core.List.{List, Memᴰ}
use Rattle.rules.specs.Refusals.{done}
use Rattle.rules.specs.Prefix.{Prefix, zero_after, overlap, inside}
use Rattle.rules.specs.Message.{read}
use Rattle.rules.specs.Clock.{Moment}
use Rattle.rules.specs.Identity.{Identity, kind_of}
use Rattle.rules.specs.Table.{Record, Table, current, most_records, sound}
use Rattle.rules.specs.Choose.{free}
use Rattle.rules.specs.Box.{binding, asked_by, box_handle}
use Rattle.rules.specs.Router.{Router, Hold, no_prefix}
use Rattle.rules.specs.World.{Box, Alive, Sent, Run}
use Rattle.rules.specs.declared.Kind.{Kind}
use Rattle.rules.specs.declared.Kind.TheVariants.{Solicit, Request}

-- ---------------------------------------------------------------- a sound table stays sound

abbrev pub StaysSound : Type 0
StaysSound = (T T' : Table) (now : Moment) (m a : List ℕ) (room : ℕ) → box_handle T now m room ≡ done (T', a) → sound T' ≡ true

-- "the last time never falls": what was accepted comes no earlier than what was accepted before
abbrev pub ClockKept : Type 0
ClockKept = (T T' : Table) (now : Moment) (m a : List ℕ) (room : ℕ) → box_handle T now m room ≡ done (T', a) → (T.last ≤ now) × (T'.last ≡ now)

-- ---------------------------------------------------------------- demand 2: NoPrefixAvail exactly when

-- some /60 in the pool is free among these records
pub record Free60 (T : Table) (rs : List Record) : Type 0 where
  pub place : Prefix
  pub length-60 : place.length ≡ 60
  pub aligned : zero_after place ≡ true
  pub in-pool : inside place T.settings.pool ≡ true
  pub is_free : free rs place ≡ true

-- a Solicit or a Request
abbrev pub Asks : Kind → Type 0
Asks k = (k ≡ Solicit) ⊎ (k ≡ Request)

-- "A new asker hears NoPrefixAvail exactly when no /60 in the pool is free or the table is full": an asker is new where no
-- record of its identity is left once the ended ones are dropped
abbrev pub ExactlyWhen : Type 0
ExactlyWhen =
    (T T' : Table) (now : Moment) (m a : List ℕ) (room : ℕ)
    → box_handle T now m room ≡ done (T', a)
    → Asks (kind_of (read m).kind)
    → binding (asked_by (read m)).who (current now T.records) ≡ None
    → (no_prefix (read a) ≡ true)
    ↔ ((Free60 T (current now T.records) → ⊥) ⊎ (most_records ≤ length (current now T.records)))

-- ---------------------------------------------------------------- demand 3

-- the prefix is bound to the identity, with the same excluded prefix, until at least that moment
pub record Bound (B : Box) (i : Identity) (h : Hold) : Type 0 where
  pub table : Table
  pub started : B ≡ Some table
  pub record_of : Record
  pub stands : Memᴰ record_of table.records
  pub owned : record_of.owner ≡ i
  pub same : record_of.lease ≡ h.lease
  pub lasts : h.end ≤ record_of.end

-- "After any steps, each prefix that a router alive then still counts as held is bound to it in the box's table, with the
-- same excluded prefix, until at least the moment the router stops."
abbrev pub Demand3 : Type 0
Demand3 =
    (n : Moment) (B : Box) (A : Alive) (S : Sent) → Run n B A S
    → (i : Identity) (r : Router) (h : Hold) → A i ≡ Some r → r.held ≡ Some h → n < h.end → Bound B i h

-- "So no two routers hold overlapping prefixes."
abbrev pub Apart : Type 0
Apart =
    (n : Moment) (B : Box) (A : Alive) (S : Sent) → Run n B A S
    → (i j : Identity) (q r : Router) (g h : Hold) → (i ≡ j → ⊥)
    → A i ≡ Some q → q.held ≡ Some g → n < g.end
    → A j ≡ Some r → r.held ≡ Some h → n < h.end
    → overlap g.lease.prefix h.lease.prefix ≡ false
