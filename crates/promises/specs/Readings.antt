-- What messages and states mean to demand 3, and what each step of a router or of the box tells of them.
--   Up, Down          how the box reads a message, and how a router reads a Reply
--   Held, Open, Busy  what a router holds, its open exchange, and whether it holds or may come to hold
--   Began, Resent, Moves, Got, Fresh, Served    what a step that isn't refused tells, read backwards from what it left
use Rattle.std.specs.Prelude.{ℕ, ◌+◌, ◌≤◌, ◌<◌, ◌^◌, ◌≡◌, Bool, true, false, List, ◌⊎◌, None, Some}
use Rattle.rules.specs.Words.{first}
use Rattle.rules.specs.Prefix.{Lease}
use Rattle.rules.specs.Message.{Listed, read}
use Rattle.rules.specs.Clock.{Moment, Lifetime, plus}
use Rattle.rules.specs.Identity.{Identity, identity, served, kind_of, is_release}
use Rattle.rules.specs.Table.{Table, sound}
use Rattle.rules.specs.Box.{client_of, ia_of}
use Rattle.rules.specs.Router.{Hold, Exchange, Router, number_before, number_after, takes}
use Rattle.rules.specs.World.{Box}
use Rattle.rules.specs.Promises.{Bound}

-- ---------------------------------------------------------------- readings

-- the box reads m as asked by i, with the number x; b says whether as a Release
pub record Up (m : List ℕ) (i : Identity) (x : ℕ) (b : Bool) : Type 0 where
  pub kind : served (read m).kind ≡ true
  pub asker : identity (client_of (read m)) (ia_of (read m)).iaid ≡ i
  pub number : (read m).number ≡ x
  pub frees : is_release (kind_of (read m).kind) ≡ b

-- a router reads m as a Reply to i, with the number x, whose first good prefix is c with the valid lifetime v
pub record Down (m : List ℕ) (i : Identity) (x : ℕ) (c : Lease) (v : Lifetime) : Type 0 where
  pub reply : (read m).kind ≡ 7
  pub client : client_of (read m) ≡ i.duid
  pub iaid : (ia_of (read m)).iaid ≡ i.iaid
  pub number : (read m).number ≡ x
  pub listed : Listed
  pub taken : first takes (ia_of (read m)).listed ≡ Some listed
  pub lease : listed.lease ≡ c
  pub valid : listed.valid ≡ v

abbrev pub hold : Lease → Moment → Hold
hold c e = record { lease = c; end = e }

-- bound in the box's table to i, with the excluded prefix of c, until e at least
abbrev pub Binds : Box → Identity → Lease → Moment → Type 0
Binds B i c e = Bound B i (hold c e)

abbrev pub Held : Router → Lease → Moment → Type 0
Held r c e = r.held ≡ Some (hold c e)

-- an open exchange; b says whether a Release
pub record Open (r : Router) (b : Bool) : Type 0 where
  pub exchange : Exchange
  pub is : r.exchange ≡ Some exchange
  pub frees : is_release exchange.kind ≡ b

-- it holds a prefix, or may come to hold one by the open exchange
pub data Busy (r : Router) : Type 0 where
  holding : {c : Lease} {e : Moment} → Held r c e → Busy r
  asking : Open r false → Busy r

-- what every state has that a run reaches, besides being sound
pub record Fit (r : Router) : Type 0 where
  pub small : r.next < 2 ^ 24
  pub dropped : Open r true → r.held ≡ None

-- ---------------------------------------------------------------- the steps of a router

-- a step that begins no exchange
pub record Moves (r : Router) (n : Moment) (r' : Router) : Type 0 where
  pub fit : Fit r'
  pub me-same : r'.me ≡ r.me
  pub started-same : r'.started ≡ r.started
  pub began-same : r'.began ≡ r.began
  pub next-same : r'.next ≡ r.next
  pub freed-up : r.freed ≤ r'.freed
  pub busy : Busy r' → Busy r × (r'.freed ≡ r.freed)
  pub opens : (b : Bool) → Open r' b → Open r b

-- a new exchange, with the message m
pub record Began (r : Router) (n : Moment) (r' : Router) (m : List ℕ) : Type 0 where
  pub fit : Fit r'
  pub me-same : r'.me ≡ r.me
  pub started-same : r'.started ≡ r.started
  pub began-now : r'.began ≡ n
  pub small : r.next < 2 ^ 24
  pub next_up : r'.next ≡ number_after r.next
  pub freed-up : r.freed ≤ r'.freed
  pub after-start : r.started + 60 < n
  pub after-freed : r.freed + 60 < n
  pub after-second : r.began < n
  pub busy : Busy r' → r'.freed ≡ r.freed
  pub holds : (c : Lease) (e : Moment) → Held r' c e → Held r c e
  pub reads : (i : Identity) (x : ℕ) (b : Bool) → Up m i x b → (i ≡ r.me) × (x ≡ r.next)
  pub frees : (i : Identity) (x : ℕ) → Up m i x true → n ≤ r'.freed
  pub silent : (i : Identity) (x : ℕ) (c : Lease) (v : Lifetime) → Down m i x c v → ⊥

-- the open exchange sent again
pub record Resent (r : Router) (n : Moment) (r' : Router) (m : List ℕ) : Type 0 where
  pub moves : Moves r n r'
  pub holds : (c : Lease) (e : Moment) → Held r' c e → Held r c e
  pub reads : (i : Identity) (x : ℕ) (b : Bool) → Up m i x b → (i ≡ r.me) × (x ≡ number_before r.next)
  pub frees : (i : Identity) (x : ℕ) → Up m i x true → n ≤ r'.freed
  pub silent : (i : Identity) (x : ℕ) (c : Lease) (v : Lifetime) → Down m i x c v → ⊥

-- a message accepted: what is then held was held, or stands in the message
pub record Got (r : Router) (n : Moment) (m : List ℕ) (r' : Router) : Type 0 where
  pub moves : Moves r n r'
  pub holds : (c : Lease) (e : Moment) → Held r' c e
      → Held r c e ⊎ ((v : Lifetime) × Open r false × Down m r.me (number_before r.next) c v × (e ≡ plus r.began v))

-- a router that just started
pub record Fresh (i : Identity) (n : Moment) (r : Router) : Type 0 where
  pub fit : Fit r
  pub me : r.me ≡ i
  pub started-now : r.started ≡ n
  pub began-by : r.began ≤ n
  pub idle : Busy r → ⊥

-- ---------------------------------------------------------------- the steps of the box

-- a message served: what was bound stays so but for its own Release; a Reply gives only what is bound; it answers its asker
pub record Served (T : Table) (n : Moment) (m : List ℕ) (T' : Table) (a : List ℕ) : Type 0 where
  pub sound-after : sound T' ≡ true
  pub settings-same : T'.settings ≡ T.settings
  pub keeps : (i : Identity) (c : Lease) (e : Moment) → Binds (Some T) i c e → n < e → ((x : ℕ) → Up m i x true → ⊥) → Binds (Some T') i c e
  pub gives : (i : Identity) (x : ℕ) (c : Lease) (v : Lifetime) (t : Moment) → Down a i x c v → t ≤ n → Binds (Some T') i c (plus t v)
  pub echoes : (i : Identity) (x : ℕ) (c : Lease) (v : Lifetime) → Down a i x c v → (b : Bool) × Up m i x b
  pub lasting : (i : Identity) (x : ℕ) (c : Lease) (v : Lifetime) → Down a i x c v → v ≡ T.settings.valid
  pub mute : (i : Identity) (x : ℕ) (b : Bool) → Up a i x b → ⊥
