-- The accident of the introduction, as the rules play it. A daemon freed a prefix on a Release that came late, when its house had asked
-- again and held it, and lent it to the neighbour. Here the house waits until no copy of its Release can come any more. One table,
-- line by line, and one statement that all of it happens. (What the daemon did is Premises' late_release.)
use Rattle.std.specs.Prelude.{◌*◌, ◌^◌, Bool, true, false, not, ◌&&◌, List, [], ◌∷◌, eqb, T, Option, None, Some}
use Rattle.rules.specs.Prefix.{prefix, same_prefix, Lease, lease}
use Rattle.rules.specs.Clock.{Moment}
use Rattle.rules.specs.Identity.{Identity, same_identity}
use Rattle.rules.specs.Table.{Record, Table}
use Rattle.rules.specs.Box.{same_except}
use Rattle.rules.specs.Router.{Router, Hold}
use Rattle.rules.specs.declared.Kind.TheVariants.{Solicit, Request, Release}
use Rattle.promises.specs.Play.{standing, World, empty, Event, tick, opens, born, sends, resends, receives, serves, step, lending, house, neighbour, played, lent_twice}

-- ---------------------------------------------------------------- who and what

aa00 : Lease
aa00 = lease (prefix (0x20010db80000aa00 * 2 ^ 64) 60) None

aa10 : Lease
aa10 = lease (prefix (0x20010db80000aa10 * 2 ^ 64) 60) None

bound : Identity → Lease → Moment → Record
bound i l e = record { owner = i; lease = l; end = e }

until : Lease → Moment → Option Hold
until l e = Some (record { lease = l; end = e })

-- ---------------------------------------------------------------- a line, and whether it is true

data Line : Type 0 where
  -- the step is taken, and then the box's records, what the house holds and what the neighbour holds are these
  then : Event → List Record → Option Hold → Option Hold → Line
  -- the step is refused
  not_yet : Event → Line

same_lease : Lease → Lease → Bool
same_lease l k = same_prefix l.prefix k.prefix && same_except l.except k.except && same_except k.except l.except

same_records : List Record → List Record → Bool
same_records [] [] = true
same_records [] (q ∷ qs) = false
same_records (r ∷ rs) [] = false
same_records (r ∷ rs) (q ∷ qs) = same_identity r.owner q.owner && same_lease r.lease q.lease && eqb r.end q.end && same_records rs qs

same_hold : Option Hold → Option Hold → Bool
same_hold None None = true
same_hold None (Some k) = false
same_hold (Some h) None = false
same_hold (Some h) (Some k) = same_lease h.lease k.lease && eqb h.end k.end

records_of : Option Table → List Record
records_of None = []
records_of (Some t) = t.records

held_by : Option Router → Option Hold
held_by None = None
held_by (Some r) = r.held

shows : World → List Record → Option Hold → Option Hold → Bool
shows w rs h k =
    same_records rs (records_of w.box) && same_hold h (held_by (w.alive house)) && same_hold k (held_by (w.alive neighbour))
    && not (lent_twice house neighbour w)

-- the step is taken, and what is seen and told of the world after it is true
taken : (World → Bool) → Option World → Bool
taken f None = false
taken f (Some w) = f w

refused : Bool → Option World → Bool
refused b None = b
refused b (Some w) = false

told : List Line → World → Bool
told [] w = true
told (then e rs h k ∷ l) w = taken (λ x. shows x rs h k && told l x) (step standing w e)
told (not_yet e ∷ l) w = refused (told l w) (step standing w e)

-- ---------------------------------------------------------------- the story

story : List Line
story =
    then (opens (lending 3600)) [] None None
    ∷ then (born house 0) [] None None
    ∷ then (born neighbour 0) [] None None
    -- the house asks and gets aa00/60 for an hour
    ∷ then (tick 61) [] None None
    ∷ then (sends house Solicit) [] None None  -- message 0
    ∷ then (serves 0) [] None None  -- 1, an offer: nothing is stored
    ∷ then (receives house 1) [] None None
    ∷ then (tick 62) [] None None
    ∷ then (sends house Request) [] None None  -- 2
    ∷ then (serves 2) (bound house aa00 3662 ∷ []) None None  -- 3
    ∷ then (receives house 3) (bound house aa00 3662 ∷ []) (until aa00 3662) None
    -- it gives the prefix back; the Release stays in the network
    ∷ then (tick 1000) (bound house aa00 3662 ∷ []) (until aa00 3662) None
    ∷ then (sends house Release) (bound house aa00 3662 ∷ []) None None  -- 4
    -- no answer: it sends again, and this copy comes through
    ∷ then (tick 1005) (bound house aa00 3662 ∷ []) None None
    ∷ then (resends house) (bound house aa00 3662 ∷ []) None None  -- 5
    ∷ then (serves 5) [] None None  -- 6
    ∷ then (receives house 6) [] None None
    -- now it wants a prefix again, and has to wait: two copies of its Release can still come
    ∷ then (tick 1006) [] None None
    ∷ not_yet (sends house Request)
    -- the first one comes as late as it can, and frees nothing
    ∷ then (tick 1030) [] None None
    ∷ then (serves 4) [] None None  -- 7, NoBinding
    ∷ then (tick 1031) [] None None
    ∷ not_yet (serves 4)
    -- so does another copy of the second
    ∷ then (tick 1035) [] None None
    ∷ then (serves 5) [] None None  -- 8, NoBinding
    -- 60 seconds after the last sending is too soon; one second later the house asks, and gets its prefix back
    ∷ then (tick 1065) [] None None
    ∷ not_yet (sends house Request)
    ∷ then (tick 1066) [] None None
    ∷ then (sends house Request) [] None None  -- 9
    ∷ then (serves 9) (bound house aa00 4666 ∷ []) None None  -- 10
    ∷ then (receives house 10) (bound house aa00 4666 ∷ []) (until aa00 4666) None
    -- no Release can come now
    ∷ not_yet (serves 4)
    ∷ not_yet (serves 5)
    -- the neighbour asks, and gets another prefix
    ∷ then (tick 1070) (bound house aa00 4666 ∷ []) (until aa00 4666) None
    ∷ then (sends neighbour Solicit) (bound house aa00 4666 ∷ []) (until aa00 4666) None  -- 11
    ∷ then (serves 11) (bound house aa00 4666 ∷ []) (until aa00 4666) None  -- 12
    ∷ then (receives neighbour 12) (bound house aa00 4666 ∷ []) (until aa00 4666) None
    ∷ then (tick 1071) (bound house aa00 4666 ∷ []) (until aa00 4666) None
    ∷ then (sends neighbour Request) (bound house aa00 4666 ∷ []) (until aa00 4666) None  -- 13
    ∷ then (serves 13) (bound house aa00 4666 ∷ bound neighbour aa10 4671 ∷ []) (until aa00 4666) None  -- 14
    ∷ then (receives neighbour 14) (bound house aa00 4666 ∷ bound neighbour aa10 4671 ∷ []) (until aa00 4666) (until aa10 4671)
    ∷ []

accident : T (told story empty)
unfolding played aa00 aa10 bound until same_lease same_records same_hold records_of held_by shows taken refused told story
accident = tt
