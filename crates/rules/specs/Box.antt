-- What the box does: start, and handle a message as judge, then act.
--   binding, lease_for, others, gone, is_freed   what an identity has, could get, is told of other prefixes; whether a Release frees
--   Verdict, serve       what is said of one IA_PD; one IA_PD served, from records to records
--   answer_to, act        the answer as a value; what a message does that isn't refused
--   form_tests, id_tests, pd_tests, silence_tests   the refusals by what is judged
--   message_tests, box_tests                      all of them, in their order
--   box_start, box_handle, box_live   the operations
use Rattle.std.specs.Prelude.{ℕ, ◌*◌, ◌/◌, Bool, true, false, cond, not, ◌&&◌, List, [], ◌∷◌, ◌++◌, map, eqb, leb, ltb, length, get_or, Option, None, Some}
use Rattle.rules.specs.Words.{all, any, keep, first}
use Rattle.rules.specs.Refusals.{Res, done, unless, bad_time, lent_tests, room_tests, wrong_size}
use Rattle.rules.specs.Prefix.{Prefix, same_prefix, inside, Lease, lease, except_for}
use Rattle.rules.specs.Message.{Listed, Ia, Message, read, well_formed, print}
use Rattle.rules.specs.Clock.{Moment, Lifetime, for_ever, plus, extended}
use Rattle.rules.specs.Identity.{Duid, Identity, identity, served, kind_of, answer_type, is_release, row_holds}
use Rattle.rules.specs.Settings.{Settings, good_settings}
use Rattle.rules.specs.Table.{Record, Table, is_binding, live, give_up, current, sound}
use Rattle.rules.specs.Choose.{choose}
use Rattle.rules.specs.declared.Kind.{Kind}
use Rattle.rules.specs.declared.Kind.TheVariants.{Solicit, Request, Renew, Rebind, Release}

-- ---------------------------------------------------------------- a binding

abbrev pub binding : Identity → List Record → Option Record
binding i rs = first (is_binding i) rs

-- "The new binding excludes its last /64 exactly if exclusion is on and code 67 is in an Option Request."
abbrev pub lease_for : Settings → Bool → Prefix → Lease
lease_for s asks p = lease p (except_for (s.exclusion && asks) p)

-- "Records stand in order of binding, a new one last"
abbrev pub bind : Identity → Lease → Moment → List Record → List Record
bind i l e rs = rs ++ (record { owner = i; lease = l; end = e } ∷ [])

abbrev pub longer : Moment → Lifetime → Record → Record
longer now valid r = record { owner = r.owner; lease = r.lease; end = extended r.end now valid }

unfoldable pub extend : Identity → Moment → Lifetime → List Record → List Record
extend i now valid rs = map (λ r. cond (is_binding i r) (longer now valid r) r) rs

-- ---------------------------------------------------------------- listed prefixes

-- "with lifetimes 0, length and bits as sent and no options"
abbrev pub returned : Listed → Listed
returned x = record { preferred = 0; valid = 0; lease = lease x.lease.prefix None; statuses = [] }

-- "each listed one that differs from it in length or in any of 128 bits, in order"
unfoldable pub others : Prefix → List Listed → List Listed
others p xs = map returned (keep (λ x. not (same_prefix x.lease.prefix p)) xs)

-- "at least one prefix is listed and every listed one fails to lie wholly inside the pool"
unfoldable pub gone : Settings → List Listed → Bool
gone s xs = ltb 0 (length xs) && all (λ x. not (inside x.lease.prefix s.pool)) xs

-- a PD Exclude that is listed equals the excluded prefix
abbrev pub same_except : Option Prefix → Option Prefix → Bool
same_except None e = true
same_except (Some f) None = false
same_except (Some f) (Some e) = same_prefix f e

-- "some listed prefix equals its prefix and length, and every PD Exclude listed equals its excluded prefix"
unfoldable pub is_freed : Record → List Listed → Bool
is_freed r xs = any (λ x. same_prefix x.lease.prefix r.lease.prefix) xs && all (λ x. same_except x.lease.except r.lease.except) xs

-- "Look at the first IA Prefix."
abbrev pub hint_of : List Listed → Option Prefix
hint_of [] = None
hint_of (x ∷ xs) = Some x.lease.prefix

-- ---------------------------------------------------------------- one IA_PD served

-- what is said: the bound or offered prefix with the others; prefixes returned; a status; nothing, as the Release succeeded;
-- nothing at all
pub data Verdict : Type 0 where
  offer : Lease → List Listed → Verdict
  return : List Listed → Verdict
  say : ℕ → Verdict
  success : Verdict
  silence : Verdict

abbrev pub no_binding : Verdict
no_binding = say 3

abbrev pub no_prefix_avail : Verdict
no_prefix_avail = say 6

pub record Served : Type 0 where
  pub records : List Record
  pub verdict : Verdict

abbrev pub leaves : List Record → Verdict → Served
leaves rs v = record { records = rs; verdict = v }

-- an IA_PD as it is asked: by whom, with 67 or not, and the prefixes listed
pub record Asked : Type 0 where
  pub who : Identity
  pub asks : Bool
  pub listed : List Listed

module _ (s : Settings) (now : Moment) (q : Asked) (rs : List Record) where
  -- "An identity with a live binding is offered that. Otherwise choose. .. A Request stores it; a Solicit doesn't. A Request for a live binding extends it."
  abbrev pub serve_solicit : Option Record → Option Prefix → Served
  serve_solicit (Some r) c = leaves rs (offer r.lease [])
  serve_solicit None (Some p) = leaves rs (offer (lease_for s q.asks p) [])
  serve_solicit None None = leaves rs no_prefix_avail

  abbrev pub serve_request : Option Record → Option Prefix → Served
  serve_request (Some r) c = leaves (extend q.who now s.valid rs) (offer r.lease [])
  serve_request None (Some p) = leaves (bind q.who (lease_for s q.asks p) (plus now s.valid) rs) (offer (lease_for s q.asks p) [])
  serve_request None None = leaves rs no_prefix_avail

  -- "With a binding: extend; the binding's prefix comes first, then each listed one that differs from it .. Renew without: IA_PD with NoBinding (3)."
  abbrev pub serve_renew : Option Record → Served
  serve_renew (Some r) = leaves (extend q.who now s.valid rs) (offer r.lease (others r.lease.prefix q.listed))
  serve_renew None = leaves rs no_binding

  -- "Rebind without: if .. every listed one fails to lie wholly inside the pool, all are returned with lifetimes 0; otherwise refusal 8."
  abbrev pub serve_rebind : Option Record → Served
  serve_rebind (Some r) = serve_renew (Some r)
  serve_rebind None = leaves rs (cond (gone s q.listed) (return (map returned q.listed)) silence)

  -- "Freed exactly if there is a live binding, .. Otherwise NoBinding."
  abbrev pub serve_release : Option Record → Served
  serve_release (Some r) = cond (is_freed r q.listed) (leaves (give_up (is_binding q.who) rs) success) (leaves rs no_binding)
  serve_release None = leaves rs no_binding

  unfoldable pub serve : Kind → Served
  serve Solicit = serve_solicit (binding q.who rs) (choose s rs (hint_of q.listed))
  serve Request = serve_request (binding q.who rs) (choose s rs (hint_of q.listed))
  serve Renew = serve_renew (binding q.who rs)
  serve Rebind = serve_rebind (binding q.who rs)
  serve Release = serve_release (binding q.who rs)

-- ---------------------------------------------------------------- the answer

-- "T1 is half the preferred lifetime, T2 four fifths, rounded down; both 0xFFFFFFFF where it is for ever"
unfoldable pub t1_for : Lifetime → ℕ
t1_for preferred = cond (eqb preferred for_ever) for_ever (preferred / 2)

unfoldable pub t2_for : Lifetime → ℕ
t2_for preferred = cond (eqb preferred for_ever) for_ever (preferred * 4 / 5)

-- "The bound or offered prefix carries the preferred and valid lifetimes of the settings, and PD Exclude whenever it has one"
abbrev pub offered : Settings → Lease → Listed
offered s l = record { preferred = s.preferred; valid = s.valid; lease = l; statuses = [] }

-- "The IA_PD repeats the IAID"; T1 and T2 are "both 0 where no prefix with a lifetime stands"
abbrev pub ia_for : Settings → ℕ → Verdict → List Ia
ia_for s i (offer l xs) = record { iaid = i; t1 = t1_for s.preferred; t2 = t2_for s.preferred; listed = offered s l ∷ xs; statuses = [] } ∷ []
ia_for s i (return xs) = record { iaid = i; t1 = 0; t2 = 0; listed = xs; statuses = [] } ∷ []
ia_for s i (say k) = record { iaid = i; t1 = 0; t2 = 0; listed = []; statuses = k ∷ [] } ∷ []
ia_for s i success = []
ia_for s i silence = []

-- "Type, the transaction number as received, Client ID, Server ID, then: for a Release, a Status Code Success (0),
-- followed on failure by the IA_PD with NoBinding; else the IA_PD."
unfoldable pub answer_to : Settings → Message → List Ia → Message
answer_to s v is = record {
  kind = answer_type (kind_of v.kind);
  number = v.number;
  clients = v.clients;
  servers = s.own ∷ [];
  asks = false;
  statuses = cond (is_release (kind_of v.kind)) (0 ∷ []) [];
  ias = is;
}

-- ---------------------------------------------------------------- the message served

-- the IA_PD that a message asks about, and who asks
abbrev pub client_of : Message → Duid
client_of v = get_or v.clients 0 []

abbrev pub ia_of : Message → Ia
ia_of v = get_or v.ias 0 (record { iaid = 0; t1 = 0; t2 = 0; listed = []; statuses = [] })

abbrev pub asked_in : Message → Ia → Asked
asked_in v i = record { who = identity (client_of v) i.iaid; asks = v.asks; listed = i.listed }

abbrev pub asked_by : Message → Asked
asked_by v = asked_in v (ia_of v)

-- what is done about it, once every ended record is dropped
unfoldable pub serving : Table → Moment → Message → Served
serving t now v = serve t.settings now (asked_by v) (current now t.records) (kind_of v.kind)

abbrev pub saying : Table → Moment → Message → List Ia
saying t now v = ia_for t.settings (ia_of v).iaid (serving t now v).verdict

-- "A message that isn't refused sets the last time and drops every record whose end is at or before now."
unfoldable pub table_after : Table → Moment → Message → Table
table_after t now v = record { settings = t.settings; last = now; records = (serving t now v).records }

unfoldable pub answer_after : Table → Moment → Message → Message
answer_after t now v = answer_to t.settings v (saying t now v)

-- ---------------------------------------------------------------- the judgement

-- 7 "not exactly one IA_PD, or more than four IA Prefix options in it"
abbrev pub wrong_pds : Message → Bool
wrong_pds v = not (eqb (length v.ias) 1 && leb (length (ia_of v).listed) 4)

-- 8 "a Rebind must be passed over in silence"
abbrev pub is_silence : Verdict → Bool
is_silence (offer l xs) = false
is_silence (return xs) = false
is_silence (say k) = false
is_silence success = false
is_silence silence = true

-- by its length, type and form
abbrev pub form_tests : List ℕ → Message → List (ℕ × Bool)
form_tests m v = (3, wrong_size m) ∷ (4, not (served v.kind)) ∷ (5, not (well_formed m)) ∷ []

-- by its IDs
abbrev pub id_tests : Duid → Message → List (ℕ × Bool)
id_tests own v = (6, not (row_holds own v)) ∷ []

-- by its IA_PDs
abbrev pub pd_tests : Message → List (ℕ × Bool)
pd_tests v = (7, wrong_pds v) ∷ []

-- by what would be said
abbrev pub silence_tests : Verdict → List (ℕ × Bool)
silence_tests v = (8, is_silence v) ∷ []

-- a message, once the table, the time and the room are good
abbrev pub message_tests : Table → Moment → List ℕ → Message → List (ℕ × Bool)
message_tests t now m v = form_tests m v ++ (id_tests t.settings.own v ++ (pd_tests v ++ silence_tests (serving t now v).verdict))

abbrev pub box_tests : Table → Moment → List ℕ → Message → ℕ → List (ℕ × Bool)
box_tests t now m v room = lent_tests (sound t) t.last now ++ (room_tests room ++ message_tests t now m v)

-- ---------------------------------------------------------------- the operations

-- "A start gives only 10, or 1 for a time of 2^48 or more, 10 first"; its time counts as the last accepted one
abbrev pub start_tests : Bool → Moment → List (ℕ × Bool)
start_tests good now = (10, not good) ∷ (1, bad_time 0 now) ∷ []

unfoldable pub box_start : Settings → Moment → Res Table
box_start s now = unless (start_tests (good_settings s) now) (done (record { settings = s; last = now; records = [] }))

-- judge, then act: the table after, and the answer's bytes
abbrev pub box_answer : Table → Moment → Message → Table × List ℕ
box_answer t now v = (table_after t now v, print (answer_after t now v))

abbrev pub box_read : Table → Moment → List ℕ → Message → ℕ → Res (Table × List ℕ)
box_read t now m v room = unless (box_tests t now m v room) (done (box_answer t now v))

unfoldable pub box_handle : Table → Moment → List ℕ → ℕ → Res (Table × List ℕ)
box_handle t now m room = box_read t now m (read m) room

-- how many records are live
abbrev pub live_tests : Table → Moment → List (ℕ × Bool)
live_tests t now = lent_tests (sound t) t.last now

unfoldable pub box_live : Table → Moment → Res ℕ
box_live t now = unless (live_tests t now) (done (length (keep (live now) t.records)))
