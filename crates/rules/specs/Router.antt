-- What the router does: start, the five sendings, resend, abandon, receive.
--   Router, Hold, Exchange   a router's state; the prefix it holds, with its end; the open exchange
--   sound_router              when a state is sound
--   query                    the message of the open exchange
--   begun, again             a new exchange; the open one sent again
--   awaited, accept          the message awaited; what its acceptance leaves
--   router_start, router_send, router_resend, router_abandon, router_receive   the operations
use Rattle.std.specs.Prelude.{ℕ, ◌+◌, ◌-◌, ◌%◌, ◌^◌, Bool, true, false, cond, not, ◌&&◌, ◌||◌, List, [], ◌∷◌, ◌++◌, eqb, leb, ltb, length, get_or, Option, None, Some}
use Rattle.rules.specs.Words.{all, any, first, same_bytes}
use Rattle.rules.specs.Refusals.{Res, done, unless, lent_tests, room_tests, wrong_size}
use Rattle.rules.specs.Prefix.{prefix, zero_after, Lease, lease, lease_encodable}
use Rattle.rules.specs.Message.{Listed, Ia, Message, read, well_formed, print}
use Rattle.rules.specs.Clock.{Moment, plus, good_end}
use Rattle.rules.specs.Identity.{Duid, Identity, good_duid, good_identity, type_of, answer_type, is_release, row_of, stands}
use Rattle.rules.specs.Box.{start_tests, ia_of}
use Rattle.rules.specs.declared.Kind.{Kind}
use Rattle.rules.specs.declared.Kind.TheVariants.{Solicit, Request, Renew, Rebind, Release}

-- ---------------------------------------------------------------- the state

-- "It holds at most one prefix and one open exchange."
pub record Hold : Type 0 where
  pub lease : Lease
  pub end : Moment

-- An exchange is named by its kind and the prefix that it sends, where it sends one. Its number is the one before the next,
-- its first sending the moment when it began, its server the known one.
pub record Exchange : Type 0 where
  pub kind : Kind
  pub sent : Option Lease

pub record Router : Type 0 where
  pub me : Identity
  pub wanted : ℕ
  pub started : Moment
  pub began : Moment  -- the latest exchange; a fresh router's start
  pub freed : Moment  -- the last sending of a Release; a fresh router's start
  pub last : Moment
  pub next : ℕ  -- the next transaction number
  pub server : Option Duid
  pub held : Option Hold
  pub exchange : Option Exchange

-- ---------------------------------------------------------------- sound

-- "a held or sent prefix has zero bits after its length and, with its excluded prefix or none, an encoding"
unfoldable pub good_lease : Lease → Bool
good_lease l = lease_encodable l.prefix l.except && zero_after l.prefix

abbrev pub known : Option Duid → Bool
known None = false
known (Some d) = true

-- "a server's DUID has 3 to 130 bytes"
abbrev pub good_server : Option Duid → Bool
good_server None = true
good_server (Some d) = good_duid d

-- "its end is below 2^49 or never", "anything held has a server"
abbrev pub good_hold : Option Duid → Option Hold → Bool
good_hold s None = true
good_hold s (Some h) = known s && good_lease h.lease && good_end h.end

-- a Solicit or Request sends no prefix of its own, the others the held one
abbrev pub good_sent : Kind → Option Lease → Bool
good_sent Solicit None = true
good_sent Solicit (Some l) = false
good_sent Request None = true
good_sent Request (Some l) = false
good_sent Renew None = false
good_sent Renew (Some l) = good_lease l
good_sent Rebind None = false
good_sent Rebind (Some l) = good_lease l
good_sent Release None = false
good_sent Release (Some l) = good_lease l

-- the row wants a Server ID
abbrev pub wants_server : Kind → Bool
wants_server k = (row_of (type_of k)).1

-- "an open exchange has the server and prefix it sends"
abbrev pub good_exchange : Option Duid → Option Exchange → Bool
good_exchange s None = true
good_exchange s (Some x) = (not (wants_server x.kind) || known s) && good_sent x.kind x.sent

-- 10 "a router: wanted length over 64 or DUID length wrong"
abbrev pub good_asker : Identity → ℕ → Bool
good_asker i n = good_identity i && leb n 64

-- "A router's state is sound when its wanted length and DUID are good, its times are below 2^48 and none after the last, ..
-- its transaction number is below 2^24, .."
unfoldable pub sound_router : Router → Bool
sound_router r =
    good_asker r.me r.wanted
    && leb r.started r.last && leb r.began r.last && leb r.freed r.last && ltb r.last (2 ^ 48)
    && ltb r.next (2 ^ 24)
    && good_server r.server
    && good_hold r.server r.held
    && good_exchange r.server r.exchange

-- ---------------------------------------------------------------- the message that it sends

-- "Each exchange takes the next transaction number, modulo 2^24, from 0."
abbrev pub number_after : ℕ → ℕ
number_after x = (x + 1) % 2 ^ 24

abbrev pub number_before : ℕ → ℕ
number_before x = (x + (2 ^ 24 - 1)) % 2 ^ 24

-- "one IA Prefix with zero lifetimes"
abbrev pub listing : Lease → List Listed
listing l = record { preferred = 0; valid = 0; lease = l; statuses = [] } ∷ []

-- "the held one with its PD Exclude, or, in a Solicit or Request, a zero prefix with the wanted length (left out when 0)"
abbrev pub lists : ℕ → Option Lease → List Listed
lists n None = cond (eqb n 0) [] (listing (lease (prefix 0 n) None))
lists n (Some l) = listing l

abbrev pub servers_of : Option Duid → List Duid
servers_of None = []
servers_of (Some d) = d ∷ []

-- "It sends Client ID; Server ID where the row wants it; Option Request with 67, except in a Release; an IA_PD with zero T1 and T2"
unfoldable pub query : Router → Exchange → Message
query r x = record {
  kind = type_of x.kind;
  number = number_before r.next;
  clients = r.me.duid ∷ [];
  servers = cond (wants_server x.kind) (servers_of r.server) [];
  asks = not (is_release x.kind);
  statuses = [];
  ias = record { iaid = r.me.iaid; t1 = 0; t2 = 0; listed = lists r.wanted x.sent; statuses = [] } ∷ [];
}

-- ---------------------------------------------------------------- sending

-- a held prefix counts while its end is after now
abbrev pub holds : Moment → Option Hold → Option Lease
holds now None = None
holds now (Some h) = cond (ltb now h.end) (Some h.lease) None

abbrev pub is_held : Option Lease → Bool
is_held None = false
is_held (Some l) = true

-- 13: "Request needs a known server. Renew, Rebind and Release need a held prefix whose end hasn't come."
abbrev pub allows : Kind → Router → Moment → Bool
allows Solicit r now = true
allows Request r now = known r.server
allows Renew r now = is_held (holds now r.held)
allows Rebind r now = is_held (holds now r.held)
allows Release r now = is_held (holds now r.held)

-- the prefix that an exchange of that kind sends
abbrev pub carries : Kind → Option Lease → Option Lease
carries Solicit l = None
carries Request l = None
carries Renew l = l
carries Rebind l = l
carries Release l = l

-- 12: "while 60 seconds or fewer have passed since the start, since the last sending of a Release, or in the same second as the previous exchange began"
abbrev pub too_soon : Router → Moment → Bool
too_soon r now = leb now (r.started + 60) || leb now (r.freed + 60) || leb now r.began

abbrev pub is_open : Option Exchange → Bool
is_open None = false
is_open (Some x) = true

abbrev pub exchange_for : Kind → Router → Moment → Exchange
exchange_for k r now = record { kind = k; sent = carries k (holds now r.held) }

-- a new exchange; "A Release drops the prefix when first sent."
unfoldable pub begun : Kind → Router → Moment → Router
begun k r now = record {
  me = r.me;
  wanted = r.wanted;
  started = r.started;
  began = now;
  freed = cond (is_release k) now r.freed;
  last = now;
  next = number_after r.next;
  server = r.server;
  held = cond (is_release k) None r.held;
  exchange = Some (exchange_for k r now);
}

-- a step that begins no exchange; "A step that isn't refused sets its last time."
abbrev pub step : Router → Moment → Moment → Option Duid → Option Hold → Option Exchange → Router
step r now freed server held exchange = record {
  me = r.me;
  wanted = r.wanted;
  started = r.started;
  began = r.began;
  freed = freed;
  last = now;
  next = r.next;
  server = server;
  held = held;
  exchange = exchange;
}

-- "Resending repeats the same bytes"; of a Release it is its last sending
unfoldable pub again : Router → Moment → Exchange → Router
again r now x = step r now (cond (is_release x.kind) now r.freed) r.server r.held (Some x)

-- "abandoning closes the exchange"
unfoldable pub closed : Router → Moment → Option Duid → Option Hold → Router
closed r now server held = step r now r.freed server held None

-- ---------------------------------------------------------------- receiving

-- "its own IAID and not T1 > T2 > 0"
abbrev pub good_ia : ℕ → Ia → Bool
good_ia i a = eqb a.iaid i && not (ltb a.t2 a.t1 && ltb 0 a.t2)

-- "for all but Release, exactly one IA_PD"
abbrev pub good_ias : Kind → ℕ → List Ia → Bool
good_ias k i l = is_release k || (eqb (length l) 1 && all (good_ia i) l)

-- NoPrefixAvail (6) at any level
abbrev pub says6 : List ℕ → Bool
says6 l = any (eqb 6) l

abbrev pub no_prefix : Message → Bool
no_prefix v = says6 v.statuses || any (λ a. says6 a.statuses || any (λ x. says6 x.statuses) a.listed) v.ias

-- "in an Advertise, no Status Code NoPrefixAvail at any level"
abbrev pub may_offer : Kind → Message → Bool
may_offer Solicit v = not (no_prefix v)
may_offer Request v = true
may_offer Renew v = true
may_offer Rebind v = true
may_offer Release v = true

-- "exactly one Server ID, of 3 to 130 bytes, equal to the known one for Request, Renew and Release"
abbrev pub from_server : Kind → Option Duid → List Duid → Bool
from_server k s l = stands true l && all good_duid l && (not (wants_server k) || all (λ d. any (same_bytes d) (servers_of s)) l)

-- "The message awaited has the right type and transaction number; exactly one Client ID, its own; exactly one Server ID, ..;
-- 4 to 1,232 bytes; and is well formed."
unfoldable pub awaited : Router → List ℕ → Message → Option Exchange → Bool
awaited r m v None = false
awaited r m v (Some x) =
    not (wrong_size m) && well_formed m
    && eqb v.kind (answer_type x.kind) && eqb v.number (number_before r.next)
    && stands true v.clients && all (same_bytes r.me.duid) v.clients
    && from_server x.kind r.server v.servers
    && good_ias x.kind r.me.iaid v.ias
    && may_offer x.kind v

-- "the first prefix with valid above 0, preferred at most valid and zero bits after its length"
abbrev pub takes : Listed → Bool
takes x = ltb 0 x.valid && leb x.preferred x.valid && zero_after x.lease.prefix

-- "Its end is the moment of first sending plus valid, or never; if that isn't after now, or there is no such prefix, it holds nothing."
abbrev pub held_until : Moment → Lease → Moment → Option Hold
held_until now l e = cond (ltb now e) (Some (record { lease = l; end = e })) None

abbrev pub taken : Moment → Moment → Option Listed → Option Hold
taken now sent None = None
taken now sent (Some x) = held_until now x.lease (plus sent x.valid)

-- what is held after an acceptance: from an Advertise or a Release's Reply nothing is taken
abbrev pub held_after : Kind → Router → Moment → Option Listed → Option Hold
held_after Solicit r now x = r.held
held_after Request r now x = taken now r.began x
held_after Renew r now x = taken now r.began x
held_after Rebind r now x = taken now r.began x
held_after Release r now x = r.held

-- "from an Advertise or a Rebind's Reply the server is remembered"
abbrev pub server_after : Kind → Router → Option Duid → Option Duid
server_after Solicit r s = s
server_after Request r s = r.server
server_after Renew r s = r.server
server_after Rebind r s = s
server_after Release r s = r.server

-- "Any acceptance closes the exchange"
unfoldable pub accept : Router → Moment → Message → Kind → Router
accept r now v k = closed r now (server_after k r (Some (get_or v.servers 0 []))) (held_after k r now (first takes (ia_of v).listed))

-- ---------------------------------------------------------------- the operations

-- "A fresh or restarted router holds nothing and knows no server."
unfoldable pub router_start : Identity → ℕ → Moment → Res Router
router_start i n now = unless (start_tests (good_asker i n) now) (done record {
  me = i;
  wanted = n;
  started = now;
  began = now;
  freed = now;
  last = now;
  next = 0;
  server = None;
  held = None;
  exchange = None;
})

-- by the open exchange, and by what happened too short a time ago
abbrev pub times_tests : Router → Moment → List (ℕ × Bool)
times_tests r now = (11, is_open r.exchange) ∷ (12, too_soon r now) ∷ []

-- by what an exchange of that kind needs
abbrev pub kind_tests : Kind → Router → Moment → List (ℕ × Bool)
kind_tests k r now = (13, not (allows k r now)) ∷ []

-- "With nothing open both give 13."
abbrev pub open_tests : Router → List (ℕ × Bool)
open_tests r = (13, not (is_open r.exchange)) ∷ []

abbrev pub awaited_tests : Router → List ℕ → Message → List (ℕ × Bool)
awaited_tests r m v = (14, not (awaited r m v r.exchange)) ∷ []

abbrev pub send_tests : Kind → Router → Moment → ℕ → List (ℕ × Bool)
send_tests k r now room = lent_tests (sound_router r) r.last now ++ (room_tests room ++ (times_tests r now ++ kind_tests k r now))

-- the state after, and the message of its open exchange
abbrev pub with_query : Router → Exchange → Router × List ℕ
with_query r x = (r, print (query r x))

unfoldable pub router_send : Kind → Router → Moment → ℕ → Res (Router × List ℕ)
router_send k r now room = unless (send_tests k r now room) (done (with_query (begun k r now) (exchange_for k r now)))

abbrev pub resend_tests : Router → Moment → ℕ → List (ℕ × Bool)
resend_tests r now room = lent_tests (sound_router r) r.last now ++ (room_tests room ++ open_tests r)

-- the open exchange, and where there is none one that is never used
abbrev pub open_of : Option Exchange → Exchange
open_of None = record { kind = Solicit; sent = None }
open_of (Some x) = x

unfoldable pub router_resend : Router → Moment → ℕ → Res (Router × List ℕ)
router_resend r now room = unless (resend_tests r now room) (done (with_query (again r now (open_of r.exchange)) (open_of r.exchange)))

abbrev pub abandon_tests : Router → Moment → List (ℕ × Bool)
abandon_tests r now = lent_tests (sound_router r) r.last now ++ open_tests r

unfoldable pub router_abandon : Router → Moment → Res Router
router_abandon r now = unless (abandon_tests r now) (done (closed r now r.server r.held))

abbrev pub receive_tests : Router → Moment → List ℕ → Message → List (ℕ × Bool)
receive_tests r now m v = lent_tests (sound_router r) r.last now ++ awaited_tests r m v

abbrev pub router_read : Router → Moment → List ℕ → Message → Res Router
router_read r now m v = unless (receive_tests r now m v) (done (accept r now v (open_of r.exchange).kind))

unfoldable pub router_receive : Router → Moment → List ℕ → Res Router
router_receive r now m = router_read r now m (read m)
