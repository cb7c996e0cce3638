-- What the sendings of a router tell of one another.
--   Sent, sent-first, sent-again   what a sending and a resending leave
--   resent-same, resent-first      the bytes of a resending are those of the sending or resending before it
--   Steps, one-a-second            the steps of one second; at most one exchange begins in it
--   numbers_up                     the numbers of the exchanges go up by one, modulo 2^24
use Rattle.std.specs.Prelude.{◌≡◌, refl, Bool, true, false, not, ◌||◌, List, [], ◌∷◌, ℕ, ◌+◌, ◌%◌, ◌≤◌, ◌<◌, ◌^◌, leb}
use Rattle.std.proofs.Common.{ap, ◌∙◌, arith, le-leb, le-ltb}
use Rattle.std.proofs.lemmas.Bool.{lt-leb, not-false}
use Rattle.rules.specs.Refusals.{Res, refuse, done, unless, bad_time, little_room}
use Rattle.rules.specs.Message.{print, read}
use Rattle.rules.specs.Clock.{Moment}
use Rattle.rules.specs.Router.{Router, sound_router, query, exchange_for, begun, again, is_open, open_of, allows, too_soon, with_query, send_tests, router_send, resend_tests, router_resend, abandon_tests, router_abandon, closed, accept, receive_tests, router_receive}
use Rattle.rules.specs.declared.Kind.{Kind}
use Rattle.laws.specs.Refusals.{unless-done, in-time, one, two}
use Rattle.laws.specs.RouterFields.{sound-facts}
use Rattle.laws.specs.RouterKeeps.{begun-sound, again-sound, open-some, number-before}

-- ---------------------------------------------------------------- the same bytes

-- the open exchange of a sound state is sent by the same bytes at any later time, in any room that is large enough
resent-so : (r : Router) (later room : ℕ) → sound_router r ≡ true → r.last ≤ later → later < 2 ^ 48 → 512 ≤ room → is_open r.exchange ≡ true
    → router_resend r later room ≡ done (again r later (open_of r.exchange), print (query r (open_of r.exchange)))
unfolding router_resend again query
resent-so r later room s l h m o = rw (s, le-ltb later r.last l, lt-leb (2 ^ 48) later h, le-ltb room 512 m, o)

-- s is the state after a sending at `now`, and m the message
pub record Sent (now : Moment) (s : Router) (m : List ℕ) : Type 0 where
  pub sound : sound_router s ≡ true
  pub at : s.last ≡ now
  pub opens : is_open s.exchange ≡ true
  pub text : print (query s (open_of s.exchange)) ≡ m

pub sent-first : (k : Kind) (r s : Router) (now room : ℕ) (m : List ℕ) → router_send k r now room ≡ done (s, m) → Sent now s m
unfolding router_send begun
sent-first k r s now room m e =
    let a = unless-done (send_tests k r now room) e in
    let p = a.0 in
    let t = in-time r.last now p.1.0 in
    two (Sent now) a.1 (record {
      sound = begun-sound r now (not-false _ p.0) t.0 t.1 k (not-false _ p.1.1.1.1.1.0);
      at = refl;
      opens = refl;
      text = refl;
    })

pub sent-again : (r s : Router) (now room : ℕ) (m : List ℕ) → router_resend r now room ≡ done (s, m) → Sent now s m
unfolding router_resend again
sent-again r s now room m e =
    let a = unless-done (resend_tests r now room) e in
    let p = a.0 in
    let t = in-time r.last now p.1.0 in
    two (Sent now) a.1 (record {
      sound = again-sound r now (not-false _ p.0) t.0 t.1 (open_of r.exchange) (open-some r.exchange (not-false _ p.1.1.1.0));
      at = refl;
      opens = refl;
      text = refl;
    })

pub resent-same : (s : Router) (now later room : ℕ) (m : List ℕ) → Sent now s m → now ≤ later → later < 2 ^ 48 → 512 ≤ room
    → router_resend s later room ≡ done (again s later (open_of s.exchange), m)
resent-same s now later room m f l h big =
    resent-so s later room f.sound (rw f.at l) h big f.opens ∙ ap (λ t. done (again s later (open_of s.exchange), t)) f.text

pub resent-first : (k : Kind) (r s : Router) (now later room room' : ℕ) (m : List ℕ) → router_send k r now room ≡ done (s, m) → now ≤ later → later < 2 ^ 48 → 512 ≤ room'
    → router_resend s later room' ≡ done (again s later (open_of s.exchange), m)
resent-first k r s now later room room' m e l h big = resent-same s now later room' m (sent-first k r s now room m e) l h big

-- ---------------------------------------------------------------- one in a second

-- what a router may do in one second, but for a new start
pub data Steps (now : Moment) : Router → Router → Type 0 where
  none : (r : Router) → Steps now r r
  sends : (k : Kind) (r r' r'' : Router) (room : ℕ) (m : List ℕ) → router_send k r now room ≡ done (r', m) → Steps now r' r'' → Steps now r r''
  resends : (r r' r'' : Router) (room : ℕ) (m : List ℕ) → router_resend r now room ≡ done (r', m) → Steps now r' r'' → Steps now r r''
  abandons : (r r' r'' : Router) → router_abandon r now ≡ done r' → Steps now r' r'' → Steps now r r''
  receives : (r r' r'' : Router) (m : List ℕ) → router_receive r now m ≡ done r' → Steps now r' r'' → Steps now r r''

began-sent : (k : Kind) (r r' : Router) (now room : ℕ) (m : List ℕ) → router_send k r now room ≡ done (r', m) → r'.began ≡ now
unfolding router_send begun
began-sent k r r' now room m e = two (λ q m. q.began ≡ now) (unless-done (send_tests k r now room) e).1 refl

-- the latest beginning stays this second's
began-stays : (now : Moment) (r s : Router) → Steps now r s → r.began ≡ now → s.began ≡ now
unfolding router_resend router_abandon router_receive again closed accept
began-stays now r s (none q) h = h
began-stays now r s (sends k q r' r'' room m e more) h = began-stays now r' r'' more (began-sent k q r' now room m e)
began-stays now r s (resends q r' r'' room m e more) h = began-stays now r' r'' more (two (λ q m. q.began ≡ now) (unless-done (resend_tests q now room) e).1 h)
began-stays now r s (abandons q r' r'' e more) h = began-stays now r' r'' more (one (λ q. q.began ≡ now) (unless-done (abandon_tests q now) e).1 h)
began-stays now r s (receives q r' r'' m e more) h = began-stays now r' r'' more (one (λ q. q.began ≡ now) (unless-done (receive_tests q now m (read m)) e).1 h)

-- the numbers 9, 1, 2, 11 and 12: 13 is never reached
refused-by : {A : Type 0} (a b c d e : Bool) (x : Res A) → e ≡ true
    → (n : ℕ) × (unless ((9, a) ∷ (1, b) ∷ (2, c) ∷ (11, d) ∷ (12, e) ∷ []) x ≡ refuse n) × (0 < n) × (n ≤ 12)
refused-by true b c d e x h = (9, refl, omega arith, omega arith)
refused-by false true c d e x h = (1, refl, omega arith, omega arith)
refused-by false false true d e x h = (2, refl, omega arith, omega arith)
refused-by false false false true e x h = (11, refl, omega arith, omega arith)
refused-by false false false false e x h = (12, rw h, omega arith, omega arith)

began-refused : (k : Kind) (r : Router) (now room : ℕ) → r.began ≡ now → (n : ℕ) × (router_send k r now room ≡ refuse n) × (0 < n) × (n ≤ 12)
unfolding router_send
began-refused k r now room h =
    refused-by (not (sound_router r)) (bad_time r.last now) (little_room room) (is_open r.exchange) (too_soon r now)
    (unless ((13, not (allows k r now)) ∷ []) (done (with_query (begun k r now) (exchange_for k r now)))) (late (leb now (r.started + 60) || leb now (r.freed + 60)) (le-leb now r.began (omega arith)))
  where
    late : (t : Bool) {u : Bool} → u ≡ true → t || u ≡ true
    late true e = refl
    late false e = e

pub one-a-second : (k k' : Kind) (r r' s : Router) (now room room' : ℕ) (m : List ℕ) → router_send k r now room ≡ done (r', m) → Steps now r' s
    → (n : ℕ) × (router_send k' s now room' ≡ refuse n) × (0 < n) × (n ≤ 12)
one-a-second k k' r r' s now room room' m e more = began-refused k' s now room' (began-stays now r' s more (began-sent k r r' now room m e))

-- ---------------------------------------------------------------- the numbers

-- an exchange has the number that was next, and the next is one more
pub numbers_up : (k : Kind) (r r' : Router) (now room : ℕ) (m : List ℕ) → router_send k r now room ≡ done (r', m)
    → (r'.next ≡ (r.next + 1) % 2 ^ 24) × (m ≡ print (query r' (open_of r'.exchange))) × ((query r' (open_of r'.exchange)).number ≡ r.next)
unfolding router_send begun query
numbers_up k r r' now room m e =
    let a = unless-done (send_tests k r now room) e in
    two (λ q m. (q.next ≡ (r.next + 1) % 2 ^ 24) × (m ≡ print (query q (open_of q.exchange))) × ((query q (open_of q.exchange)).number ≡ r.next)) a.1
    (refl, refl, number-before r.next (sound-facts r (not-false _ a.0.0)).small)
