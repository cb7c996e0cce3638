-- What each operation leaves: the word, the state and the room, by the way that code takes.
use mathlib.Core.Path.{◌≡◌, refl, sym, ap, ◌∙◌}
use mathlib.Core.Bool.{Bool, true, false, cond, not, ◌&&◌, false≢true}
use mathlib.Core.List.{List, [], ◌∷◌, ◌++◌}
use Rattle.std.specs.Prelude.{Option, None, Some}
use Prim.Native.Nat.{ℕ, ◌*◌, ◌≤◌, ◌<◌, ◌^◌}
use native.Mathlib.Omega.{arith}
use borrow.Author.Tests.{not-false, ltb-false, leb-true, le-leb, lt-leb, lt-ltb, le-ltb}
use lib.Dec.{leb, ltb}
use lib.ListN.{length, take, drop}
use Rattle.rules.specs.Words.{part, splice}
use Rattle.rules.specs.Refusals.{Res, unless, done, refuse, number_of, bad_time, little_room}
use Rattle.rules.specs.Message.{print}
use Rattle.rules.specs.Identity.{Identity, identity, good_duid}
use Rattle.rules.specs.Router.{Hold, Exchange, Router, holds, is_held, good_asker, sound_router, query, is_open, exchange_for, begun, again, closed, with_query, open_of, router_send, router_resend, router_abandon}
use Rattle.rules.specs.RouterBytes.{hold_size, hold_bytes, held_bytes, router_bytes, router_of, sound_router_bytes}
use Rattle.rules.specs.Lent.{ended, settle, no_text, asked, hold_text, router_started, router_sent, router_resent, router_abandoned, router_shown}
use Rattle.rules.specs.declared.Kind.{Kind}
use Rattle.rules.specs.declared.Refusal.{Refusal}
use Rattle.laws.specs.Tests.{both}
use Rattle.laws.specs.Every.{Every}
use Rattle.laws.specs.Refusals.{number, numbered, none-applies, number-refused, unless-made, in-time}
use Rattle.laws.specs.Parts.{length_part}
use Rattle.laws.specs.RouterFields.{hold-size}
use Rattle.laws.specs.RouterRepresent.{inner-rest, router-round, router-bytes-sound, router-sound-bytes}
use Rattle.laws.specs.RouterChange.{fresh, start-fresh, held_bytes_lem}
use Rattle.laws.specs.RouterKeeps.{begun-sound, again-sound, open-some}
use Rattle.state.specs.Judged.{state_tests, by_state}
use Rattle.state.specs.Facts.{state-here, state-later, state-none, state-sound, state-size, router-once}
use Rattle.requester.specs.Judged.{times_tests, kind_tests, open_tests, sending_tests, resending_tests, abandoning_tests, by_sending, by_resending, by_abandoning}
use Rattle.requester.specs.Written.{Open, exchange_in, query_of, Put}

-- ---------------------------------------------------------------- start

pub start-short : (d : List ℕ) (wanted : ℕ) → not (leb 3 (length d) && leb (length d) 130 && leb wanted 64) ≡ false → length d ≤ 130
start-short d wanted h =
    let g = both (leb 3 (length d) && leb (length d) 130) (leb wanted 64) (not-false _ h) in
    leb-true (length d) 130 (both (leb 3 (length d)) (leb (length d) 130) g.0).1

module _ (b d : List ℕ) (iaid wanted now : ℕ) (li : iaid < 2 ^ 32) where
  abbrev i : Identity
  i = identity d iaid

  asker-is : good_asker (identity d iaid) wanted ≡ leb 3 (length d) && leb (length d) 130 && leb wanted 64
  asker-is = rw (lt-ltb iaid (2 ^ 32) li) (ap (λ t. t && leb wanted 64) (and_same (good_duid d)))
    where
      and_same : (t : Bool) → t && true ≡ t
      and_same true = refl
      and_same false = refl

  pub start-10 : not (leb 3 (length d) && leb (length d) 130 && leb wanted 64) ≡ true → ended 655360 b [] ≡ router_started b (identity d iaid) wanted now
  unfolding router_started
  start-10 h = rw (start-fresh i wanted now, asker-is, h)

  module _ (h : not (leb 3 (length d) && leb (length d) 130 && leb wanted 64) ≡ false) where
    pub start-1 : 2 ^ 48 ≤ now → ended 65536 b [] ≡ router_started b (identity d iaid) wanted now
    unfolding router_started
    start-1 g = rw (start-fresh i wanted now, asker-is, h, le-ltb now 0 (omega arith), le-leb (2 ^ 48) now g)

    pub start-0 : now < 2 ^ 48 → {c : List ℕ} → c ≡ router_bytes (fresh (identity d iaid) wanted now) → ended 0 c [] ≡ router_started b (identity d iaid) wanted now
    unfolding router_started splice
    start-0 g q = rw (start-fresh i wanted now, asker-is, h, le-ltb now 0 (omega arith), lt-leb (2 ^ 48) now g) (ap (λ c. ended 0 c []) q)

-- ---------------------------------------------------------------- the new state with its message

-- s is the state, x its open exchange, c its bytes
module _ (s : Router) (g : sound_router s ≡ true) (x : Exchange) (ex : s.exchange ≡ Some x) {c : List ℕ} (e : c ≡ router_bytes s) where
  read_is : router_of c ≡ s
  read_is = ap router_of e ∙ router-round s g

  opened : Open c
  opened = record { sound = rw e (router-bytes-sound s g); has = ap (λ y. is_open y.exchange) read_is ∙ ap is_open ex }

  query-is : query_of c ≡ print (query s x)
  unfolding query_of
  query-is = ap (λ y. print (query y (open_of y.exchange))) read_is ∙ ap (λ y. print (query s (open_of y))) ex

  settled : (b out : List ℕ) {d : List ℕ} {w : ℕ} → Put (query_of c) w out d → ended w c d ≡ settle router_bytes b out (done (with_query s x))
  settled b out p = λ j. ended ((p.size ∙ ap length query-is) j) (e j) ((p.is ∙ ap (λ t. splice 0 t out) query-is) j)

-- ---------------------------------------------------------------- a sending

module _ (k : Kind) (b : List ℕ) (now : ℕ) (out : List ℕ) where
  abbrev r : Router
  r = router_of b

  abbrev ts : List (ℕ × Bool)
  ts = sending_tests k b now (length out)

  abbrev result : Res (Router × List ℕ)
  result = done (with_query (begun k (router_of b) now) (exchange_for k (router_of b) now))

  sent_is : router_sent k b now out ≡ settle router_bytes b out (unless ts result)
  unfolding router_sent router_send
  sent_is = ap (settle router_bytes b out) (router-once b ((1, bad_time r.last now) ∷ (2, little_room (length out)) ∷ (times_tests b now ++ kind_tests k b now)) result)

  pub sent-refused : (x : Refusal) → number_of x ≡ by_sending k b now (length out) → ended (number_of x * 65536) b out ≡ router_sent k b now out
  unfolding by_sending
  sent-refused x e = sym (sent_is ∙ ap (settle router_bytes b out) (number-refused ts result e (numbered x)))

  module _ (e : 0 ≡ by_sending k b now (length out)) where
    passed : Every (λ t. t.1 ≡ false) ts
    unfolding by_sending
    passed = none-applies ts refl e refl

    pub sent-sound : sound_router_bytes b ≡ true
    sent-sound = not-false _ passed.0

    after : sound_router (begun k (router_of b) now) ≡ true
    after =
        let t = in-time (router_of b).last now passed.1.0 in
        begun-sound (router_of b) now (router-sound-bytes b sent-sound).0 t.0 t.1 k (not-false _ passed.1.1.1.1.1.0)

    began : (begun k (router_of b) now).exchange ≡ Some (exchange_for k (router_of b) now)
    unfolding begun
    began = refl

    module _ {c : List ℕ} (q : c ≡ router_bytes (begun k (router_of b) now)) where
      pub sent-open : Open c × (344 ≤ length out)
      sent-open = (opened (begun k (router_of b) now) after (exchange_for k (router_of b) now) began q, omega (arith, ltb-false (length out) 512 passed.1.1.0))

      pub sent-made : {d : List ℕ} {w : ℕ} → Put (query_of c) w out d → ended w c d ≡ router_sent k b now out
      sent-made p =
          settled (begun k (router_of b) now) after (exchange_for k (router_of b) now) began q b out p
          ∙ sym (sent_is ∙ ap (settle router_bytes b out) (unless-made ts result passed))

-- ---------------------------------------------------------------- a resending

module _ (b : List ℕ) (now : ℕ) (out : List ℕ) where
  abbrev x : Exchange
  x = exchange_in (router_of b)

  abbrev us : List (ℕ × Bool)
  us = resending_tests b now (length out)

  abbrev repeated : Res (Router × List ℕ)
  repeated = done (with_query (again (router_of b) now (exchange_in (router_of b))) (exchange_in (router_of b)))

  resent-is : router_resent b now out ≡ settle router_bytes b out (unless us repeated)
  unfolding router_resent router_resend
  resent-is = ap (settle router_bytes b out) (router-once b ((1, bad_time (router_of b).last now) ∷ (2, little_room (length out)) ∷ open_tests b) repeated)

  pub resent-refused : (x : Refusal) → number_of x ≡ by_resending b now (length out) → ended (number_of x * 65536) b out ≡ router_resent b now out
  unfolding by_resending
  resent-refused x e = sym (resent-is ∙ ap (settle router_bytes b out) (number-refused us repeated e (numbered x)))

  module _ (e : 0 ≡ by_resending b now (length out)) where
    passed-again : Every (λ t. t.1 ≡ false) us
    unfolding by_resending
    passed-again = none-applies us refl e refl

    pub resent-may : (sound_router_bytes b ≡ true) × (is_open (router_of b).exchange ≡ true)
    resent-may = (not-false _ passed-again.0, not-false _ passed-again.1.1.1.0)

    after-again : sound_router (again (router_of b) now (exchange_in (router_of b))) ≡ true
    after-again =
        let t = in-time (router_of b).last now passed-again.1.0 in
        again-sound (router_of b) now (router-sound-bytes b resent-may.0).0 t.0 t.1 x (open-some (router_of b).exchange resent-may.1)

    stays_open : (again (router_of b) now (exchange_in (router_of b))).exchange ≡ Some (exchange_in (router_of b))
    unfolding again
    stays_open = refl

    module _ {c : List ℕ} (q : c ≡ router_bytes (again (router_of b) now (exchange_in (router_of b)))) where
      pub resent-open : Open c × (344 ≤ length out)
      resent-open = (opened (again (router_of b) now x) after-again x stays_open q, omega (arith, ltb-false (length out) 512 passed-again.1.1.0))

      pub resent-made : {d : List ℕ} {w : ℕ} → Put (query_of c) w out d → ended w c d ≡ router_resent b now out
      resent-made p =
          settled (again (router_of b) now x) after-again x stays_open q b out p
          ∙ sym (resent-is ∙ ap (settle router_bytes b out) (unless-made us repeated passed-again))

-- ---------------------------------------------------------------- an abandoning

module _ (b : List ℕ) (now : ℕ) where
  abbrev shut : Res Router
  shut = done (closed (router_of b) now (router_of b).server (router_of b).held)

  abandoned-is : router_abandoned b now ≡ settle router_bytes b [] (no_text (unless (abandoning_tests b now) shut))
  unfolding router_abandoned router_abandon
  abandoned-is = ap (λ x. settle router_bytes b [] (no_text x)) (router-once b ((1, bad_time (router_of b).last now) ∷ open_tests b) shut)

  pub abandoned-refused : (x : Refusal) → number_of x ≡ by_abandoning b now → ended (number_of x * 65536) b [] ≡ router_abandoned b now
  unfolding by_abandoning
  abandoned-refused x e = sym (abandoned-is ∙ ap (λ x. settle router_bytes b [] (no_text x)) (number-refused (abandoning_tests b now) shut e (numbered x)))

  module _ (e : 0 ≡ by_abandoning b now) where
    passed-shut : Every (λ t. t.1 ≡ false) (abandoning_tests b now)
    unfolding by_abandoning
    passed-shut = none-applies (abandoning_tests b now) refl e refl

    pub abandoned-sound : sound_router_bytes b ≡ true
    abandoned-sound = not-false _ passed-shut.0

    pub abandoned-made : {c : List ℕ} → c ≡ router_bytes (closed (router_of b) now (router_of b).server (router_of b).held) → ended 0 c [] ≡ router_abandoned b now
    unfolding splice
    abandoned-made q =
        ap (λ c. ended 0 c []) q
        ∙ sym (abandoned-is ∙ ap (λ x. settle router_bytes b [] (no_text x)) (unless-made (abandoning_tests b now) shut passed-shut))

-- ---------------------------------------------------------------- what is held

-- by whether something is held whose end hasn't come
module _ (b : List ℕ) (now : ℕ) where
  none-held : (o : Option Hold) → is_held (holds now o) ≡ false → hold_text now o ≡ []
  none-held None h = refl
  none-held (Some x) h = by (ltb now x.end) h
    where
      by : (t : Bool) → is_held (cond t (Some x.lease) None) ≡ false → cond t (hold_bytes x) [] ≡ []
      by true h = absurd (false≢true (sym h))
      by false h = refl

  one-held : (o : Option Hold) → part 303 43 b ≡ held_bytes o → is_held (holds now o) ≡ true → hold_text now o ≡ part 304 42 b
  one-held None q h = absurd (false≢true h)
  one-held (Some x) q h = by (ltb now x.end) h
    where
      by : (t : Bool) → is_held (cond t (Some x.lease) None) ≡ true → cond t (hold_bytes x) [] ≡ part 304 42 b
      by true h = sym (inner-rest b 303 1 42 (hold_bytes x) q (hold-size x))
      by false h = absurd (false≢true h)

module _ (b : List ℕ) (now : ℕ) (out : List ℕ) where
  abbrev text : List ℕ
  text = hold_text now (router_of b).held

  abbrev vs : List (ℕ × Bool)
  vs = (2, ltb (length out) hold_size) ∷ []

  shown-is : router_shown b now out ≡ asked b out (unless (state_tests b now ++ vs) (done text))
  unfolding router_shown
  shown-is = ap (asked b out) (router-once b ((1, bad_time (router_of b).last now) ∷ vs) (done text))

  pub shown-refused : (x : Refusal) → number_of x ≡ by_state b now → ended (number_of x * 65536) b out ≡ router_shown b now out
  shown-refused x e = sym (shown-is ∙ ap (asked b out) (number-refused (state_tests b now ++ vs) (done text) (state-here b now e vs (numbered x)) (numbered x)))

  -- the number alone
  pub held-refused : (x : Refusal) → number_of x ≡ by_state b now → number_of x ≡ number (state_tests b now ++ vs)
  held-refused x e = state-here b now e vs (numbered x)

  module _ (e : 0 ≡ by_state b now) where
    held-tested : {t : Bool} → ltb (length out) 42 ≡ t → cond t 2 0 ≡ number (state_tests b now ++ vs)
    held-tested h = sym (state-later b now e refl vs ∙ ap (λ t. cond t 2 0) h)

    pub held-2 : length out < 42 → 2 ≡ number (state_tests b now ++ vs)
    held-2 h = held-tested (lt-ltb (length out) 42 h)

    pub held-0 : 42 ≤ length out → 0 ≡ number (state_tests b now ++ vs)
    held-0 h = held-tested (le-ltb (length out) 42 h)

    tested : {t : Bool} → ltb (length out) 42 ≡ t → router_shown b now out ≡ asked b out (cond t (refuse 2) (done text))
    tested h = let p = state-none b now e refl in shown-is ∙ rw (p.0, p.1.0, h)

    pub shown-2 : length out < 42 → ended 131072 b out ≡ router_shown b now out
    shown-2 h = sym (tested (lt-ltb (length out) 42 h))

    module _ (room : 42 ≤ length out) {x : Bool} (has : x ≡ is_held (holds now (router_of b).held)) where
      shown-text : {l : List ℕ} → text ≡ l → router_shown b now out ≡ ended (length l) b (splice 0 l out)
      shown-text q = tested (le-ltb (length out) 42 room) ∙ ap (λ l. ended (length l) b (splice 0 l out)) q

      pub shown-none : x ≡ false → ended 0 b out ≡ router_shown b now out
      unfolding splice
      shown-none h = sym (shown-text (none-held b now (router_of b).held (sym has ∙ h)))

      pub shown-held : x ≡ true → {d : List ℕ} → d ≡ splice 0 (take 42 (drop 304 b)) out → ended 42 b d ≡ router_shown b now out
      unfolding part
      shown-held h q =
          let l = length_part 304 42 b (omega (arith, state-size b now e refl)) in
          let p = one-held b now (router_of b).held (held_bytes_lem b (state-sound b now e refl)) (sym has ∙ h) in
          sym (shown-text p ∙ rw l (ap (ended 42 b) (sym q)))
