-- The tests, one after the other as code makes them, and the parts of a judgement.
use Rattle.std.specs.Prelude.{Option, None, Some, option_map}
use Rattle.std.specs.Option.{is_some}
use mathlib.Core.Path.{◌≡◌, refl, sym, ap, ◌∙◌}
use mathlib.Core.Bool.{Bool, true, false, cond, not, ◌||◌}
use mathlib.Core.List.{List, ◌++◌}
use Prim.Native.Nat.{ℕ, ◌+◌, ◌≤◌, ◌<◌, ◌^◌}
use native.Mathlib.Omega.{arith}
use borrow.Author.Tests.{lt-ltb, le-ltb}
use lib.Dec.{leb}
use Rattle.rules.specs.Words.{num_at}
use Rattle.rules.specs.Refusals.{number_of}
use Rattle.rules.specs.Router.{Exchange, allows, too_soon, is_open}
use Rattle.rules.specs.RouterBytes.{router_of, sound_router_bytes}
use Rattle.rules.specs.declared.Kind.{Kind}
use Rattle.rules.specs.declared.Refusal.{Refusal}
use Rattle.laws.specs.Refusals.{number, numbered, number-later, number-here}
use Rattle.laws.specs.RouterFields.{sound-facts}
use Rattle.laws.specs.RouterRepresent.{router-sound-bytes}
use Rattle.state.specs.Judged.{by_state}
use Rattle.state.specs.Facts.{state-here, state-later}
use Rattle.requester.specs.Judged.{room_tests, times_tests, kind_tests, open_tests, by_times, by_sending, by_resending, by_abandoning}

-- ---------------------------------------------------------------- 11, 12

-- an exchange is open where it has a kind
pub some-open : (o : Option Exchange) → is_some (option_map (λ x. x.kind) o) ≡ is_open o
some-open None = refl
some-open (Some x) = refl

-- a minute after them is a number of the code
pub times-small : (b : List ℕ) → sound_router_bytes b ≡ true → (num_at b 8 8 < 2 ^ 48) × (num_at b 24 8 < 2 ^ 48)
unfolding router_of
times-small b h =
    let s = sound-facts (router_of b) (router-sound-bytes b h).0 in
    (omega (arith, s.started-last, s.time), omega (arith, s.freed-last, s.time))

module _ (b : List ℕ) (now : ℕ) {x : Bool} (op : x ≡ is_open (router_of b).exchange) where
  pub times-11 : x ≡ true → 11 ≡ by_times b now
  unfolding by_times
  times-11 h = rw (sym op ∙ h)

  module _ (h : x ≡ false) {s f g : ℕ} (es : s ≡ num_at b 8 8) (ef : f ≡ num_at b 24 8) (eg : g ≡ num_at b 16 8) where
    soon-read : {y : Bool} → leb now (s + 60) || leb now (f + 60) || leb now g ≡ y → too_soon (router_of b) now ≡ y
    unfolding router_of
    soon-read q = rw (← es, ← ef, ← eg) q

    pub times-12 : leb now (s + 60) || leb now (f + 60) || leb now g ≡ true → 12 ≡ by_times b now
    unfolding by_times
    times-12 q = rw (sym op ∙ h, soon-read q)

    pub times-0 : leb now (s + 60) || leb now (f + 60) || leb now g ≡ false → 0 ≡ by_times b now
    unfolding by_times
    times-0 q = rw (sym op ∙ h, soon-read q)

-- ---------------------------------------------------------------- the parts of a judgement

-- a sending
module _ (k : Kind) (b : List ℕ) (now room : ℕ) where
  pub sending-state : (x : Refusal) → number_of x ≡ by_state b now → number_of x ≡ by_sending k b now room
  unfolding by_sending
  sending-state x e = state-here b now e (room_tests room ++ (times_tests b now ++ kind_tests k b now)) (numbered x)

  module _ (e : 0 ≡ by_state b now) where
    sending-later : by_sending k b now room ≡ number (room_tests room ++ (times_tests b now ++ kind_tests k b now))
    unfolding by_sending
    sending-later = state-later b now e refl (room_tests room ++ (times_tests b now ++ kind_tests k b now))

    pub sending-2 : room < 512 → 2 ≡ by_sending k b now room
    sending-2 h = sym (sending-later ∙ rw (lt-ltb room 512 h))

    module _ (l : 512 ≤ room) where
      past : by_sending k b now room ≡ number (times_tests b now ++ kind_tests k b now)
      past = sending-later ∙ rw (le-ltb room 512 l)

      pub sending-times : (x : Refusal) → number_of x ≡ by_times b now → number_of x ≡ by_sending k b now room
      unfolding by_times
      sending-times x f = number-here (times_tests b now) (kind_tests k b now) f (numbered x) ∙ sym past

      module _ (f : 0 ≡ by_times b now) {x : Bool} (a : x ≡ allows k (router_of b) now) where
        sending-last : by_sending k b now room ≡ number (kind_tests k b now)
        unfolding by_times
        sending-last = past ∙ number-later (times_tests b now) (kind_tests k b now) refl f refl

        pub sending-13 : x ≡ false → 13 ≡ by_sending k b now room
        sending-13 h = sym (sending-last ∙ rw (← a, h))

        pub sending-0 : x ≡ true → 0 ≡ by_sending k b now room
        sending-0 h = sym (sending-last ∙ rw (← a, h))

-- what needs an open exchange
module _ (b : List ℕ) (now : ℕ) where
  pub abandoning-state : (x : Refusal) → number_of x ≡ by_state b now → number_of x ≡ by_abandoning b now
  unfolding by_abandoning
  abandoning-state x e = state-here b now e (open_tests b) (numbered x)

  pub resending-state : (room : ℕ) (x : Refusal) → number_of x ≡ by_state b now → number_of x ≡ by_resending b now room
  unfolding by_resending
  resending-state room x e = state-here b now e (room_tests room ++ open_tests b) (numbered x)

  module _ (e : 0 ≡ by_state b now) where
    pub resending-2 : (room : ℕ) → room < 512 → 2 ≡ by_resending b now room
    unfolding by_resending
    resending-2 room h = sym (state-later b now e refl (room_tests room ++ open_tests b) ∙ rw (lt-ltb room 512 h))

    module _ {x : Bool} (op : x ≡ is_open (router_of b).exchange) where
      open-number : {y : ℕ} → cond (not x) 13 0 ≡ y → number (open_tests b) ≡ y
      open-number h = ap (λ t. cond (not t) 13 0) (sym op) ∙ h

      pub abandoning-open : {y : ℕ} → cond (not x) 13 0 ≡ y → y ≡ by_abandoning b now
      unfolding by_abandoning
      abandoning-open h = sym (state-later b now e refl (open_tests b) ∙ open-number h)

      pub resending-open : (room : ℕ) → 512 ≤ room → {y : ℕ} → cond (not x) 13 0 ≡ y → y ≡ by_resending b now room
      unfolding by_resending
      resending-open room l h = sym (state-later b now e refl (room_tests room ++ open_tests b) ∙ rw (le-ltb room 512 l) (open-number h))
