-- The judgement of a sending, in the parts in which it is made after the one by the state: each the number of the first test that applies, or 0.
use Rattle.std.specs.Prelude.{ℕ, Bool, not, List, [], ◌∷◌, ◌++◌}
use Rattle.rules.specs.Refusals.{little_room}
use Rattle.rules.specs.Clock.{Moment}
use Rattle.rules.specs.Router.{allows, is_open, too_soon}
use Rattle.rules.specs.RouterBytes.{router_of}
use Rattle.rules.specs.declared.Kind.{Kind}
use Rattle.laws.specs.Refusals.{number}
use Rattle.state.specs.Judged.{state_tests}

abbrev pub room_tests : ℕ → List (ℕ × Bool)
room_tests room = (2, little_room room) ∷ []

-- by the open exchange, and by what happened too short a time ago
abbrev pub times_tests : List ℕ → Moment → List (ℕ × Bool)
times_tests b now = (11, is_open (router_of b).exchange) ∷ (12, too_soon (router_of b) now) ∷ []

-- by what a message of that kind needs
abbrev pub kind_tests : Kind → List ℕ → Moment → List (ℕ × Bool)
kind_tests k b now = (13, not (allows k (router_of b) now)) ∷ []

abbrev pub open_tests : List ℕ → List (ℕ × Bool)
open_tests b = (13, not (is_open (router_of b).exchange)) ∷ []

unfoldable pub by_times : List ℕ → Moment → ℕ
by_times b now = number (times_tests b now)

-- the whole of a sending, of a resending, of an abandoning
abbrev pub sending_tests : Kind → List ℕ → Moment → ℕ → List (ℕ × Bool)
sending_tests k b now room = state_tests b now ++ (room_tests room ++ (times_tests b now ++ kind_tests k b now))

abbrev pub resending_tests : List ℕ → Moment → ℕ → List (ℕ × Bool)
resending_tests b now room = state_tests b now ++ (room_tests room ++ open_tests b)

abbrev pub abandoning_tests : List ℕ → Moment → List (ℕ × Bool)
abandoning_tests b now = state_tests b now ++ open_tests b

unfoldable pub by_sending : Kind → List ℕ → Moment → ℕ → ℕ
by_sending k b now room = number (sending_tests k b now room)

unfoldable pub by_resending : List ℕ → Moment → ℕ → ℕ
by_resending b now room = number (resending_tests b now room)

unfoldable pub by_abandoning : List ℕ → Moment → ℕ
by_abandoning b now = number (abandoning_tests b now)
