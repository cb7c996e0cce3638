-- What is refused by the state and the time: the number of the first test that applies, or 0.
use Rattle.std.specs.Prelude.{ℕ, Bool, not, List, [], ◌∷◌}
use Rattle.rules.specs.Refusals.{bad_time}
use Rattle.rules.specs.Clock.{Moment}
use Rattle.rules.specs.RouterBytes.{router_of, sound_router_bytes}
use Rattle.laws.specs.Refusals.{number}

abbrev pub state_tests : List ℕ → Moment → List (ℕ × Bool)
state_tests b now = (9, not (sound_router_bytes b)) ∷ (1, bad_time (router_of b).last now) ∷ []

unfoldable pub by_state : List ℕ → Moment → ℕ
by_state b now = number (state_tests b now)
