-- What receiving judges by, and what it takes of a message.
use Rattle.std.specs.Prelude.{◌≡◌, Bool, true, cond, not, ◌||◌, List, [], ◌∷◌, ◌++◌, ℕ, ◌+◌, eqb, None, Option}
use Rattle.rules.specs.Words.{num_at}
use Rattle.rules.specs.Options.{area_of, options, content}
use Rattle.rules.specs.Message.{listed_at, read}
use Rattle.rules.specs.Router.{awaited, takes}
use Rattle.rules.specs.RouterBytes.{router_of, sound_router_bytes}
use Rattle.rules.specs.declared.Spot.{Spot}
use Rattle.laws.specs.Refusals.{number}
use Rattle.heard.specs.Heard.{only_of}
use Rattle.state.specs.Judged.{state_tests}

-- the tests, those by the state first
abbrev pub awaited_tests : List ℕ → List ℕ → List (ℕ × Bool)
awaited_tests b m = (14, not (awaited (router_of b) m (read m) (router_of b).exchange)) ∷ []

abbrev pub tests : List ℕ → ℕ → List ℕ → List (ℕ × Bool)
tests b now m = state_tests b now ++ awaited_tests b m

unfoldable pub judged : List ℕ → ℕ → List ℕ → ℕ
judged b now m = number (tests b now m)

-- a sound state, and the message that its open exchange of type k awaits
pub record Accepted (b m : List ℕ) (k : ℕ) : Type 0 where
  pub sound : sound_router_bytes b ≡ true
  pub kind : k ≡ num_at b 346 1
  pub awaits : awaited (router_of b) m (read m) (router_of b).exchange ≡ true

-- the first that passes
abbrev pub first_found : (Option Spot → Bool) → List (Option Spot) → Option Spot
first_found f [] = None
first_found f (x ∷ l) = cond (f x) x (first_found f l)

-- the first IA Prefix that is taken, of those of the IA_PD whose content starts at s
unfoldable pub taken_in : List ℕ → ℕ → ℕ → Option Spot
taken_in m s n = first_found (λ f. takes (listed_at m f)) (options 26 (area_of m (s + 12) (s + n)))

-- the server that an Advertise or a Rebind's Reply tells; of another exchange nothing
unfoldable pub server_told : ℕ → List ℕ → List ℕ
server_told k m = cond (eqb k 1 || eqb k 6) (content m (only_of 2 m)) []
