-- The answer as a value, and when it can be written.
use Rattle.std.specs.Prelude.{◌≡◌, true, List, [], ◌∷◌, ℕ, ◌≤◌, length}
use Rattle.rules.specs.Message.{Message, read, print}
use Rattle.rules.specs.TableBytes.{settings_of, sound_bytes}
use Rattle.rules.specs.Box.{ia_for, answer_to}
use Rattle.laws.specs.Every.{Every}
use Rattle.laws.specs.Round.{FineListed}
use Rattle.values.specs.Values.{first_listed}
use Rattle.values.specs.declared.Pd.{Pd}
use Rattle.wire.specs.Client.{client_stretch}
use Rattle.plan.specs.Plan.{verdict_of, Sendable}
use Rattle.plan.specs.declared.Plan.{Plan}
use Rattle.said.specs.Said.{listed_for}

-- what a plan says of the IA_PD q of the message m
unfoldable pub answered : List ℕ → List ℕ → Plan → Pd → Message
answered b m p q = answer_to (settings_of b) (read m) (ia_for (settings_of b) q.iaid (verdict_of (first_listed q.count q.prefixes) p))

pub record Answerable (b m : List ℕ) (p : Plan) (q : Pd) : Type 0 where
  pub sound : sound_bytes b ≡ true
  pub long : 4 ≤ length m
  pub client : (read m).clients ≡ client_stretch m ∷ []
  pub short : length (client_stretch m) ≤ 130
  pub few : q.count ≤ 4
  pub offer : Sendable p
  pub fine : Every FineListed (listed_for (settings_of b) (verdict_of (first_listed q.count q.prefixes) p))
  pub size : length (print (answered b m p q)) ≤ 442
