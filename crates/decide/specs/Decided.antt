-- What a decision promises: carried out it serves the IA_PD as the rules say, and it can be carried out and sent.
use Rattle.std.specs.Prelude.{◌≡◌, ℕ, List}
use Rattle.rules.specs.Clock.{Moment}
use Rattle.rules.specs.TableBytes.{settings_of, count_of, table_of}
use Rattle.rules.specs.Box.{Asked, serve}
use Rattle.rules.specs.declared.Kind.{Kind}
use Rattle.plan.specs.Plan.{carried_out, Possible, Sendable}
use Rattle.plan.specs.declared.Plan.{Plan}

pub record Decided (b : List ℕ) (now : Moment) (k : Kind) (q : Asked) (p : Plan) : Type 0 where
  pub served : carried_out q (table_of b).records p ≡ serve (settings_of b) now q (table_of b).records k
  pub possible : Possible (count_of b) p
  pub sendable : Sendable p
