-- A message served over a table without ended records, and what is known of one that is accepted.
use Rattle.std.specs.Prelude.{List, ℕ, ◌≤◌, ◌<◌, ◌^◌, length}
use Rattle.rules.specs.Words.{splice}
use Rattle.rules.specs.Message.{Message, read, print}
use Rattle.rules.specs.Clock.{Moment}
use Rattle.rules.specs.Identity.{kind_of}
use Rattle.rules.specs.TableBytes.{settings_of, table_bytes, table_of}
use Rattle.rules.specs.Box.{Served, serve, ia_for, answer_to, ia_of, asked_by}
use Rattle.rules.specs.Lent.{Ended, ended}
use Rattle.laws.specs.Every.{Every}
use Rattle.laws.specs.Round.{FineListed}
use Rattle.laws.specs.Change.{on_records}
use Rattle.judge.specs.Understood.{Understood}
use Rattle.said.specs.Said.{listed_for}

abbrev pub service_on : List ℕ → Moment → List ℕ → Served
service_on b now m = serve (settings_of b) now (asked_by (read m)) (table_of b).records (kind_of (read m).kind)

unfoldable pub reply_on : List ℕ → Moment → List ℕ → Message
reply_on b now m = answer_to (settings_of b) (read m) (ia_for (settings_of b) (ia_of (read m)).iaid (service_on b now m).verdict)

unfoldable pub served_on : List ℕ → Moment → List ℕ → List ℕ → Ended
served_on b now m out =
    ended (length (print (reply_on b now m))) (table_bytes (on_records (λ _. (service_on b now m).records) (table_of b))) (splice 0 (print (reply_on b now m)) out)

pub record Ready (b : List ℕ) (now : Moment) (m : List ℕ) : Type 0 where
  pub understood : Understood b m
  pub soon : now < 2 ^ 48
  pub long : 4 ≤ length m
  pub fine : Every FineListed (listed_for (settings_of b) (service_on b now m).verdict)
  pub size : length (print (reply_on b now m)) ≤ 442
