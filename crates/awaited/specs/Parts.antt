-- The parts of `awaited` that have no name in the rules, and what its functions ask for.
use Rattle.std.specs.Prelude.{ℕ, ◌+◌, ◌≤◌, Bool, ◌&&◌, ◌||◌, List, eqb, length}
use Rattle.rules.specs.Words.{any, num_at}
use Rattle.rules.specs.Message.{Ia, Message}
use Rattle.rules.specs.Identity.{answer_type}
use Rattle.rules.specs.Router.{number_before, says6}
use Rattle.rules.specs.declared.Kind.{Kind}

-- the right type and transaction number, for a router whose next number is x
unfoldable pub answers_to : Kind → ℕ → Message → Bool
answers_to k x v = eqb v.kind (answer_type k) && eqb v.number (number_before x)

-- NoPrefixAvail in an IA_PD, at its own level or in an IA Prefix
unfoldable pub pd_says6 : Ia → Bool
pd_says6 a = says6 a.statuses || any (λ x. says6 x.statuses) a.listed

-- room for a DUID behind its length, which is at most 130
pub record DuidIn (b : List ℕ) (at : ℕ) : Type 0 where
  pub room : at + 131 ≤ length b
  pub few : num_at b at 1 ≤ 130
