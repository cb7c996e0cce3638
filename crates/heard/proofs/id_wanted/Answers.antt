use borrow.Author.Rules.{rules}
use Rattle.rules.specs.Identity.{identity_rows}
use Rattle.heard.proofs.Laws.{past-wanted, rows-wanted}
use Rattle.heard.proofs.id_wanted.Goals as goal

-- The table is that of the rules, as an array; past its end no row wants anything.
pub returns-then-kind-gt8 : goal.returns-then-kind-gt8
returns-then-kind-gt8 c = past-wanted c.args.kind c.args.id (search rules) (search rules)

pub returns : goal.returns
unfolding identity_rows
returns c = rows-wanted c.args.kind c.args.id (search rules)
