use Rattle.std.proofs.Common.{◌≡◌, refl, ◌≤◌, arith, length}
use borrow.Author.Rules.{rules}
use Rattle.values.specs.Listed.{rest_listed}
use Rattle.listed.proofs.Laws.{all-put, all_done}
use Rattle.listed.proofs.all_returned.Goals as goal

pub loop-i-init : goal.loop-i-init
unfolding rest_listed
loop-i-init c = (search rules, refl)

pub loop-i-preserved : goal.loop-i-preserved
loop-i-preserved c =
    let long : c.args.n ≤ length c.args.ps = let l : length c.args.ps ≡ 5 = search rules in omega (arith, c.requires) in (
      search rules,
      all-put _ _ _ long _ _ c.loop-i-test.true (omega arith) c.returned.ensures c.loop-i.invariant.1,
    )

pub returns : goal.returns
returns c =
    let long : c.args.n ≤ length c.args.ps = let l : length c.args.ps ≡ 5 = search rules in omega (arith, c.requires) in
    (all_done _ _ _ long _ c.loop-i.auto.i-end c.loop-i-test.false c.loop-i.invariant.1, search rules)
