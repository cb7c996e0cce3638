-- There are no more than five.
use Rattle.std.proofs.Common.{◌≡◌, ◌≤◌, arith, length}
use borrow.Author.Rules.{rules}
use Rattle.print.proofs.Alone.{take-over}
use Rattle.print.proofs.able.few.Goals as goal

pub returns-else-n-lt5 : goal.returns-else-n-lt5
returns-else-n-lt5 c =
    let long : length c.args.ps ≤ 5 = let l : length c.args.ps ≡ 5 = search rules in omega arith in
    let more : length c.args.ps ≤ c.args.n = let l = long in omega arith in
    (omega arith, take-over _ _ _ long more)
