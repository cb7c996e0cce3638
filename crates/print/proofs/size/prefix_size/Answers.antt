use Rattle.std.proofs.Common.{sym}
use borrow.Author.Rules.{rules}
use Rattle.print.proofs.Alone.{whole-size, cut-size}
use Rattle.print.proofs.size.prefix_size.Goals as goal

-- By its PD Exclude.
pub returns-then-x-eq0 : goal.returns-then-x-eq0
returns-then-x-eq0 c = (sym (whole-size _ c.if-x-eq0.true), search rules)

pub returns : goal.returns
returns c = let e = cut-size c.args.x c.if-x-eq0.false in search rules
