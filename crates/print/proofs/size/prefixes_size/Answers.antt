use Rattle.std.proofs.Common.{ap, length, rules}
use Rattle.print.proofs.Laws.{rest-none}
use Rattle.print.proofs.Alone.{rest-size}
use Rattle.print.proofs.size.prefixes_size.Goals as goal

pub loop-x-preserved : goal.loop-x-preserved
loop-x-preserved c =
    let e = rest-size c.loop-x.x-index c.args.ps.now c.loop-x-test.true in
    search rules

pub returns : goal.returns
returns c =
    let e = ap length (rest-none c.loop-x.x-index c.args.ps.now c.loop-x-test.false) in
    search rules
