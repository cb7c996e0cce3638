use Rattle.sound.proofs.Laws.{two-stop, two-rest}
use Rattle.sound.proofs.no_two.Goals as goal

pub returns-then-not-all_clear : goal.returns-then-not-all_clear
returns-then-not-all_clear c = two-stop c.args.t.now c.args.n c.all_clear.ensures c.if-not-all_clear.true

pub returns : goal.returns
returns c = two-rest c.args.t.now c.args.n c.all_clear.ensures c.if-not-all_clear.false c.all_clear-2.ensures
