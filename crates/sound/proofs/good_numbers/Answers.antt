use Rattle.sound.proofs.Laws.{numbers-read}
use Rattle.sound.proofs.good_numbers.Goals as goal

pub returns : goal.returns
returns c = numbers-read c.args.s c.args.p c.args.x c.args.end c.inside.ensures c.is_aligned.ensures c.flag.ensures
