use Rattle.std.proofs.Common.{[]}
use Rattle.rules.specs.TableBytes.{row_at}
use Rattle.laws.specs.InPlace.{good-row-read}
use Rattle.sound.specs.Setup.{setup_of}
use Rattle.sound.proofs.Laws.{row-agrees}
use Rattle.sound.proofs.good_row.Goals as goal

pub returns : goal.returns
returns c = cc (row-agrees c.args.s c.args.t.now c.requires.2 (row_at c.args.t.now c.args.i), good-row-read c.args.t.now c.args.i (setup_of c.args.s []))
