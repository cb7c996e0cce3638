-- `duid_len`: the row has room for 130 bytes.
use Rattle.std.proofs.Common.{arith}
use Rattle.laws.specs.InPlace.{owner-length}
use Rattle.fields.proofs.duid_len.Goals as goal

pub returns-then-n-lt130 : goal.returns-then-n-lt130
returns-then-n-lt130 c = let h = owner-length c.args.t.now c.args.i c.requires.0 c.requires.1 in (omega arith, omega arith)

pub returns-else-n-lt130 : goal.returns-else-n-lt130
returns-else-n-lt130 c = let h = owner-length c.args.t.now c.args.i c.requires.0 c.requires.1 in (omega arith, omega arith)
