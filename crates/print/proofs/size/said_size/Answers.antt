-- A Status Code, or nothing.
use Rattle.std.proofs.Common.{refl}
use borrow.Author.Rules.{rules}
use Rattle.rules.specs.Options.{printed}
use Rattle.print.specs.Bytes.{said_bytes}
use Rattle.print.proofs.size.said_size.Goals as goal

pub returns-then-says : goal.returns-then-says
unfolding said_bytes
returns-then-says c = rw c.if-says.true c.status_size.ensures

pub returns : goal.returns
unfolding said_bytes printed
returns c = rw c.if-says.false (refl, search rules)
