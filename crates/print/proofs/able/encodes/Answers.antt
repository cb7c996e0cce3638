-- By its prefix and its excluded prefix; the lifetimes fit their fields.
use Rattle.std.proofs.Common.{◌<◌, ◌^◌}
use borrow.Author.Rules.{rules}
use Rattle.print.proofs.Alone.{listed-encodes}
use Rattle.print.proofs.able.encodes.Goals as goal

pub returns : goal.returns
returns c =
    let preferred : c.args.x.preferred < 2 ^ 32 = search rules in
    let valid : c.args.x.valid < 2 ^ 32 = search rules in
    rw (c.fits.ensures, c.encodable.ensures) (listed-encodes _ preferred valid)
