use Rattle.decide.proofs.Laws.{size, of-kind, unbound-neither, unbound-return, unbound-silence}
use Rattle.decide.proofs.unbound.Goals as goal

pub all_gone-requires : goal.all_gone-requires
all_gone-requires c = (size _ c.requires.0, c.requires.2)

pub returns-in-Solicit : goal.returns-in-Solicit
returns-in-Solicit c = of-kind _ _ _ _ c.in-Solicit.is (c.solicited.ensures _)

pub returns-in-Request : goal.returns-in-Request
returns-in-Request c = of-kind _ _ _ _ c.in-Request.is c.requested.ensures

pub returns-in-Renew : goal.returns-in-Renew
returns-in-Renew c = unbound-neither _ _ _ _ c.in-Renew.is

pub returns-then-all_gone : goal.returns-then-all_gone
returns-then-all_gone c = of-kind _ _ _ _ c.in-Rebind.is (unbound-return _ _ _ _ c.all_gone.ensures c.if-all_gone.true)

pub returns-else-all_gone : goal.returns-else-all_gone
returns-else-all_gone c = of-kind _ _ _ _ c.in-Rebind.is (unbound-silence _ _ _ _ c.all_gone.ensures c.if-all_gone.false)
