-- `good_open`: what each kind wants.
use Rattle.std.proofs.Common.{ap, sym, ◌∙◌}
use Rattle.rules.specs.Identity.{type_of}
use Rattle.rules.specs.declared.Kind.TheVariants.{Solicit, Request, Rebind}
use Rattle.state.proofs.Laws.{exchange-kind, exchange-both}
use Rattle.state.proofs.good_open.Goals as goal

pub returns-in-Solicit : goal.returns-in-Solicit
returns-in-Solicit c = c.all_zero.ensures ∙ sym (exchange-kind _ Solicit (c.requires ∙ ap type_of c.in-Solicit.is) c.get-server.ensures.0)

pub returns-in-Request : goal.returns-in-Request
returns-in-Request c = rw c.all_zero-in-Request.ensures (sym (exchange-kind _ Request (c.requires ∙ ap type_of c.in-Request.is) c.get-server.ensures.0))

pub returns-in-Rebind : goal.returns-in-Rebind
returns-in-Rebind c = c.good_lease.ensures ∙ sym (exchange-kind _ Rebind (c.requires ∙ ap type_of c.in-Rebind.is) c.get-server.ensures.0)

pub returns-in-Renew : goal.returns-in-Renew
returns-in-Renew c = rw c.good_lease-in-Renew.ensures (sym (exchange-both _ c.in-Renew.is c.requires c.get-server.ensures.0))
