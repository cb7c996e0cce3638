use Rattle.std.proofs.Common.{◌∙◌}
use Rattle.requester.proofs.Message.{count-wanted, count-one}
use Rattle.requester.proofs.writing.count_of.Goals as goal

-- None only where no length is wanted.
pub returns-in-Solicit : goal.returns-in-Solicit
returns-in-Solicit c = c.from.ensures ∙ count-wanted _ c.requires c.kind_of.ensures c.in-Solicit.is c.get.ensures.0

pub returns-in-Renew : goal.returns-in-Renew
returns-in-Renew c = count-one _ c.requires c.kind_of.ensures c.in-Renew.is
