use Rattle.requester.proofs.Message.{first-wanted, first-carried}
use Rattle.requester.proofs.writing.first_of.Goals as goal

-- By the kind.
pub returns-in-Solicit : goal.returns-in-Solicit
returns-in-Solicit c = first-wanted _ c.requires c.kind_of.ensures c.in-Solicit.is c.wanted.ensures

pub returns-in-Renew : goal.returns-in-Renew
returns-in-Renew c = first-carried _ c.requires c.kind_of.ensures c.in-Renew.is c.carried.ensures
