-- By the kind.
use Rattle.std.proofs.Common.{◌∙◌, refl, sym}
use Rattle.judge.proofs.Laws.{over-is, over-other}
use Rattle.judge.proofs.passed_over.Goals as goal

pub returns-in-Solicit : goal.returns-in-Solicit
returns-in-Solicit c = over-other _ _ _ c.requires.2 c.in-Solicit.is refl

pub returns-in-Request : goal.returns-in-Request
returns-in-Request c = over-other _ _ _ c.requires.2 c.in-Request.is refl

pub returns-in-Renew : goal.returns-in-Renew
returns-in-Renew c = over-other _ _ _ c.requires.2 c.in-Renew.is refl

pub returns-in-Rebind : goal.returns-in-Rebind
returns-in-Rebind c = over-is _ _ _ _ c.requires.0 c.requires.3.is (sym c.in-Rebind.is ∙ c.requires.2) c.client_of.ensures c.silent.ensures

pub returns-in-Release : goal.returns-in-Release
returns-in-Release c = over-other _ _ _ c.requires.2 c.in-Release.is refl
