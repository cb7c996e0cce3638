use Rattle.std.proofs.Common.{◌<◌, arith, rules}
use Rattle.decide.proofs.Laws.{size, few, within, found-there, live-there}
use Rattle.decide.proofs.is_live.Goals as goal

pub count_of-requires : goal.count_of-requires
count_of-requires c = size _ c.requires

pub find-requires : goal.find-requires
find-requires c = (omega (arith, few _ c.requires), size _ c.requires)

pub is_some_and-requires : goal.is_some_and-requires
is_some_and-requires c =
    let z = size _ c.requires in
    λ k e. let w : k < 256 = within _ c.requires (found-there _ _ _ c.count_of.ensures _ c.find.ensures e) in search rules

pub returns : goal.returns
returns c = live-there _ c.requires _ _ c.count_of.ensures _ c.find.ensures c.is_some_and.ensures (λ k p. search rules)
