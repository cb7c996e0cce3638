use Rattle.std.proofs.Common.{◌≡◌, refl, arith, length, rules}
use Rattle.decide.proofs.Laws.{size, choice-asks, choice-is}
use Rattle.decide.proofs.choice.Goals as goal

pub count_of-requires : goal.count_of-requires
count_of-requires c = size _ c.requires.0

pub invariant_of-c : goal.invariant_of-c
invariant_of-c c =
    let a = choice-asks _ c.requires.0 _ c.requires.1 _ c.count_of.ensures in
    record {
      few = a.few;
      room = a.room;
      aligned = a.aligned;
      short = a.short;
      some = a.some;
      zeros = a.zeros;
      pool_shortest = a.pool_shortest;
      shortest_standard = a.shortest_standard;
      standard_60 = a.standard_60;
    }

pub returns : goal.returns
returns c =
    let five : length c.args.ps ≡ 5 = search rules in
    choice-is _ c.requires.0 c.args.s c.requires.1 _ c.count_of.ensures refl refl refl c.args.ps _ c.args.n (omega arith) c.high.ensures c.low.ensures c.then_some.ensures c.choose.ensures
