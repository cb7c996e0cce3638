use borrow.Author.Rules.{rules}
use Rattle.ranks.specs.Clear.{between}
use Rattle.sound.proofs.Laws.{keys-told}
use Rattle.sound.proofs.all_clear.Goals as goal

pub returns-then-plain : goal.returns-then-plain
returns-then-plain c = keys-told _ _ _ _ _ c.args.area c.requires.2 (λ i. (c.type_inv.t i).fits) (search rules) (search rules) (search rules) c.requires.4 c.put_keys.ensures (c.plain.ensures c.if-plain.true)

pub returns-then-not-area : goal.returns-then-not-area
returns-then-not-area c = rw c.if-not-area.true c.no_name_twice.ensures

pub apart-requires : goal.apart-requires
apart-requires c = (search rules, search rules, between _ _ _ _ c.requires.2 _ c.put_keys-2.ensures)

pub returns : goal.returns
returns c = rw c.if-not-area.false c.apart.ensures
