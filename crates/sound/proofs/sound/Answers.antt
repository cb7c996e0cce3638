use Rattle.std.proofs.Common.{sym, ◌∙◌}
use borrow.Author.Rules.{rules}
use Rattle.sound.proofs.Laws.{other-size, too_many, bad-rows, sound-read}
use Rattle.sound.proofs.sound.Goals as goal

pub returns-then-t-ne39344 : goal.returns-then-t-ne39344
returns-then-t-ne39344 c = other-size _ c.if-t-ne39344.true

pub returns-then-n-gt256 : goal.returns-then-n-gt256
returns-then-n-gt256 c = too_many _ (λ i. (c.type_inv.t i).fits) _ c.count_of-n.ensures c.if-t-ne39344.false c.if-n-gt256.true

pub returns-then-not-rows_good : goal.returns-then-not-rows_good
returns-then-not-rows_good c = bad-rows _ (λ i. (c.type_inv.t i).fits) _ c.count_of-n.ensures c.if-t-ne39344.false c.if-n-gt256.false c.rows_good.ensures c.if-not-rows_good.true

pub no_two-requires : goal.no_two-requires
no_two-requires c = (search rules, search rules, sym c.rows_good.ensures ∙ c.if-not-rows_good.false)

pub returns : goal.returns
returns c = sound-read _ (λ i. (c.type_inv.t i).fits) _ c.count_of-n.ensures c.if-t-ne39344.false c.if-n-gt256.false c.rows_good.ensures c.if-not-rows_good.false c.good_header.ensures c.no_two.ensures c.all_zero.ensures c.last_of.ensures
