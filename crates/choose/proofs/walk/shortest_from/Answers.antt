use Rattle.std.proofs.Common.{sym, ap, ◌∙◌, arith, option_map, ◌*◌, ◌^◌}
use Rattle.laws.specs.Choosing.{longer-turn, longer-end}
use Rattle.choose.proofs.walk.shortest_from.Goals as goal

pub returns-in-Some : goal.returns-in-Some
returns-in-Some c = sym (c.loop-a.invariant ∙ longer-turn _ _ _ (omega arith) (sym c.lowest.ensures ∙ ap (option_map (λ x. x * 2 ^ 64)) c.in-Some.is))

pub loop-a-preserved : goal.loop-a-preserved
loop-a-preserved c = c.loop-a.invariant ∙ longer-turn _ _ _ (omega arith) (sym c.lowest.ensures ∙ ap (option_map (λ x. x * 2 ^ 64)) c.in_default.is)

pub returns : goal.returns
returns c = sym (c.loop-a.invariant ∙ longer-end _ _ _ (omega arith))
