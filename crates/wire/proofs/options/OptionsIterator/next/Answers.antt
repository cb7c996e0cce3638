-- By what a turn finds.
use Rattle.std.specs.Prelude.{◌≡◌, []}
use Rattle.std.proofs.Common.{◌∙◌, ap, arith, length}
use Rattle.laws.specs.Steps.{Stepped, options-here, options-past, stepped}
use Rattle.wire.proofs.Spots.{stops}
use Rattle.wire.specs.Spots.{left, there}
use Rattle.wire.proofs.options.OptionsIterator.next.Goals as goal

pub returns-then-code-self-clause-steps : goal.returns-then-code-self-clause-steps
returns-then-code-self-clause-steps c =
    let found : Stepped c.loop-code.self.msg.now c.loop-code.self.at c.loop-code.self.end c.in-Opt.code c.in-Opt.start c.in-Opt.len c.in-Opt.next = stepped _ _ _ (cc) in
    c.loop-code.invariant ∙ ap there (options-here _ found c.if-code-self.true)

pub returns-then-code-self-clause-goes : goal.returns-then-code-self-clause-goes
returns-then-code-self-clause-goes c =
    let found : Stepped c.loop-code.self.msg.now c.loop-code.self.at c.loop-code.self.end c.in-Opt.code c.in-Opt.start c.in-Opt.len c.in-Opt.next = stepped _ _ _ (cc) in
    let fewer = ap length (c.loop-code.invariant ∙ ap there (options-here _ found c.if-code-self.true)) in
    record { on = λ f. (tt, tt, omega (arith, fewer)); keeps = tt; rests = λ f. tt }

pub loop-code-preserved : goal.loop-code-preserved
loop-code-preserved c =
    let found : Stepped c.loop-code.self.msg.now c.loop-code.self.at c.loop-code.self.end c.in-Opt.code c.in-Opt.start c.in-Opt.len c.in-Opt.next = stepped _ _ _ (cc) in
    c.loop-code.invariant ∙ ap there (options-past _ found c.if-code-self.false)

pub returns-in-End : goal.returns-in-End
returns-in-End c =
    let none : left c.loop-code.self ≡ [] = ap there ((stops c.loop-code.self.msg.now c.loop-code.self.at c.loop-code.self.end c.step_at.ensures c.in-End.is).none _) in
    record { steps = (c.loop-code.invariant ∙ none, none); goes = record { on = λ f. tt; keeps = tt; rests = λ f. tt } }
