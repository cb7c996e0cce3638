-- An option that was found lies in the message; its content is that part of it.
use Rattle.std.proofs.Common.{◌∙◌, ap, sym, ◌+◌, ◌≤◌, arith, length}
use Rattle.rules.specs.Options.{content}
use Rattle.wire.proofs.Laws.{stretch}
use Rattle.wire.proofs.find.content.Goals as goal

pub overflow_add-result : goal.overflow_add-result
overflow_add-result c =
    let inside : c.in-Some.o.start + c.in-Some.o.len ≤ length c.args.msg.now = (rw c.in-Some.is at c.requires) in
    omega (arith, inside)

pub slice_bounds-result-end : goal.slice_bounds-result-end
slice_bounds-result-end c = (rw c.in-Some.is at c.requires)

pub returns-in-Some : goal.returns-in-Some
returns-in-Some c = stretch c.args.msg.now _ _ ∙ ap (content c.args.msg.now) (sym c.in-Some.is)

pub returns-in-None : goal.returns-in-None
returns-in-None c = ap (content c.args.msg.now) (sym c.in-None.is)
