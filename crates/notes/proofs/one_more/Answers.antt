use Rattle.notes.proofs.Laws.{note-first, note-later, note-past}
use Rattle.notes.proofs.one_more.Goals as goal

-- By the option that comes.
pub returns-then-code-w : goal.returns-then-code-w
returns-then-code-w c = note-past c.args.w c.args.o.place c.args.code c.args.o.start c.args.o.len c.args.x c.if-code-w.true

pub returns-then-x-eq0 : goal.returns-then-x-eq0
returns-then-x-eq0 c = note-first c.args.w c.args.o.place c.args.code c.args.o.start c.args.o.len c.args.x c.if-code-w.false c.if-x-eq0.true

pub returns : goal.returns
returns c = note-later c.args.w c.args.o.place c.args.code c.args.o.start c.args.o.len c.args.x c.if-code-w.false c.if-x-eq0.false
