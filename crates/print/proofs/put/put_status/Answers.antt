-- Each status by its name.
use Rattle.std.proofs.Common.{sym}
use borrow.Author.Rules.{rules}
use Rattle.laws.specs.Writes.{wrote_as}
use Rattle.rules.specs.Message.{name_of}
use Rattle.print.proofs.Laws.{status-named, status-nameless}
use Rattle.print.proofs.put.put_status.Goals as goal

pub put_named-requires : goal.put_named-requires
unfolding name_of
put_named-requires c = (
  c.requires.0,
  search rules,
  rw (status-named _ 0 c.if-k-eq0.true) at c.requires.1,
)

pub returns-then-k-eq0 : goal.returns-then-k-eq0
unfolding name_of
returns-then-k-eq0 c = wrote_as (sym (status-named _ 0 c.if-k-eq0.true)) c.put_named.ensures

pub put_named-requires-then-k-eq3 : goal.put_named-requires-then-k-eq3
unfolding name_of
put_named-requires-then-k-eq3 c = (
  c.requires.0,
  search rules,
  rw (status-named _ 3 c.if-k-eq3.true) at c.requires.1,
)

pub returns-then-k-eq3 : goal.returns-then-k-eq3
unfolding name_of
returns-then-k-eq3 c = wrote_as (sym (status-named _ 3 c.if-k-eq3.true)) c.put_named-then-k-eq3.ensures

pub put_named-requires-then-k-eq6 : goal.put_named-requires-then-k-eq6
unfolding name_of
put_named-requires-then-k-eq6 c = (
  c.requires.0,
  search rules,
  rw (status-named _ 6 c.if-k-eq6.true) at c.requires.1,
)

pub returns-then-k-eq6 : goal.returns-then-k-eq6
unfolding name_of
returns-then-k-eq6 c = wrote_as (sym (status-named _ 6 c.if-k-eq6.true)) c.put_named-then-k-eq6.ensures

pub put_named-requires-2 : goal.put_named-requires-2
put_named-requires-2 c = (
  c.requires.0,
  search rules,
  rw (status-nameless _ c.if-k-eq0.false c.if-k-eq3.false c.if-k-eq6.false) at c.requires.1,
)

pub returns : goal.returns
returns c = wrote_as (sym (status-nameless _ c.if-k-eq0.false c.if-k-eq3.false c.if-k-eq6.false))
    c.put_named-2.ensures
