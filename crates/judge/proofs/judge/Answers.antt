-- Each part of the tests in turn.
use Rattle.std.proofs.Common.{rules, ◌≡◌, refl, Err}
use Rattle.laws.specs.Refusals.{goes, passed_on}
use Rattle.judge.proofs.Laws.{judged-table, is-sound, judged-2, judged-form, noted, formed, judged-ids, understood, judged-8, judged-0}
use Rattle.judge.proofs.judge.Goals as goal

pub returns-in_err-by_table : goal.returns-in_err-by_table
returns-in_err-by_table c =
    let e : c.from_residual.result ≡ Err c.in_err-by_table.field-0.0 = search rules in
    rw e (passed_on c.in_err-by_table.was (judged-table _ _ _ _ c.by_table.ensures), tt)

pub returns-then-room-lt512 : goal.returns-then-room-lt512
returns-then-room-lt512 c = (judged-2 _ _ _ _ c.by_table.ensures (goes c.in_ok-by_table.was) c.if-room-lt512.true, tt)

pub returns-in_err-kind : goal.returns-in_err-kind
returns-in_err-kind c =
    let e : c.from_residual-in_err-kind.result ≡ Err c.in_err-kind.field-0.0 = search rules in
    rw e (passed_on c.in_err-kind.was (judged-form _ _ _ _ c.by_table.ensures (goes c.in_ok-by_table.was) c.if-room-lt512.false c.by_form.ensures.0), tt)

pub by_ids-requires : goal.by_ids-requires
by_ids-requires c = (
  is-sound _ c.args.msg.now _ c.args.room c.by_table.ensures (goes c.in_ok-by_table.was),
  formed _ _ _ c.args.room c.by_table.ensures (goes c.in_ok-by_table.was) c.if-room-lt512.false c.by_form.ensures.0 (goes c.in_ok-kind.was) refl,
  noted _ _ _ c.args.room c.by_table.ensures (goes c.in_ok-by_table.was) c.if-room-lt512.false c.by_form.ensures.0 (goes c.in_ok-kind.was) refl c.args.s c.requires,
)

pub returns-in_err-pd : goal.returns-in_err-pd
returns-in_err-pd c =
    let e : c.from_residual-in_err-pd.result ≡ Err c.in_err-pd.field-0.0 = search rules in
    rw e (passed_on c.in_err-pd.was (judged-ids _ _ _ _ c.by_table.ensures (goes c.in_ok-by_table.was) c.if-room-lt512.false c.by_form.ensures.0 (goes c.in_ok-kind.was) c.by_ids.ensures.0), tt)

pub passed_over-requires : goal.passed_over-requires
passed_over-requires c = (
  understood _ _ _ c.args.room c.by_table.ensures (goes c.in_ok-by_table.was) c.if-room-lt512.false c.by_form.ensures.0 (goes c.in_ok-kind.was) c.by_ids.ensures.0 (goes c.in_ok-pd.was),
  noted _ _ _ c.args.room c.by_table.ensures (goes c.in_ok-by_table.was) c.if-room-lt512.false c.by_form.ensures.0 (goes c.in_ok-kind.was) refl c.args.s c.requires,
  c.in_ok-kind.ensures.1,
  c.in_ok-pd.ensures.1,
)

pub returns-then-passed_over : goal.returns-then-passed_over
returns-then-passed_over c =
    (judged-8 _ _ _ _ c.by_table.ensures (goes c.in_ok-by_table.was) c.if-room-lt512.false c.by_form.ensures.0 (goes c.in_ok-kind.was) c.by_ids.ensures.0 (goes c.in_ok-pd.was) c.passed_over.ensures c.if-passed_over.true, tt)

pub returns : goal.returns
returns c =
    (judged-0 _ _ _ _ c.by_table.ensures (goes c.in_ok-by_table.was) c.if-room-lt512.false c.by_form.ensures.0 (goes c.in_ok-kind.was) c.by_ids.ensures.0 (goes c.in_ok-pd.was) c.passed_over.ensures c.if-passed_over.false, c.in_ok-pd.ensures.1)
