-- Each test in turn, then the bytes of the hold.
use Rattle.std.proofs.Common.{rules, ◌≡◌, ap, refl, ◌∙◌, arith}
use Rattle.std.specs.Prelude.{Err}
use Rattle.rules.specs.Lent.{ended, word_of}
use Rattle.laws.specs.Refusals.{refused_by}
use Rattle.state.specs.Facts.{stopped, passed, state-sound, state-size}
use Rattle.requester.proofs.Acting.{held-refused, held-2, held-0, shown-refused, shown-2, shown-none, shown-held}
use Rattle.requester.proofs.showing.held.Goals as goal

pub returns-in_err-by_state-clause-word : goal.returns-in_err-by_state-clause-word
returns-in_err-by_state-clause-word c =
    let e : c.from_residual.result ≡ Err c.in_err-by_state.field-0.0 = search rules in
    ap (λ r. ended (word_of r) c.args.t.now c.args.out.now) e ∙ shown-refused _ _ _ _ (stopped c.by_state.ensures c.in_err-by_state.was)

pub returns-in_err-by_state-clause-refusal : goal.returns-in_err-by_state-clause-refusal
returns-in_err-by_state-clause-refusal c =
    let e : c.from_residual.result ≡ Err c.in_err-by_state.field-0.0 = search rules in
    ap refused_by e ∙ held-refused _ _ c.args.out.now _ (stopped c.by_state.ensures c.in_err-by_state.was)

pub returns-then-out-lt42-clause-word : goal.returns-then-out-lt42-clause-word
returns-then-out-lt42-clause-word c = shown-2 _ _ _ (passed c.by_state.ensures c.in_ok-by_state.was) c.if-out-lt42.true

pub returns-then-out-lt42-clause-refusal : goal.returns-then-out-lt42-clause-refusal
returns-then-out-lt42-clause-refusal c = held-2 _ _ c.args.out.now (passed c.by_state.ensures c.in_ok-by_state.was) c.if-out-lt42.true

pub is_held-requires : goal.is_held-requires
is_held-requires c = state-sound _ _ (passed c.by_state.ensures c.in_ok-by_state.was) refl

pub returns-then-not-is_held-clause-word : goal.returns-then-not-is_held-clause-word
returns-then-not-is_held-clause-word c = shown-none _ _ _ (passed c.by_state.ensures c.in_ok-by_state.was) c.if-out-lt42.false c.is_held.ensures c.if-not-is_held.true

pub returns-then-not-is_held-clause-refusal : goal.returns-then-not-is_held-clause-refusal
returns-then-not-is_held-clause-refusal c = held-0 _ _ c.args.out.now (passed c.by_state.ensures c.in_ok-by_state.was) c.if-out-lt42.false

pub slice_bounds-copy-end : goal.slice_bounds-copy-end
slice_bounds-copy-end c = omega (arith, state-size _ _ (passed c.by_state.ensures c.in_ok-by_state.was) refl)

pub returns-clause-word : goal.returns-clause-word
returns-clause-word c = shown-held _ _ _ (passed c.by_state.ensures c.in_ok-by_state.was) c.if-out-lt42.false c.is_held.ensures c.if-not-is_held.false c.copy.ensures

pub returns-clause-refusal : goal.returns-clause-refusal
returns-clause-refusal c = held-0 _ _ c.args.out.now (passed c.by_state.ensures c.in_ok-by_state.was) c.if-out-lt42.false
