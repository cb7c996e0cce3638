-- One step: each answer by the tests on the way to it.
use Rattle.std.proofs.Common.{◌≡◌, ◌∙◌, ◌+◌, arith, le-leb, le-ltb, lt-ltb}
use Rattle.std.proofs.lemmas.Bool.{lt-leb}
use Rattle.rules.specs.Words.{u16_at}
use Rattle.wire.proofs.Laws.{two_bytes}
use Rattle.wire.proofs.walk.step_at.Goals as goal

pub returns-then-end-at : goal.returns-then-end-at
returns-then-end-at c = simp (le-leb _ _ c.if-end-at.true)

pub returns-then-end-at-lt4 : goal.returns-then-end-at-lt4
returns-then-end-at-lt4 c = simp (lt-leb _ _ c.if-end-at.false, lt-ltb _ _ c.if-end-at-lt4.true)

pub returns-then-end-at-2 : goal.returns-then-end-at-2
returns-then-end-at-2 c =
    -- the length that was read
    let size : c.get-len.result ≡ u16_at c.args.msg.now (c.args.at + 2) = c.get-len.ensures.0 ∙ two_bytes c.args.msg.now (c.args.at + 2) (λ i. (c.type_inv.msg i).fits) (omega (arith, c.requires, c.if-end-at.false, c.if-end-at-lt4.false)) in
    simp (lt-leb _ _ c.if-end-at.false, le-ltb _ _ c.if-end-at-lt4.false, ← size, lt-ltb _ _ c.if-end-at-2.true)

pub returns : goal.returns
returns c =
    let size : c.get-len.result ≡ u16_at c.args.msg.now (c.args.at + 2) = c.get-len.ensures.0 ∙ two_bytes c.args.msg.now (c.args.at + 2) (λ i. (c.type_inv.msg i).fits) (omega (arith, c.requires, c.if-end-at.false, c.if-end-at-lt4.false)) in
    let code = c.get-code.ensures.0 ∙ two_bytes c.args.msg.now c.args.at (λ i. (c.type_inv.msg i).fits) (omega (arith, c.requires, c.if-end-at.false, c.if-end-at-lt4.false)) in
    simp (lt-leb _ _ c.if-end-at.false, le-ltb _ _ c.if-end-at-lt4.false, ← size, ← code, le-ltb _ _ c.if-end-at-2.false)
