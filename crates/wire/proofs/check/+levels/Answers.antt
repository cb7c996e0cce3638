use Rattle.std.specs.Prelude.{◌≡◌, Err}
use Rattle.std.proofs.Common.{rules, ◌∙◌, sym, arith, eq-eqb, le-leb}
use Rattle.rules.specs.Options.{check, check_pd, check_prefix, own}
use Rattle.laws.specs.Steps.{Stepped, scan-broken, scan-past, scan-seen, stepped}
use Rattle.laws.specs.Walk.{scan-bad, scan-end}
use Rattle.wire.proofs.Laws.{not-exclude, other-good, own_is}
use Rattle.wire.proofs.check.+levels.Goals as goal

pub check_area-returns-in_err-check_one-in-Opt : goal.check_area-returns-in_err-check_one-in-Opt
unfolding check
check_area-returns-in_err-check_one-in-Opt t c =
    let found : Stepped c.args.msg.now c.loop-code.p c.args.end c.in-Opt.code c.in-Opt.start c.in-Opt.len c.in-Opt.next = stepped _ _ _ (cc) in
    let e : c.from_residual.result ≡ Err c.in_err-check_one-in-Opt.field-0.0 = search rules in
    sym (c.loop-code.invariant.1 ∙ scan-broken _ _ found (sym c.check_one.ensures ∙ c.in_err-check_one-in-Opt.was) ∙ sym e)

pub check_area-loop-code-preserved-then-code-eq67 : goal.check_area-loop-code-preserved-then-code-eq67
check_area-loop-code-preserved-then-code-eq67 t c =
    let found : Stepped c.args.msg.now c.loop-code.p c.args.end c.in-Opt.code c.in-Opt.start c.in-Opt.len c.in-Opt.next = stepped _ _ _ (cc) in
    (omega (arith, found), c.loop-code.invariant.1 ∙ scan-seen _ _ found (sym c.check_one.ensures ∙ c.in_ok-check_one-in-Opt.was) c.if-code-eq67.true)

pub check_area-loop-code-preserved-else-code-eq67 : goal.check_area-loop-code-preserved-else-code-eq67
check_area-loop-code-preserved-else-code-eq67 t c =
    let found : Stepped c.args.msg.now c.loop-code.p c.args.end c.in-Opt.code c.in-Opt.start c.in-Opt.len c.in-Opt.next = stepped _ _ _ (cc) in
    (omega (arith, found), c.loop-code.invariant.1 ∙ scan-past _ _ found (sym c.check_one.ensures ∙ c.in_ok-check_one-in-Opt.was) c.if-code-eq67.false)

-- a code that isn't judged
pub check_area-loop-code-preserved : goal.check_area-loop-code-preserved
check_area-loop-code-preserved t c =
    let found : Stepped c.args.msg.now c.loop-code.p c.args.end c.in-Opt.code c.in-Opt.start c.in-Opt.len c.in-Opt.next = stepped _ _ _ (cc) in
    let h = sym c.is_judged.ensures ∙ c.if-is_judged.false in
    (omega (arith, found), c.loop-code.invariant.1 ∙ scan-past _ _ found (other-good _ h _ _ _ _ _ _) (not-exclude _ h))

pub check_area-returns-in-End : goal.check_area-returns-in-End
unfolding check
check_area-returns-in-End t c = sym (c.loop-code.invariant.1 ∙ scan-end _ _ _ _ _ (cc))

pub check_area-returns-in-Bad : goal.check_area-returns-in-Bad
unfolding check
check_area-returns-in-Bad t c = sym (c.loop-code.invariant.1 ∙ scan-bad _ _ _ _ _ (cc))

pub check_one-returns-in-Top : goal.check_one-returns-in-Top
unfolding own
check_one-returns-in-Top t c = own_is c.args.msg.now c.args.seen c.args.o.place c.args.code c.args.o.start c.args.o.len c.in-Top.is c.in_top.ensures

pub check_one-returns-in-InPd : goal.check_one-returns-in-InPd
unfolding own
check_one-returns-in-InPd t c = own_is c.args.msg.now c.args.seen c.args.o.place c.args.code c.args.o.start c.args.o.len c.in-InPd.is c.in_pd.ensures

pub check_one-returns-in-InPrefix : goal.check_one-returns-in-InPrefix
unfolding own
check_one-returns-in-InPrefix t c = own_is c.args.msg.now c.args.seen c.args.o.place c.args.code c.args.o.start c.args.o.len c.in-InPrefix.is c.in_prefix.ensures

pub in_pd-returns-then-code-eq26 : goal.in_pd-returns-then-code-eq26
unfolding check own check_prefix
in_pd-returns-then-code-eq26 t c =
    c.check_area.ensures ∙ simp (eq-eqb _ _ c.if-code-eq26.true, le-leb _ _ c.if-o-lt25.false, ← c.u8_at-a.ensures.0, le-leb _ _ c.if-a-gt128.false)

pub in_top-returns-then-code-eq25 : goal.in_top-returns-then-code-eq25
unfolding check own check_pd
in_top-returns-then-code-eq25 t c = c.check_area.ensures ∙ simp (eq-eqb _ _ c.if-code-eq25.true, le-leb _ _ c.if-o-lt12.false)
