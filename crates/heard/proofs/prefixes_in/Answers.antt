use Rattle.std.proofs.Common.{refl, sym, ◌∙◌, ◌+◌, ◌<◌, arith}
use borrow.Author.Rules.{rules}
use Rattle.laws.specs.Steps.{Stepped, stepped, ended, broke}
use Rattle.heard.proofs.Laws.{filled-past, filled-formed, filled_next, filled-end, filled-five}
use Rattle.heard.proofs.prefixes_in.Goals as goal

pub loop-count-init : goal.loop-count-init
loop-count-init c = record { size = refl; few = omega arith; left = refl; whole = refl }

pub prefix_at-requires : goal.prefix_at-requires
prefix_at-requires c =
    -- the option that a turn found
    let found : Stepped c.args.msg.now c.loop-count.p (c.args.start + c.args.len) c.in-Opt.code c.in-Opt.s c.in-Opt.n c.in-Opt.next = stepped _ _ _ (cc) in
    filled-formed _ _ _ c.loop-count.invariant found c.if-code-eq26.true c.requires

pub offset_bounds-prefixes-count : goal.offset_bounds-prefixes-count
offset_bounds-prefixes-count c =
    -- there is room for one more
    let fits : c.loop-count.count < 5 = c.loop-count-test.true in
    let h = fits in search rules

pub bounds-prefixes-count : goal.bounds-prefixes-count
bounds-prefixes-count c =
    let fits : c.loop-count.count < 5 = c.loop-count-test.true in
    omega (arith, fits)

pub overflow_add-count : goal.overflow_add-count
overflow_add-count c =
    let fits : c.loop-count.count < 5 = c.loop-count-test.true in
    omega (arith, fits)

pub loop-count-smaller-then-code-eq26 : goal.loop-count-smaller-then-code-eq26
loop-count-smaller-then-code-eq26 c =
    let found : Stepped c.args.msg.now c.loop-count.p (c.args.start + c.args.len) c.in-Opt.code c.in-Opt.s c.in-Opt.n c.in-Opt.next = stepped _ _ _ (cc) in
    omega (arith, found)

pub loop-count-preserved-then-code-eq26 : goal.loop-count-preserved-then-code-eq26
loop-count-preserved-then-code-eq26 c =
    let found : Stepped c.args.msg.now c.loop-count.p (c.args.start + c.args.len) c.in-Opt.code c.in-Opt.s c.in-Opt.n c.in-Opt.next = stepped _ _ _ (cc) in
    let fits : c.loop-count.count < 5 = c.loop-count-test.true in
    filled_next _ _ _ c.loop-count.invariant found c.if-code-eq26.true _ fits c.prefix_at.ensures

pub loop-count-smaller : goal.loop-count-smaller
loop-count-smaller c =
    let found : Stepped c.args.msg.now c.loop-count.p (c.args.start + c.args.len) c.in-Opt.code c.in-Opt.s c.in-Opt.n c.in-Opt.next = stepped _ _ _ (cc) in
    omega (arith, found)

pub loop-count-preserved : goal.loop-count-preserved
loop-count-preserved c =
    let found : Stepped c.args.msg.now c.loop-count.p (c.args.start + c.args.len) c.in-Opt.code c.in-Opt.s c.in-Opt.n c.in-Opt.next = stepped _ _ _ (cc) in
    filled-past _ _ _ c.loop-count.invariant found c.if-code-eq26.false

pub returns-in-End : goal.returns-in-End
returns-in-End c = filled-end _ _ _ c.loop-count.invariant (ended c.args.msg.now c.loop-count.p (c.args.start + c.args.len) (cc))

pub returns-in-Bad : goal.returns-in-Bad
returns-in-Bad c = filled-end _ _ _ c.loop-count.invariant (broke c.args.msg.now c.loop-count.p (c.args.start + c.args.len) (sym c.step_at.ensures ∙ c.in-Bad.is))

pub returns : goal.returns
returns c = filled-five _ _ _ c.loop-count.invariant c.loop-count-test.false
