use Rattle.std.proofs.Common.{◌∙◌, subst, sym, arith, length}
use Rattle.laws.specs.Steps.{Stepped, stepped}
use Rattle.notes.specs.Noted.{Heard}
use Rattle.notes.proofs.Laws.{heard_all, heard-bad, heard-cut, size_fits, walked-counted, walked-past, walked_start}
use Rattle.notes.proofs.walked.Goals as goal

pub loop-code-init : goal.loop-code-init
loop-code-init c = walked_start c.args.msg.now c.nothing-client.ensures c.nothing-server.ensures c.nothing-pd.ensures

pub good-requires : goal.good-requires
good-requires c =
    -- the option that a turn found
    let found : Stepped c.args.msg.now c.loop-code.p (length c.args.msg.now) c.in-Opt.code c.in-Opt.start c.in-Opt.len c.in-Opt.next = stepped _ _ _ (cc) in
    omega (arith, found)

pub returns-then-not-good : goal.returns-then-not-good
returns-then-not-good c =
    let found : Stepped c.args.msg.now c.loop-code.p (length c.args.msg.now) c.in-Opt.code c.in-Opt.start c.in-Opt.len c.in-Opt.next = stepped _ _ _ (cc) in
    subst (Heard c.args.msg.now) (sym c.no_notes.ensures) (heard-bad c.args.msg.now found c.loop-code.invariant (sym c.good.ensures ∙ c.if-not-good.true))

pub asking-asks-requires : goal.asking-asks-requires
asking-asks-requires c =
    let found : Stepped c.args.msg.now c.loop-code.p (length c.args.msg.now) c.in-Opt.code c.in-Opt.start c.in-Opt.len c.in-Opt.next = stepped _ _ _ (cc) in
    omega (arith, found)

pub one_more-client-requires : goal.one_more-client-requires
one_more-client-requires c =
    let found : Stepped c.args.msg.now c.loop-code.p (length c.args.msg.now) c.in-Opt.code c.in-Opt.start c.in-Opt.len c.in-Opt.next = stepped _ _ _ (cc) in
    omega (arith, found, c.loop-code.invariant.clients.1, size_fits c.args.msg.now c.requires)

pub one_more-server-requires : goal.one_more-server-requires
one_more-server-requires c =
    let found : Stepped c.args.msg.now c.loop-code.p (length c.args.msg.now) c.in-Opt.code c.in-Opt.start c.in-Opt.len c.in-Opt.next = stepped _ _ _ (cc) in
    omega (arith, found, c.loop-code.invariant.servers.1, size_fits c.args.msg.now c.requires)

pub one_more-pd-requires : goal.one_more-pd-requires
one_more-pd-requires c =
    let found : Stepped c.args.msg.now c.loop-code.p (length c.args.msg.now) c.in-Opt.code c.in-Opt.start c.in-Opt.len c.in-Opt.next = stepped _ _ _ (cc) in
    omega (arith, found, c.loop-code.invariant.pds.1, size_fits c.args.msg.now c.requires)

pub loop-code-smaller-then-is_counted : goal.loop-code-smaller-then-is_counted
loop-code-smaller-then-is_counted c =
    let found : Stepped c.args.msg.now c.loop-code.p (length c.args.msg.now) c.in-Opt.code c.in-Opt.start c.in-Opt.len c.in-Opt.next = stepped _ _ _ (cc) in
    omega (arith, found)

pub loop-code-preserved-then-is_counted : goal.loop-code-preserved-then-is_counted
loop-code-preserved-then-is_counted c =
    let found : Stepped c.args.msg.now c.loop-code.p (length c.args.msg.now) c.in-Opt.code c.in-Opt.start c.in-Opt.len c.in-Opt.next = stepped _ _ _ (cc) in
    walked-counted c.args.msg.now found c.loop-code.invariant (sym c.good.ensures ∙ c.if-not-good.false) c.asking-asks.ensures c.one_more-client.ensures c.one_more-server.ensures c.one_more-pd.ensures

pub loop-code-smaller : goal.loop-code-smaller
loop-code-smaller c =
    let found : Stepped c.args.msg.now c.loop-code.p (length c.args.msg.now) c.in-Opt.code c.in-Opt.start c.in-Opt.len c.in-Opt.next = stepped _ _ _ (cc) in
    omega (arith, found)

pub loop-code-preserved : goal.loop-code-preserved
loop-code-preserved c =
    let found : Stepped c.args.msg.now c.loop-code.p (length c.args.msg.now) c.in-Opt.code c.in-Opt.start c.in-Opt.len c.in-Opt.next = stepped _ _ _ (cc) in
    walked-past c.args.msg.now found c.loop-code.invariant (sym c.good.ensures ∙ c.if-not-good.false) c.asking-asks.ensures (sym c.is_counted.ensures ∙ c.if-is_counted.false)

pub returns-in-End : goal.returns-in-End
returns-in-End c = subst (Heard c.args.msg.now) (sym c.whole.ensures) (heard_all c.args.msg.now c.loop-code.invariant (cc) c.requires)

pub returns-in-Bad : goal.returns-in-Bad
returns-in-Bad c = subst (Heard c.args.msg.now) (sym c.no_notes-in-Bad.ensures) (heard-cut c.args.msg.now c.loop-code.invariant (sym c.step_at.ensures ∙ c.in-Bad.is))
