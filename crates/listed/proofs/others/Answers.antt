use Rattle.std.proofs.Common.{◌≡◌, refl, sym, ap, ◌∙◌, ◌≤◌, arith, length}
use borrow.Author.Rules.{rules}
use lib.ListN.{length-set}
use Rattle.rules.specs.Box.{others}
use Rattle.prefix.specs.Upper.{upper}
use Rattle.values.specs.Values.{first_listed}
use Rattle.values.specs.Listed.{rest_listed, put_next}
use Rattle.listed.proofs.Laws.{other-put, other-skip, others-done}
use Rattle.listed.proofs.others.Goals as goal
use Rattle.listed.proofs.others.Goals.{then-not-is_prefix, else-not-is_prefix}

pub loop-i-init : goal.loop-i-init
unfolding rest_listed
loop-i-init c = (omega arith, search rules, refl)

pub loop-i-preserved : goal.loop-i-preserved
loop-i-preserved c =
    let long : c.args.n ≤ length c.args.ps = let l : length c.args.ps ≡ 5 = search rules in omega (arith, c.requires) in
    elim c.if-not-is_prefix.branch [
      | then-not-is_prefix w ↦ (
        omega arith,
        ap length w.out-is ∙ simp length-set c.loop-i.invariant.1,
        other-put _ _ _ long _ _ _ c.loop-i.invariant.2 _ c.loop-i-test.true (omega arith) w.out-is w.k-is (sym c.is_prefix.ensures ∙ w.if-not-is_prefix.true) w.returned.ensures,
      )
      | else-not-is_prefix w ↦ (
        omega arith,
        ap length w.out-is ∙ c.loop-i.invariant.1,
        other-skip _ _ _ long _ _ _ c.loop-i.invariant.2 c.loop-i-test.true w.out-is w.k-is (sym c.is_prefix.ensures ∙ w.if-not-is_prefix.false),
      )
    ]

pub returns : goal.returns
returns c =
    let long : c.args.n ≤ length c.args.ps = let l : length c.args.ps ≡ 5 = search rules in omega (arith, c.requires) in (
      others-done c.loop-i.i c.args.n c.args.ps long (upper c.args.p c.args.a) c.loop-i.k c.loop-i.out c.loop-i.invariant.2 c.loop-i-test.false
          ∙ put_next 0 c.args.ps c.args.first (search rules) (others (upper c.args.p c.args.a) (first_listed c.args.n c.args.ps)) refl,
      search rules,
    )
