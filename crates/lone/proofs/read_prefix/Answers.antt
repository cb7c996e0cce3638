-- The IA Prefix is read at the place of its content.
use Rattle.std.proofs.Common.{◌≡◌, ◌∙◌, ◌-◌, ap, arith, length, Err, rules}
use Rattle.rules.specs.Lone.{only, read_prefix}
use Rattle.rules.specs.Message.{listed_at}
use Rattle.rules.specs.Refusals.{done}
use Rattle.rules.specs.declared.Level.TheVariants.{InPd}
use Rattle.laws.specs.Formed.{judged-prefix}
use Rattle.lone.proofs.Laws.{Alone, alone-is, given, refused}
use Rattle.lone.proofs.read_prefix.Goals as goal

pub returns-in_err-alone : goal.returns-in_err-alone
unfolding read_prefix
returns-in_err-alone c =
    let e : c.from_residual.result ≡ Err c.in_err-alone.field-0.0 = search rules in
    rw e (refused InPd 26 c.args.text.now c.alone.ensures (λ t. listed_at t (only t)) c.in_err-alone.was)

pub prefix_at-requires : goal.prefix_at-requires
prefix_at-requires c =
    let one : Alone InPd 26 c.args.text.now = alone-is _ _ _ c.alone.ensures c.in_ok-alone.was in
    judged-prefix c.args.text.now 0 0 4 (length c.args.text.now - 4) (omega (arith, one)) one.good

pub returns : goal.returns
unfolding read_prefix
returns c = ap done c.prefix_at.ensures ∙ given InPd 26 c.args.text.now c.alone.ensures (λ t. listed_at t (only t)) c.in_ok-alone.was
