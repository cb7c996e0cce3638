-- The excluded prefix is what the content unpacks to.
use Rattle.std.proofs.Common.{◌≡◌, ◌∙◌, ◌-◌, ap, arith, get_or, length, Err, rules}
use Rattle.rules.specs.Lone.{read_exclude}
use Rattle.rules.specs.Prefix.{prefix, unpacked}
use Rattle.rules.specs.Refusals.{done}
use Rattle.rules.specs.Words.{num, num_at}
use Rattle.rules.specs.declared.Level.TheVariants.{InPrefix}
use Rattle.laws.specs.Formed.{judged-exclude}
use Rattle.lone.proofs.Laws.{Alone, alone-is, exclude-read, given, refused}
use Rattle.lone.proofs.read_exclude.Goals as goal

pub returns-in_err-alone : goal.returns-in_err-alone
unfolding read_exclude
returns-in_err-alone c =
    let e : c.from_residual.result ≡ Err c.in_err-alone.field-0.0 = search rules in
    rw e (refused (InPrefix c.args.a) 67 c.args.text.now c.alone.ensures (λ t. unpacked (prefix (num c.args.p) c.args.a) (get_or t 4 0) (num_at t 5 (length t - 5))) c.in_err-alone.was)

pub cut_at-c-requires : goal.cut_at-c-requires
cut_at-c-requires c =
    -- the text is a PD Exclude, well formed
    let one : Alone (InPrefix c.args.a) 67 c.args.text.now = alone-is _ _ _ c.alone.ensures c.in_ok-alone.was in
    (omega (arith, one), judged-exclude c.args.text.now 0 0 4 (length c.args.text.now - 4) c.args.a one.good)

pub returns : goal.returns
unfolding read_exclude
returns c =
    ap done (exclude-read c.args.text.now (prefix (num c.args.p) c.args.a) _ _ c.cut_at-c.ensures)
    ∙ given (InPrefix c.args.a) 67 c.args.text.now c.alone.ensures (λ t. unpacked (prefix (num c.args.p) c.args.a) (get_or t 4 0) (num_at t 5 (length t - 5))) c.in_ok-alone.was
