-- By where the one IA_PD was found.
use Rattle.std.specs.Prelude.{Some, None}
use Rattle.std.proofs.Common.{rules, ◌≡◌, sym, ◌∙◌}
use Rattle.rules.specs.Options.{spot}
use Rattle.heard.specs.Heard.{only_of}
use Rattle.heard.specs.Facts.{pd-formed}
use Rattle.heard.proofs.Laws.{other-pds, pd-asked}
use Rattle.heard.proofs.asked_pd.Goals as goal

pub returns-in_err-o : goal.returns-in_err-o
returns-in_err-o c =
    let e : c.from_residual.result ≡ None = search rules in
    rw e (other-pds _ (sym c.one.ensures ∙ c.in_err-o.was), tt)

pub pd_at-pd-requires : goal.pd_at-pd-requires
pd_at-pd-requires c =
    -- where it was found
    let was : only_of 25 c.args.msg.now ≡ Some (spot c.in_ok-o.o.place c.in_ok-o.o.start c.in_ok-o.o.len) = sym c.one.ensures ∙ c.in_ok-o.was in
    pd-formed _ was c.requires.0

pub returns : goal.returns
returns c =
    let was : only_of 25 c.args.msg.now ≡ Some (spot c.in_ok-o.o.place c.in_ok-o.o.start c.in_ok-o.o.len) = sym c.one.ensures ∙ c.in_ok-o.was in
    pd-asked _ was _ c.pd_at-pd.ensures.0 c.pd_at-pd.ensures.1 c.then_some.ensures
