-- A refusal, or the table without ended records served.
use Rattle.std.proofs.Common.{rules, ◌≡◌, Err, refl, ◌∙◌, arith}
use Rattle.laws.specs.Refusals.{goes}
use Rattle.delegator.proofs.Handle.{refused, is-sound, is-accepted, is-ready, has-notes, is-handled}
use Rattle.delegator.proofs.handling.handle.Goals as goal

pub returns-in_err-pd-clause-word : goal.returns-in_err-pd-clause-word
returns-in_err-pd-clause-word c =
    let e : c.from_residual.result ≡ Err c.in_err-pd.field-0.0 = search rules in
    refused _ _ _ _ c.judge.ensures.0 c.in_err-pd.was e _ refl

pub tidy-requires : goal.tidy-requires
tidy-requires c = is-sound _ _ _ _ c.judge.ensures.0 (goes c.in_ok-pd.was)

pub serve-requires : goal.serve-requires
serve-requires c = (
  is-ready _ _ _ _ c.judge.ensures.0 (goes c.in_ok-pd.was) c.tidy.ensures,
  omega (arith, (is-accepted _ _ _ _ c.judge.ensures.0 (goes c.in_ok-pd.was)).roomy),
  has-notes _ _ _ _ c.judge.ensures.0 (goes c.in_ok-pd.was) c.tidy.ensures _ c.notes_of-s.ensures,
  c.in_ok-pd.ensures.1,
)

pub returns-clause-word : goal.returns-clause-word
returns-clause-word c = c.serve.ensures ∙ is-handled _ _ _ _ c.judge.ensures.0 (goes c.in_ok-pd.was) c.tidy.ensures _ refl
