-- By its size.
use Rattle.std.proofs.Common.{◌∙◌, subst, sym}
use Rattle.notes.specs.Noted.{Heard}
use Rattle.notes.proofs.Laws.{heard-size}
use Rattle.notes.proofs.notes_of.Goals as goal

pub returns-then-wrong_size : goal.returns-then-wrong_size
returns-then-wrong_size c = subst (Heard c.args.msg.now) (sym c.no_notes.ensures) (heard-size c.args.msg.now (sym c.wrong_size.ensures ∙ c.if-wrong_size.true))

pub walked-requires : goal.walked-requires
walked-requires c = sym c.wrong_size.ensures ∙ c.if-wrong_size.false
