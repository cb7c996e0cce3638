-- Refused by the two tests, in their order; else each part is as it was noted.
use Rattle.std.proofs.Common.{◌≡◌, ◌∙◌, sym, false}
use Rattle.std.proofs.lemmas.Bool.{not-true, not-false}
use Rattle.rules.specs.Refusals.{wrong_size}
use Rattle.notes.specs.Facts.{formed-is, is-noted}
use borrow.Author.Rules.{rules}
use Rattle.lone.proofs.Laws.{message-bad, message-read, message-size, sized, summed}
use Rattle.lone.proofs.read_message.Goals as goal

pub returns-then-wrong_size : goal.returns-then-wrong_size
returns-then-wrong_size c = message-size _ c.wrong_size.ensures c.if-wrong_size.true

pub returns-then-not-s : goal.returns-then-not-s
returns-then-not-s c =
    let right : wrong_size c.args.text.now ≡ false = sym c.wrong_size.ensures ∙ c.if-wrong_size.false in
    message-bad _ c.wrong_size.ensures c.if-wrong_size.false (formed-is _ _ c.notes_of-s.ensures right) (not-true _ c.if-not-s.true)

pub get-requires : goal.get-requires
get-requires c = (sized c.args.text.now c.wrong_size.ensures c.if-wrong_size.false, search rules)

pub returns : goal.returns
returns c =
    let right : wrong_size c.args.text.now ≡ false = sym c.wrong_size.ensures ∙ c.if-wrong_size.false in
    let w = formed-is c.args.text.now _ c.notes_of-s.ensures right in
    let f = not-false _ c.if-not-s.false in
    let n = is-noted c.args.text.now _ c.notes_of-s.ensures right (sym w ∙ f) in
    message-read c.args.text.now c.wrong_size.ensures c.if-wrong_size.false w f (summed c.args.text.now c.u8_at.ensures.0 c.get.ensures.0 n.client n.server n.pd)
