-- Some of the codes is 67.
use Rattle.std.proofs.Common.{◌∙◌, ap, eqb, rules, tests}
use Rattle.std.proofs.lemmas.Iterator.Search.{any_from_yields_List}
use Rattle.std.specs.Slice.Iter.{chunks_exact_rest}
use Rattle.rules.specs.Message.{asks67, codes}
use Rattle.wire.proofs.Codes.{any-listed, codes-given}
use Rattle.wire.proofs.Laws.{stretch}
use Rattle.wire.proofs.says.asks67.Goals as goal

pub returns : goal.returns
returns c =
    any_from_yields_List (eqb 67) c.any.new.self _ _ c.any.ensures.ran (codes-given c.chunks_exact.result c.chunks_exact.ensures.size) (λ x b q k. search (rules, tests))
    ∙ any-listed (eqb 67) (codes (chunks_exact_rest c.chunks_exact.result)) ∙ ap asks67 (c.chunks_exact.ensures.rest ∙ stretch c.args.msg.now c.args.start c.args.len)
