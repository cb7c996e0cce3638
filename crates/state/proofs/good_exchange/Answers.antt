-- `good_exchange`: by the kind, or none and zeros.
use Rattle.std.proofs.Common.{sym, ◌∙◌}
use Rattle.state.proofs.Laws.{type-from, exchange-none}
use Rattle.state.proofs.good_exchange.Goals as goal

pub good_open-requires : goal.good_open-requires
good_open-requires c = sym c.get-k.ensures.0 ∙ type-from _ (sym c.try_from.ensures ∙ c.in-Ok.is)

pub returns-in-Err : goal.returns-in-Err
returns-in-Err c = rw c.all_zero.ensures (exchange-none _ c.get-k.ensures.0 (sym c.try_from.ensures ∙ c.in-Err.is))
