-- The message that the code's struct stands for, with the DUIDs and the IA_PD beside it.
use Rattle.std.specs.Prelude.{ℕ, List, [], ◌∷◌}
use Rattle.rules.specs.Words.{cons_if}
use Rattle.rules.specs.Message.{Message}
use Rattle.values.specs.Values.{ia_of}
use Rattle.values.specs.declared.Pd.{Pd}
use Rattle.print.specs.declared.message.Head.{Head}

unfoldable pub message_of : Head → List ℕ → List ℕ → Pd → Message
message_of h client server d = record {
  kind = h.kind;
  number = h.number;
  clients = client ∷ [];
  servers = cons_if h.server server [];
  asks = h.asks;
  statuses = cons_if h.says h.status [];
  ias = cons_if h.pd (ia_of d) [];
}
