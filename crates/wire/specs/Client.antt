-- The stretch of a message that its router is told by.
use Rattle.std.specs.Prelude.{ℕ, List, [], cond, eqb}
use Rattle.rules.specs.Options.{count, nth, content}
use Rattle.rules.specs.Message.{top}

-- the one Client ID, "handed back as that stretch of the message"; nothing where there isn't exactly one
unfoldable pub client_stretch : List ℕ → List ℕ
client_stretch m = cond (eqb (count 1 (top m)) 1) (content m (nth 1 0 (top m))) []
