-- The operations on lent arrays: for each, the word that it returns and every lent byte afterwards.
--   The word is the refusal's number times 65,536, plus the length of what was written: one of the two is 0.
use Rattle.std.specs.Prelude.{Result, Ok, Err, ℕ, ◌*◌, Bool, cond, not, List, [], ◌∷◌, ◌++◌, ltb, length, Option, None, Some, slice_get}
use Rattle.rules.specs.Words.{splice}
use Rattle.rules.specs.Refusals.{Res, refuse, done, number_of, unless, lent_tests}
use Rattle.rules.specs.Clock.{Moment}
use Rattle.rules.specs.Identity.{Identity}
use Rattle.rules.specs.Settings.{Settings}
use Rattle.rules.specs.Table.{Record, Table, sound}
use Rattle.rules.specs.TableBytes.{record_size, record_bytes, table_bytes, table_of, sound_bytes}
use Rattle.rules.specs.Box.{box_start, box_handle, box_live}
use Rattle.rules.specs.Router.{Router, Hold, sound_router, router_start, router_send, router_resend, router_abandon, router_receive}
use Rattle.rules.specs.RouterBytes.{hold_size, hold_bytes, router_bytes, router_of, sound_router_bytes}
use Rattle.rules.specs.declared.Kind.{Kind}
use Rattle.rules.specs.declared.Refusal.{Refusal}

-- what stands afterwards: the word, the lent table or state, and the lent room
pub record Ended : Type 0 where
  pub word : ℕ
  pub lent : List ℕ
  pub room : List ℕ

abbrev pub ended : ℕ → List ℕ → List ℕ → Ended
ended w b out = record { word = w; lent = b; room = out }

-- the word for what code gives: how much it wrote, or why it refused
abbrev pub word_of : Result ℕ Refusal → ℕ
word_of (Ok n) = n
word_of (Err r) = number_of r * 65536

-- "Each returns its number and length 0 and writes nothing." Otherwise the new state is written, and the text at the front
-- of the room: "Bytes past the answer stay."
abbrev pub settle : {A : Type 0} → (A → List ℕ) → List ℕ → List ℕ → Res (A × List ℕ) → Ended
settle bytes b out (refuse n) = ended (n * 65536) b out
settle bytes b out (done x) = ended (length x.1) (bytes x.0) (splice 0 x.1 out)

-- an operation that writes no text
abbrev pub no_text : {A : Type 0} → Res A → Res (A × List ℕ)
no_text (refuse n) = refuse n
no_text (done x) = done (x, [])

-- an operation that leaves what is lent as it is
abbrev pub asked : List ℕ → List ℕ → Res (List ℕ) → Ended
asked b out (refuse n) = ended (n * 65536) b out
asked b out (done text) = ended (length text) b (splice 0 text out)

-- a writer of a lone option: what it leaves in the lent room
abbrev pub written : List ℕ → (ℕ → Res (List ℕ)) → Ended
written out writer = asked [] out (writer (length out))

-- 9 "the lent table or router state isn't sound": it isn't the representation of a sound one
abbrev pub of_table : {A : Type 0} → List ℕ → (Table → Res A) → Res A
of_table b op = unless ((9, not (sound_bytes b)) ∷ []) (op (table_of b))

abbrev pub of_router : {A : Type 0} → List ℕ → (Router → Res A) → Res A
of_router b op = unless ((9, not (sound_router_bytes b)) ∷ []) (op (router_of b))

-- ---------------------------------------------------------------- the box

unfoldable pub box_started : List ℕ → Settings → Moment → Ended
box_started b s now = settle table_bytes b [] (no_text (box_start s now))

unfoldable pub box_handled : List ℕ → Moment → List ℕ → List ℕ → Ended
box_handled b now m out = settle table_bytes b out (of_table b (λ t. box_handle t now m (length out)))

-- the number of live records stands where a length would
abbrev pub counted : Res ℕ → ℕ
counted (refuse n) = n * 65536
counted (done n) = n

unfoldable pub box_counted : List ℕ → Moment → ℕ
box_counted b now = counted (of_table b (λ t. box_live t now))

-- the record at a place, ended or not; none there: nothing
abbrev pub record_text : Option Record → List ℕ
record_text None = []
record_text (Some r) = record_bytes r

abbrev pub record_tests : Table → ℕ → List (ℕ × Bool)
record_tests t room = (9, not (sound t)) ∷ (2, ltb room record_size) ∷ []

abbrev pub box_record : Table → ℕ → ℕ → Res (List ℕ)
box_record t i room = unless (record_tests t room) (done (record_text (slice_get t.records i)))

unfoldable pub box_shown : List ℕ → ℕ → List ℕ → Ended
box_shown b i out = asked b out (of_table b (λ t. box_record t i (length out)))

-- ---------------------------------------------------------------- the router

unfoldable pub router_started : List ℕ → Identity → ℕ → Moment → Ended
router_started b i n now = settle router_bytes b [] (no_text (router_start i n now))

unfoldable pub router_sent : Kind → List ℕ → Moment → List ℕ → Ended
router_sent k b now out = settle router_bytes b out (of_router b (λ r. router_send k r now (length out)))

unfoldable pub router_resent : List ℕ → Moment → List ℕ → Ended
router_resent b now out = settle router_bytes b out (of_router b (λ r. router_resend r now (length out)))

unfoldable pub router_abandoned : List ℕ → Moment → Ended
router_abandoned b now = settle router_bytes b [] (no_text (of_router b (λ r. router_abandon r now)))

unfoldable pub router_received : List ℕ → Moment → List ℕ → Ended
router_received b now m = settle router_bytes b [] (no_text (of_router b (λ r. router_receive r now m)))

-- what is held and hasn't ended; nothing held: nothing
abbrev pub hold_text : Moment → Option Hold → List ℕ
hold_text now None = []
hold_text now (Some h) = cond (ltb now h.end) (hold_bytes h) []

abbrev pub held_tests : Router → Moment → ℕ → List (ℕ × Bool)
held_tests r now room = lent_tests (sound_router r) r.last now ++ ((2, ltb room hold_size) ∷ [])

abbrev pub router_held : Router → Moment → ℕ → Res (List ℕ)
router_held r now room = unless (held_tests r now room) (done (hold_text now r.held))

unfoldable pub router_shown : List ℕ → Moment → List ℕ → Ended
router_shown b now out = asked b out (of_router b (λ r. router_held r now (length out)))
