-- The box's judgement, in the parts in which it is made: each the number of the first test that applies, or 0.
use Rattle.std.specs.Prelude.{ℕ, Bool, not, List, [], ◌∷◌, ◌++◌}
use Rattle.rules.specs.Refusals.{bad_time, little_room, wrong_size}
use Rattle.rules.specs.Message.{read, well_formed}
use Rattle.rules.specs.Clock.{Moment}
use Rattle.rules.specs.Identity.{served, row_holds}
use Rattle.rules.specs.TableBytes.{table_of, sound_bytes}
use Rattle.rules.specs.Box.{serving, wrong_pds, is_silence}
use Rattle.laws.specs.Refusals.{number}

-- by the table, and the time
abbrev pub table_tests : List ℕ → Moment → List (ℕ × Bool)
table_tests b now = (9, not (sound_bytes b)) ∷ (1, bad_time (table_of b).last now) ∷ []

abbrev pub room_tests : ℕ → List (ℕ × Bool)
room_tests room = (2, little_room room) ∷ []

-- by the message's length, type and form
abbrev pub form_tests : List ℕ → List (ℕ × Bool)
form_tests m = (3, wrong_size m) ∷ (4, not (served (read m).kind)) ∷ (5, not (well_formed m)) ∷ []

-- by its IDs and IA_PDs
abbrev pub id_tests : List ℕ → List ℕ → List (ℕ × Bool)
id_tests b m = (6, not (row_holds (table_of b).settings.own (read m))) ∷ (7, wrong_pds (read m)) ∷ []

-- by what would be said
abbrev pub silence_tests : List ℕ → Moment → List ℕ → List (ℕ × Bool)
silence_tests b now m = (8, is_silence (serving (table_of b) now (read m)).verdict) ∷ []

unfoldable pub by_table : List ℕ → Moment → ℕ
by_table b now = number (table_tests b now)

unfoldable pub by_form : List ℕ → ℕ
by_form m = number (form_tests m)

unfoldable pub by_ids : List ℕ → List ℕ → ℕ
by_ids b m = number (id_tests b m)

-- the whole
unfoldable pub judged : List ℕ → Moment → List ℕ → ℕ → ℕ
judged b now m room = number (table_tests b now ++ (room_tests room ++ (form_tests m ++ (id_tests b m ++ silence_tests b now m))))
