-- The numbers of each operation's table of tests, in their order, are document 01's.
use Rattle.std.specs.Prelude.{ℕ, ◌≡◌, refl, Bool, List, map}
use Rattle.rules.specs.Refusals.{box_order, send_order, resend_order, abandon_order, receive_order, start_order, reader_order, writer_order, live_order, record_order, held_order}
use Rattle.rules.specs.Message.{Message}
use Rattle.rules.specs.Clock.{Moment}
use Rattle.rules.specs.Lone.{reader_tests, writer_tests}
use Rattle.rules.specs.Table.{Table}
use Rattle.rules.specs.Box.{start_tests, box_tests, live_tests}
use Rattle.rules.specs.Lent.{record_tests, held_tests}
use Rattle.rules.specs.Router.{Router, send_tests, resend_tests, abandon_tests, receive_tests}
use Rattle.rules.specs.declared.Kind.{Kind}

abbrev pub numbers : List (ℕ × Bool) → List ℕ
numbers l = map (λ r. r.0) l

pub orders : (T : Table) (r : Router) (k : Kind) (now : Moment) (m : List ℕ) (v : Message) (room : ℕ) (b : Bool)
    → (numbers (box_tests T now m v room) ≡ box_order)
    × (numbers (send_tests k r now room) ≡ send_order)
    × (numbers (resend_tests r now room) ≡ resend_order)
    × (numbers (abandon_tests r now) ≡ abandon_order)
    × (numbers (receive_tests r now m v) ≡ receive_order)
    × (numbers (start_tests b now) ≡ start_order)
    × (numbers (reader_tests m b) ≡ reader_order)
    × (numbers (writer_tests b m room) ≡ writer_order)
    × (numbers (live_tests T now) ≡ live_order)
    × (numbers (record_tests T room) ≡ record_order)
    × (numbers (held_tests r now room) ≡ held_order)
orders T r k now m v room b = (refl, refl, refl, refl, refl, refl, refl, refl, refl, refl, refl)
