-- What the lent bytes keep: a sound table stays sound under every call, and a refusal leaves all.
use Rattle.std.specs.Prelude.{◌≡◌, refl, true, List, ℕ, ◌*◌, length}
use Rattle.rules.specs.Refusals.{Res, refuse, done}
use Rattle.rules.specs.Clock.{Moment}
use Rattle.rules.specs.Table.{Table}
use Rattle.rules.specs.TableBytes.{table_bytes, table_of, sound_bytes}
use Rattle.rules.specs.Box.{box_handle}
use Rattle.rules.specs.Lent.{ended, settle, asked, box_handled}
use Rattle.laws.specs.Represent.{bytes-sound}
use Rattle.laws.specs.Sound.{sound-facts}
use Rattle.promises.specs.Stays.{stays-sound}

-- a refusal leaves every lent byte, for each operation that writes and each that only shows
pub refused-leaves : {A : Type 0} (bytes : A → List ℕ) (b out : List ℕ) (n : ℕ) → settle bytes b out (refuse n) ≡ ended (n * 65536) b out
refused-leaves bytes b out n = refl

pub refused-shows : (b out : List ℕ) (n : ℕ) → asked b out (refuse n) ≡ ended (n * 65536) b out
refused-shows b out n = refl

-- any message at any time, into any room
pub handled-sound : (b : List ℕ) (now : Moment) (m out : List ℕ) → sound_bytes b ≡ true → sound_bytes (box_handled b now m out).lent ≡ true
unfolding box_handled
handled-sound b now m out h = rw h (by (box_handle (table_of b) now m (length out)) refl)
  where
    by : (x : Res (Table × List ℕ)) → box_handle (table_of b) now m (length out) ≡ x → sound_bytes (settle table_bytes b out x).lent ≡ true
    by (refuse n) e = h
    by (done z) e = bytes-sound z.0 (sound-facts z.0 (stays-sound (table_of b) z.0 now m z.1 (length out) e))
