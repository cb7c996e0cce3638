-- What a walk over a message notes.
--   note_on, is_counted      one more option of a code; which codes are counted
--   IsNote, Noted, Heard   the notes of a whole message
use Rattle.std.specs.Prelude.{ℕ, ◌+◌, ◌≡◌, Bool, true, cond, not, ◌&&◌, ◌||◌, List, eqb, None, Some}
use Rattle.rules.specs.Refusals.{wrong_size}
use Rattle.rules.specs.Options.{count, nth, spot}
use Rattle.rules.specs.Message.{top, read, well_formed}
use Rattle.notes.specs.declared.Note.{Note}
use Rattle.notes.specs.declared.Notes.{Notes}

-- an option at p, of code c, with its content at s, n long
unfoldable pub note_on : ℕ → ℕ → ℕ → ℕ → ℕ → Note → Note
note_on w p c s n x =
    cond (eqb c w)
    (record { count = x.count + 1; first = cond (eqb x.count 0) (Some (spot p s n)) x.first })
    x

-- Client IDs, Server IDs, IA_PDs
unfoldable pub is_counted : ℕ → Bool
is_counted c = eqb c 1 || eqb c 2 || eqb c 25

abbrev pub empty : Note
empty = record { count = 0; first = None }

abbrev pub notes : Bool → Note → Note → Note → Bool → Notes
notes f c s p a = record { formed = f; client = c; server = s; pd = p; asks = a }

pub record IsNote (w : ℕ) (m : List ℕ) (x : Note) : Type 0 where
  pub counts : x.count ≡ count w (top m)
  pub begins : x.first ≡ nth w 0 (top m)

pub record Noted (m : List ℕ) (x : Notes) : Type 0 where
  pub client : IsNote 1 m x.client
  pub server : IsNote 2 m x.server
  pub pd : IsNote 25 m x.pd
  pub asks : x.asks ≡ (read m).asks

-- a message of the wrong size isn't walked
pub record Heard (m : List ℕ) (x : Notes) : Type 0 where
  pub formed : x.formed ≡ not (wrong_size m) && well_formed m
  pub noted : x.formed ≡ true → Noted m x
