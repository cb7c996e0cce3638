-- What is heard of a message: the one option of a code, and its IA_PD without Status Codes.
use Rattle.std.specs.Prelude.{ℕ, ◌≤◌, ◌≡◌, cond, List, [], map, eqb, None, Option}
use Rattle.rules.specs.Options.{count, nth}
use Rattle.rules.specs.Message.{Listed, Ia, top, read}
use Rattle.rules.specs.Box.{ia_of as asked_ia}
use Rattle.rules.specs.declared.Spot.{Spot}
use Rattle.values.specs.Values.{ia_of}
use Rattle.values.specs.declared.Pd.{Pd}

-- the one option of the code w; nothing where there isn't exactly one
unfoldable pub only_of : ℕ → List ℕ → Option Spot
only_of w m = cond (eqb (count w (top m)) 1) (nth w 0 (top m)) None

abbrev pub bare : Listed → Listed
bare x = record { preferred = x.preferred; valid = x.valid; lease = x.lease; statuses = [] }

unfoldable pub bare_ia : Ia → Ia
bare_ia i = record { iaid = i.iaid; t1 = i.t1; t2 = i.t2; listed = map bare i.listed; statuses = [] }

-- d is the IA_PD that the message asks about
pub record AskedPd (m : List ℕ) (d : Pd) : Type 0 where
  pub is : ia_of d ≡ bare_ia (asked_ia (read m))
  pub few : d.count ≤ 4
