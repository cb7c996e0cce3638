-- The IA_PD of an answer by its parts, and what every one keeps.
use Rattle.std.specs.Prelude.{ℕ, ◌≤◌, ◌<◌, List, [], ◌∷◌}
use Rattle.rules.specs.Message.{Listed, Ia}
use Rattle.rules.specs.Settings.{Settings}
use Rattle.rules.specs.Box.{Verdict, offer, return, say, success, silence, offered}
use Rattle.values.specs.declared.Pd.{Pd}

abbrev pub ia_with : ℕ → ℕ → ℕ → List Listed → List ℕ → Ia
ia_with i t1 t2 xs ks = record { iaid = i; t1 = t1; t2 = t2; listed = xs; statuses = ks }

-- the prefixes that are said
abbrev pub listed_for : Settings → Verdict → List Listed
listed_for s (offer l xs) = offered s l ∷ xs
listed_for s (return xs) = xs
listed_for s (say k) = []
listed_for s success = []
listed_for s silence = []

-- at most five prefixes, and a status of 16 bits
pub record Small (d : Pd) : Type 0 where
  pub count : d.count ≤ 5
  pub status : d.status < 65536
