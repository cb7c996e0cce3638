-- An identity row by its two options: the Client ID is 0, the Server ID is 1, each the option's code less 1.
use Rattle.std.specs.Prelude.{ℕ, ◌+◌, Bool, cond, ◌&&◌, List, map, eqb}
use Rattle.rules.specs.Words.{all, same_bytes}
use Rattle.rules.specs.Options.{options, content}
use Rattle.rules.specs.Message.{top}
use Rattle.rules.specs.Identity.{Duid, good_duid, row_of, stands}

-- must one stand in a message of the type k
unfoldable pub id_wanted : ℕ → ℕ → Bool
id_wanted k i = cond (eqb i 0) (row_of k).0 (row_of k).1

unfoldable pub id_good : Duid → ℕ → Duid → Bool
id_good own i d = cond (eqb i 0) (good_duid d) (same_bytes own d)

abbrev pub ids_of : ℕ → List ℕ → List Duid
ids_of i m = map (content m) (options (i + 1) (top m))

unfoldable pub ids_hold : Duid → ℕ → ℕ → List ℕ → Bool
ids_hold own k i m = stands (id_wanted k i) (ids_of i m) && all (id_good own i) (ids_of i m)
