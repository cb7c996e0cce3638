-- The codes that are judged at some level: Option Request, Status Code, IA_PD, IA Prefix, PD Exclude.
use Rattle.std.specs.Prelude.{ℕ, Bool, ◌||◌, eqb}

unfoldable pub is_judged : ℕ → Bool
is_judged c = eqb c 6 || eqb c 13 || eqb c 25 || eqb c 26 || eqb c 67
