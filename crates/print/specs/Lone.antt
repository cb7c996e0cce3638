-- What stands between the code and the rules for options that stand alone.
use Rattle.std.specs.Prelude.{◌≡◌, Bool, false, cond, not, ℕ, ◌≤◌, ltb}
use Rattle.values.specs.Values.{ia_of}
use Rattle.values.specs.declared.Pd.{Pd}

-- the refusal of a writer, or 0: "writers give 2 where the lent room is shorter than the text, after 5"
abbrev pub refusal_of : Bool → ℕ → ℕ → ℕ
refusal_of able size room = cond (not able) 5 (cond (ltb room size) 2 0)

-- e is the IA_PD d, with no more prefixes than there is room for, and with 0 for a status that it doesn't say
pub record Trimmed (d e : Pd) : Type 0 where
  pub same : ia_of e ≡ ia_of d
  pub count : e.count ≤ 5
  pub status : e.says ≡ false → e.status ≡ 0
