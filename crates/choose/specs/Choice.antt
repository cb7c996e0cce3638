-- What the types of this crate stand for, and what the walk asks of a table.
use Rattle.std.specs.Prelude.{◌≡◌, true, false, List, [], ℕ, ◌+◌, ◌*◌, ◌^◌, ◌≤◌, leb, length}
use Rattle.rules.specs.Words.{all, from}
use Rattle.rules.specs.Prefix.{Prefix, prefix, zero_after}
use Rattle.rules.specs.Settings.{Settings}
use Rattle.rules.specs.Table.{area}
use Rattle.rules.specs.TableBytes.{table_size, record_at}
use Rattle.laws.specs.Choose.{Aligned}
use Rattle.prefix.specs.Upper.{upper, half_of}
use Rattle.choose.specs.declared.chooser.Chooser.{Chooser}
use Rattle.choose.specs.declared.hint.Hint.{Hint}

-- settings of which a choice reads the pool and two lengths
abbrev pub chooser : ℕ → ℕ → ℕ → ℕ → Settings
chooser pool width shortest standard = record {
  pool = upper pool width;
  shortest = shortest;
  standard = standard;
  preferred = 0;
  valid = 0;
  exclusion = false;
  own = [];
}

abbrev pub settings_by : Chooser → Settings
settings_by c = record {
  pool = half_of c.pool;
  shortest = c.shortest;
  standard = c.standard;
  preferred = 0;
  valid = 0;
  exclusion = false;
  own = [];
}

abbrev pub hint_of : Hint → Prefix
hint_of h = prefix (h.high * 2 ^ 64 + h.low) h.length

-- the n records of the table are aligned and at most 60 long, and the pool is aligned
pub record Walkable (l : List ℕ) (n pool width : ℕ) : Type 0 where
  pub few : n ≤ 256
  pub room : table_size ≤ length l
  pub some : 1 ≤ width
  pub zeros : zero_after (upper pool width) ≡ true
  pub aligned : Aligned (from (record_at l) 0 n)
  pub short : all (λ r. leb (area r).length 60) (from (record_at l) 0 n) ≡ true
