-- Choosing a prefix for a new binding.
--   wanted       the length that is looked for first
--   free         overlapping no record
--   is_place      the hint's prefix can be had as it is
--   lowest       the walk for one length: the lowest free place
--   shortest_from the shortest length that has a free place
--   choose       the whole choice
use Rattle.std.specs.Prelude.{ℕ, zero, suc, ◌+◌, ◌-◌, ◌^◌, Bool, true, false, cond, not, ◌&&◌, List, eqb, leb, ltb, length, Option, None, Some}
use Rattle.rules.specs.Words.{all, first}
use Rattle.rules.specs.Prefix.{Prefix, prefix, zero_after, overlap, inside, last_of, next_place}
use Rattle.rules.specs.Settings.{Settings}
use Rattle.rules.specs.Table.{Record, area, most_records}

-- "Its length n gives the wanted length L: absent or 0 gives D, below S gives S, above 60 gives 60."
abbrev pub wanted_for : Settings → ℕ → ℕ
wanted_for s n =
    cond (eqb n 0) s.standard
    (cond (ltb n s.shortest) s.shortest
    (cond (ltb 60 n) 60
    n))

unfoldable pub wanted : Settings → Option Prefix → ℕ
wanted s None = s.standard
wanted s (Some p) = wanted_for s p.length

-- the record keeps p from others
abbrev pub hits : Prefix → Record → Bool
hits p r = overlap (area r) p

-- "overlaps no live prefix": of the records that are left once the ended ones are dropped
unfoldable pub free : List Record → Prefix → Bool
free rs p = all (λ r. not (hits p r)) rs

-- "Its prefix counts as a place if it isn't zero, S ≤ n ≤ 60, its bits after n are zero, it lies in the pool and overlaps no live prefix"
unfoldable pub is_place : Settings → List Record → Option Prefix → Bool
is_place s rs None = false
is_place s rs (Some p) =
    not (eqb p.bits 0) && leb s.shortest p.length && leb p.length 60 && zero_after p && inside p s.pool && free rs p

-- ---------------------------------------------------------------- the walk for one length

-- one try at x: the records in table order until one overlaps; past that one's end to the first aligned place, by w
abbrev pub tried : (ℕ → Option ℕ) → ℕ → ℕ → Option Record → Option ℕ
tried w a x None = Some x
tried w a x (Some r) = w (next_place (last_of (area r)) a)

-- no try past the pool
abbrev pub within : (ℕ → Option ℕ) → List Record → ℕ → ℕ → Bool → Option ℕ
within w rs a x true = tried w a x (first (hits (prefix x a)) rs)
within w rs a x false = None

unfoldable pub walk_from : ℕ → Settings → List Record → ℕ → ℕ → Option ℕ
walk_from zero s rs a x = None
walk_from (suc k) s rs a x = within (λ y. walk_from k s rs a y) rs a x (inside (prefix x a) s.pool)

-- from the pool's first place; there are 2 ^ (a - P), and each try goes on by one or more
unfoldable pub lowest : Settings → List Record → ℕ → Option ℕ
lowest s rs a = walk_from (2 ^ (a - s.pool.length)) s rs a s.pool.bits

-- ---------------------------------------------------------------- the choice

abbrev pub or_longer : (ℕ → Option Prefix) → ℕ → Option ℕ → Option Prefix
or_longer w a (Some x) = Some (prefix x a)
or_longer w a None = w (a + 1)

-- "the shortest length from L to 60 that has a free aligned prefix, and the lowest such prefix": k lengths from a on
unfoldable pub shortest_from : ℕ → Settings → List Record → ℕ → Option Prefix
shortest_from zero s rs a = None
shortest_from (suc k) s rs a = or_longer (λ b. shortest_from k s rs b) a (lowest s rs a)

abbrev pub otherwise : Settings → List Record → Option Prefix → Bool → Option Prefix
otherwise s rs hint true = hint
otherwise s rs hint false = shortest_from (61 - wanted s hint) s rs (wanted s hint)

-- "If there is none, or if 256 records are live, for every hint: NoPrefixAvail"
abbrev pub unless_full : Settings → List Record → Option Prefix → Bool → Option Prefix
unless_full s rs hint true = None
unless_full s rs hint false = otherwise s rs hint (is_place s rs hint)

-- what a new binding gets among these records, for the first IA Prefix of its IA_PD
unfoldable pub choose : Settings → List Record → Option Prefix → Option Prefix
choose s rs hint = unless_full s rs hint (leb most_records (length rs))
