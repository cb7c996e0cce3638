-- Document 01's marked examples, E1 to E12: one table, and one statement that all of it holds.
use Rattle.std.specs.Prelude.{ℕ, ◌+◌, ◌*◌, ◌^◌, Bool, true, false, ◌&&◌, List, [], ◌∷◌, map, eqb, T, Option, None, Some}
use Rattle.rules.specs.Words.{all, same_bytes, part, num, be}
use Rattle.rules.specs.Refusals.{Res, refuse, done}
use Rattle.rules.specs.Prefix.{Prefix, prefix, same_prefix, lease, overlap, inside, next_place, packed, exclude_bytes, encodable, content_ok, unpacked}
use Rattle.rules.specs.Options.{own, option}
use Rattle.rules.specs.Lone.{read_exclude, write_exclude}
use Rattle.rules.specs.Identity.{identity}
use Rattle.rules.specs.Settings.{Settings}
use Rattle.rules.specs.Table.{Record}
use Rattle.rules.specs.Choose.{wanted, free, is_place, walk_from, lowest, shortest_from, choose}
use Rattle.rules.specs.Box.{t1_for, t2_for}

-- an address by its first five groups of 16 bits, the rest zero
abbrev ip : ℕ → ℕ → ℕ → ℕ → ℕ → ℕ
ip a b c d e = a * 2 ^ 112 + b * 2 ^ 96 + c * 2 ^ 80 + d * 2 ^ 64 + e * 2 ^ 48

data Example : Type 0 where
  -- an excluded prefix inside a prefix is these bytes, and they read as it
  encodes : Prefix → Prefix → List ℕ → Example
  -- these bytes inside a prefix give 5
  gives5 : Prefix → List ℕ → Example
  -- with these delegations bound, in turn, and this hint, the choice is that
  chooses : List Prefix → Option Prefix → Option Prefix → Example
  -- T1, T2 for a preferred lifetime
  t1_is t2_is : ℕ → ℕ → Example

-- ---------------------------------------------------------------- whether one holds

is_text : List ℕ → Res (List ℕ) → Bool
is_text l (refuse n) = false
is_text l (done x) = same_bytes l x

is_prefix : Prefix → Res Prefix → Bool
is_prefix p (refuse n) = false
is_prefix p (done q) = same_prefix p q

is5 : Res Prefix → Bool
is5 (refuse n) = eqb n 5
is5 (done q) = false

same_choice : Option Prefix → Option Prefix → Bool
same_choice None None = true
same_choice None (Some q) = false
same_choice (Some p) None = false
same_choice (Some p) (Some q) = same_prefix p q

-- "Pool 2001:db8:0:aa00::/56, S 56, D 60"
settings : Settings
settings = record {
  pool = prefix (ip 0x2001 0xdb8 0 0xaa00 0) 56;
  shortest = 56;
  standard = 60;
  preferred = 120;
  valid = 120;
  exclusion = false;
  own = 1 ∷ 2 ∷ 3 ∷ [];
}

bound : Prefix → Record
bound p = record { owner = identity [] 0; lease = lease p None; end = 0 }

holds : Example → Bool
holds (encodes p e l) = is_text l (write_exclude p e 512) && is_prefix e (read_exclude p l)
holds (gives5 p l) = is5 (read_exclude p l)
holds (chooses ps hint c) = same_choice c (choose settings (map bound ps) hint)
holds (t1_is p t) = eqb (t1_for p) t
holds (t2_is p t) = eqb (t2_for p) t

-- ---------------------------------------------------------------- the table

-- "Inside 2001:db8:dead:bee0::/59"
home : Prefix
home = prefix (ip 0x2001 0xdb8 0xdead 0xbee0 0) 59

-- a delegation "by last group", and a hint of a length alone
group : ℕ → ℕ → Prefix
group d a = prefix (ip 0x2001 0xdb8 0 d 0) a

long : ℕ → Option Prefix
long n = Some (prefix 0 n)

table : List Example
table =
    -- E1 beef::/64 is 00 43 00 02 40 78
    encodes home (prefix (ip 0x2001 0xdb8 0xdead 0xbeef 0) 64) (0x00 ∷ 0x43 ∷ 0x00 ∷ 0x02 ∷ 0x40 ∷ 0x78 ∷ [])
    -- E2 beef:8000::/65 is 00 43 00 02 41 7c
    ∷ encodes home (prefix (ip 0x2001 0xdb8 0xdead 0xbeef 0x8000) 65) (0x00 ∷ 0x43 ∷ 0x00 ∷ 0x02 ∷ 0x41 ∷ 0x7c ∷ [])
    -- E3 00 43 00 02 40 79 gives 5 (pad)
    ∷ gives5 home (0x00 ∷ 0x43 ∷ 0x00 ∷ 0x02 ∷ 0x40 ∷ 0x79 ∷ [])
    -- E4 00 43 00 02 3b 78 gives 5 (b = 59)
    ∷ gives5 home (0x00 ∷ 0x43 ∷ 0x00 ∷ 0x02 ∷ 0x3b ∷ 0x78 ∷ [])
    -- E5 00 43 00 03 40 78 00 gives 5
    ∷ gives5 home (0x00 ∷ 0x43 ∷ 0x00 ∷ 0x03 ∷ 0x40 ∷ 0x78 ∷ 0x00 ∷ [])
    -- E6 2001:db8:7::/48 with 2001:db8:7:1234::/64 is 00 43 00 03 40 12 34
    ∷ encodes (prefix (ip 0x2001 0xdb8 7 0 0) 48) (prefix (ip 0x2001 0xdb8 7 0x1234 0) 64) (0x00 ∷ 0x43 ∷ 0x00 ∷ 0x03 ∷ 0x40 ∷ 0x12 ∷ 0x34 ∷ [])
    -- E7 no hint: aa00/60
    ∷ chooses [] None (Some (group 0xaa00 60))
    -- E8 then length 58: aa40/58
    ∷ chooses (group 0xaa00 60 ∷ []) (long 58) (Some (group 0xaa40 58))
    -- E9 then 57: aa80/57
    ∷ chooses (group 0xaa00 60 ∷ group 0xaa40 58 ∷ []) (long 57) (Some (group 0xaa80 57))
    -- E10 then 58: aa20/59
    ∷ chooses (group 0xaa00 60 ∷ group 0xaa40 58 ∷ group 0xaa80 57 ∷ []) (long 58) (Some (group 0xaa20 59))
    -- E11 then none: aa10/60; then NoPrefixAvail
    ∷ chooses (group 0xaa00 60 ∷ group 0xaa40 58 ∷ group 0xaa80 57 ∷ group 0xaa20 59 ∷ []) None (Some (group 0xaa10 60))
    ∷ chooses (group 0xaa00 60 ∷ group 0xaa40 58 ∷ group 0xaa80 57 ∷ group 0xaa20 59 ∷ group 0xaa10 60 ∷ []) None None
    -- E12 preferred 121: T1 60, T2 96. Preferred 4,294,967,294: T2 3,435,973,835
    ∷ t1_is 121 60
    ∷ t2_is 121 96
    ∷ t2_is 4294967294 3435973835
    ∷ []

examples : T (all holds table)
unfolding holds table is_text is_prefix is5 same_choice settings bound home group long read_exclude write_exclude own option exclude_bytes packed encodable content_ok unpacked num be part overlap inside next_place wanted free is_place walk_from lowest shortest_from choose t1_for t2_for
examples = tt
