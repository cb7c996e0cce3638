-- The table in the bytes that the box lends: one representation, and how it is read.
--   a record, 153 bytes: DUID length 1, IAID 4, upper half of the prefix 8, length 1, excluded 1 (0 or 1), end 8, DUID 130
--   the header, 176 bytes: last time 8, number of records 2, upper half of the pool 8, P 1, S 1, D 1, exclusion 1 (0 or 1),
--     preferred 4, valid 4, DUID length 1, DUID 130, 15 that are zero
--   the table, 39,344 bytes: the header, the records in order, zeros
use Rattle.std.specs.Prelude.{ℕ, ◌+◌, ◌*◌, ◌/◌, ◌^◌, Bool, true, false, not, ◌&&◌, List, ◌++◌, map, eqb, length, replicate, Option, None, Some}
use Rattle.rules.specs.Words.{each, from, part, same_bytes, filled, be, num_at}
use Rattle.rules.specs.Prefix.{Prefix, prefix, Lease, lease, except_for}
use Rattle.rules.specs.Identity.{identity}
use Rattle.rules.specs.Settings.{Settings}
use Rattle.rules.specs.Table.{Record, Table, most_records, sound}

abbrev pub record_size : ℕ
record_size = 153

abbrev pub header_size : ℕ
header_size = 176

abbrev pub table_size : ℕ
table_size = header_size + most_records * record_size

-- where record i stands
abbrev pub place : ℕ → ℕ
place i = header_size + i * record_size

abbrev pub flag : Bool → ℕ
flag true = 1
flag false = 0

abbrev pub is_some : Option Prefix → Bool
is_some None = false
is_some (Some e) = true

-- ---------------------------------------------------------------- written

unfoldable pub record_bytes : Record → List ℕ
record_bytes r =
    be 1 (length r.owner.duid) ++ (be 4 r.owner.iaid ++ (be 8 (r.lease.prefix.bits / 2 ^ 64) ++ (be 1 r.lease.prefix.length
    ++ (be 1 (flag (is_some r.lease.except)) ++ (be 8 r.end ++ filled 130 r.owner.duid)))))

unfoldable pub header_bytes : Table → List ℕ
header_bytes t =
    be 8 t.last ++ (be 2 (length t.records) ++ (be 8 (t.settings.pool.bits / 2 ^ 64) ++ (be 1 t.settings.pool.length
    ++ (be 1 t.settings.shortest ++ (be 1 t.settings.standard ++ (be 1 (flag t.settings.exclusion) ++ (be 4 t.settings.preferred
    ++ (be 4 t.settings.valid ++ (be 1 (length t.settings.own) ++ (filled 130 t.settings.own ++ replicate 15 0))))))))))

-- "Records stand in order of binding, .. room past the last is zero."
unfoldable pub table_bytes : Table → List ℕ
table_bytes t = filled table_size (header_bytes t ++ each (map record_bytes t.records))

-- ---------------------------------------------------------------- read

-- the delegation of length a by the upper half of its prefix, and whether its last /64 is excluded
abbrev pub leased : ℕ → ℕ → Bool → Lease
leased upper a excluded = lease (prefix (upper * 2 ^ 64) a) (except_for excluded (prefix (upper * 2 ^ 64) a))

unfoldable pub record_of : List ℕ → Record
record_of b = record {
  owner = identity (part 23 (num_at b 0 1) b) (num_at b 1 4);
  lease = leased (num_at b 5 8) (num_at b 13 1) (not (eqb (num_at b 14 1) 0));
  end = num_at b 15 8;
}

-- the bytes of record i
abbrev pub row_at : List ℕ → ℕ → List ℕ
row_at b i = part (place i) record_size b

abbrev pub record_at : List ℕ → ℕ → Record
record_at b i = record_of (row_at b i)

unfoldable pub settings_of : List ℕ → Settings
settings_of b = record {
  pool = prefix (num_at b 10 8 * 2 ^ 64) (num_at b 18 1);
  shortest = num_at b 19 1;
  standard = num_at b 20 1;
  preferred = num_at b 22 4;
  valid = num_at b 26 4;
  exclusion = not (eqb (num_at b 21 1) 0);
  own = part 31 (num_at b 30 1) b;
}

abbrev pub count_of : List ℕ → ℕ
count_of b = num_at b 8 2

unfoldable pub table_of : List ℕ → Table
table_of b = record { settings = settings_of b; last = num_at b 0 8; records = from (record_at b) 0 (count_of b) }

-- a lent array that is the representation of a sound table
unfoldable pub sound_bytes : List ℕ → Bool
sound_bytes b = sound (table_of b) && same_bytes (table_bytes (table_of b)) b
