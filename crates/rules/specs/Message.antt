-- Messages: what one says, as a value; how its bytes are read, and as what bytes it is written.
--   Listed, Ia, Message   an IA Prefix, an IA_PD, a message: all that is read in each
--   read, well_formed      a message's bytes as a value; whether no option is malformed
--   print                 the bytes of a message
use Rattle.std.specs.Prelude.{ℕ, ◌+◌, ◌-◌, ◌*◌, Bool, true, false, cond, List, [], ◌∷◌, ◌++◌, map, eqb, length, get_or, Option, None, Some, is_ok}
use Rattle.rules.specs.Words.{any, be, be16, num_at, u16_at}
use Rattle.rules.specs.Prefix.{Prefix, prefix, Lease, lease, exclude_bytes, unpacked}
use Rattle.rules.specs.Options.{Area, area_of, check, options, nth, content, Item, item, printed}
use Rattle.rules.specs.declared.Level.TheVariants.{Top}
use Rattle.rules.specs.declared.Spot.{Spot}

-- ---------------------------------------------------------------- the values

-- an IA Prefix: its lifetimes, its prefix with the excluded one, and its Status Codes
pub record Listed : Type 0 where
  pub preferred : ℕ
  pub valid : ℕ
  pub lease : Lease
  pub statuses : List ℕ

-- an IA_PD: its IA Prefixes and its own Status Codes, each in order
pub record Ia : Type 0 where
  pub iaid : ℕ
  pub t1 : ℕ
  pub t2 : ℕ
  pub listed : List Listed
  pub statuses : List ℕ

-- a message: its Client IDs, Server IDs, whether an Option Request has code 67, its own Status Codes, its IA_PDs
pub record Message : Type 0 where
  pub kind : ℕ
  pub number : ℕ
  pub clients : List (List ℕ)
  pub servers : List (List ℕ)
  pub asks : Bool
  pub statuses : List ℕ
  pub ias : List Ia

-- ---------------------------------------------------------------- reading

abbrev pub status_at : List ℕ → Option Spot → ℕ
status_at m (Some o) = u16_at m o.start
status_at m None = 0

-- the excluded prefix inside p
abbrev pub except_at : List ℕ → Prefix → Option Spot → Option Prefix
except_at m p (Some o) = Some (unpacked p (get_or m o.start 0) (num_at m (o.start + 1) (o.len - 1)))
except_at m p None = None

-- "preferred, valid (4 each), length (1), prefix (16), options", where the content starts at s and its options are a
abbrev pub listed_in : List ℕ → ℕ → Area → Listed
listed_in m s a = record {
  preferred = num_at m s 4;
  valid = num_at m (s + 4) 4;
  lease =
      lease (prefix (num_at m (s + 9) 16) (get_or m (s + 8) 0))
      (except_at m (prefix (num_at m (s + 9) 16) (get_or m (s + 8) 0)) (nth 67 0 a));
  statuses = map (status_at m) (options 13 a);
}

unfoldable pub listed_at : List ℕ → Option Spot → Listed
listed_at m (Some o) = listed_in m o.start (area_of m (o.start + 25) (o.start + o.len))
listed_at m None = record { preferred = 0; valid = 0; lease = lease (prefix 0 0) None; statuses = [] }

-- "IAID, T1, T2 (4 bytes each), then options"
abbrev pub ia_in : List ℕ → ℕ → Area → Ia
ia_in m s a = record {
  iaid = num_at m s 4;
  t1 = num_at m (s + 4) 4;
  t2 = num_at m (s + 8) 4;
  listed = map (listed_at m) (options 26 a);
  statuses = map (status_at m) (options 13 a);
}

unfoldable pub ia_at : List ℕ → Option Spot → Ia
ia_at m (Some o) = ia_in m o.start (area_of m (o.start + 12) (o.start + o.len))
ia_at m None = record { iaid = 0; t1 = 0; t2 = 0; listed = []; statuses = [] }

-- the codes of an Option Request, and whether 67 is one of them
unfoldable pub codes : List ℕ → List ℕ
codes [] = []
codes (x ∷ []) = []
codes (x ∷ y ∷ l) = (x * 256 + y) ∷ codes l

abbrev pub asks67 : List ℕ → Bool
asks67 l = any (eqb 67) (codes l)

-- a message: type, transaction number, options a
abbrev pub read_in : List ℕ → Area → Message
read_in m a = record {
  kind = get_or m 0 0;
  number = num_at m 1 3;
  clients = map (content m) (options 1 a);
  servers = map (content m) (options 2 a);
  asks = any asks67 (map (content m) (options 6 a));
  statuses = map (status_at m) (options 13 a);
  ias = map (ia_at m) (options 25 a);
}

-- the message's own option area
unfoldable pub top : List ℕ → Area
top m = area_of m 4 (length m)

unfoldable pub read : List ℕ → Message
read m = read_in m (top m)

-- no option of the message is malformed
unfoldable pub well_formed : List ℕ → Bool
well_formed m = is_ok (check Top m 4 (length m))

-- ---------------------------------------------------------------- writing

-- "In a Status Code the text is the status name in ASCII, without a closing zero."
--   Success, NoBinding, NoPrefixAvail; of any other status we write no text
unfoldable pub name_of : ℕ → List ℕ
name_of k =
    cond (eqb k 0) (0x53 ∷ 0x75 ∷ 0x63 ∷ 0x63 ∷ 0x65 ∷ 0x73 ∷ 0x73 ∷ [])
    (cond (eqb k 3) (0x4e ∷ 0x6f ∷ 0x42 ∷ 0x69 ∷ 0x6e ∷ 0x64 ∷ 0x69 ∷ 0x6e ∷ 0x67 ∷ [])
    (cond (eqb k 6) (0x4e ∷ 0x6f ∷ 0x50 ∷ 0x72 ∷ 0x65 ∷ 0x66 ∷ 0x69 ∷ 0x78 ∷ 0x41 ∷ 0x76 ∷ 0x61 ∷ 0x69 ∷ 0x6c ∷ [])
    []))

abbrev pub status_item : ℕ → Item
status_item k = item 13 (be16 k ++ name_of k)

abbrev pub except_items : ℕ → Option Prefix → List Item
except_items a None = []
except_items a (Some e) = item 67 (exclude_bytes a e) ∷ []

unfoldable pub listed_bytes : Listed → List ℕ
listed_bytes x =
    be 4 x.preferred ++ (be 4 x.valid ++ (x.lease.prefix.length ∷ (be 16 x.lease.prefix.bits
    ++ printed (except_items x.lease.prefix.length x.lease.except ++ map status_item x.statuses))))

abbrev pub listed_item : Listed → Item
listed_item x = item 26 (listed_bytes x)

unfoldable pub ia_bytes : Ia → List ℕ
ia_bytes i = be 4 i.iaid ++ (be 4 i.t1 ++ (be 4 i.t2 ++ printed (map listed_item i.listed ++ map status_item i.statuses)))

abbrev pub ia_item : Ia → Item
ia_item i = item 25 (ia_bytes i)

-- "Option Request with 67"
abbrev pub asks_items : Bool → List Item
asks_items true = item 6 (be16 67) ∷ []
asks_items false = []

unfoldable pub items : Message → List Item
items v =
    map (item 1) v.clients ++ (map (item 2) v.servers ++ (asks_items v.asks
    ++ (map status_item v.statuses ++ map ia_item v.ias)))

unfoldable pub print : Message → List ℕ
print v = v.kind ∷ (be 3 v.number ++ printed (items v))
