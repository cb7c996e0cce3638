-- Prefixes: 128 bits as one number, with a length; and the excluded prefix as RFC 6603 writes it.
--   size, front, zero_after   how many addresses; the first bits; the bits after them are zero
--   overlap, inside          two prefixes share an address; one lies wholly in the other
--   last_of, next_place        a prefix's last address; the first aligned place above an address
--   last64                   the last /64 of a delegation
--   Lease                    a delegation, with its excluded prefix or none: one value in record, hold and offer
--   packed, unpacked         the bits of an excluded prefix moved to a byte boundary, and back
use Rattle.std.specs.Prelude.{ℕ, ◌+◌, ◌-◌, ◌*◌, ◌/◌, ◌%◌, ◌^◌, min, Bool, true, false, ◌&&◌, List, ◌∷◌, eqb, leb, ltb, length, Option, None, Some}
use Rattle.rules.specs.Words.{num, be}

pub record Prefix : Type 0 where
  pub bits : ℕ
  pub length : ℕ

abbrev pub prefix : ℕ → ℕ → Prefix
prefix p a = record { bits = p; length = a }

-- how many addresses a prefix of length a has
abbrev pub size : ℕ → ℕ
size a = 2 ^ (128 - a)

-- the first a bits
abbrev pub front : ℕ → ℕ → ℕ
front p a = p / size a

-- "zero bits after it"
abbrev pub zero_after : Prefix → Bool
zero_after p = eqb (p.bits % size p.length) 0

-- of 128 bits and at most 128 long
abbrev pub fits : Prefix → Bool
fits p = leb p.length 128 && ltb p.bits (2 ^ 128)

-- the same length and the same 128 bits
abbrev pub same_prefix : Prefix → Prefix → Bool
same_prefix p q = eqb p.length q.length && eqb p.bits q.bits

-- the same first bits, as many as the shorter one has
unfoldable pub overlap : Prefix → Prefix → Bool
overlap p q = eqb (front p.bits (min p.length q.length)) (front q.bits (min p.length q.length))

-- p lies wholly inside q: it is no shorter, and its first bits are q's
unfoldable pub inside : Prefix → Prefix → Bool
inside p q = leb q.length p.length && eqb (front p.bits q.length) (front q.bits q.length)

-- the last address of a prefix with zero bits after it
abbrev pub last_of : Prefix → ℕ
last_of p = p.bits + (size p.length - 1)

-- the first place for length a, aligned to its size, that is above an address
unfoldable pub next_place : ℕ → ℕ → ℕ
next_place address a = (address / size a + 1) * size a

-- "the last /64 of its delegation"
unfoldable pub last64 : Prefix → Prefix
last64 p = prefix (p.bits + (size p.length - size 64)) 64

-- ---------------------------------------------------------------- PD Exclude

-- ⌈(b−a)/8⌉ bytes hold bits a to b−1, and so many bits of the last one are padding
abbrev pub bytes_for : ℕ → ℕ → ℕ
bytes_for a b = (b - a + 7) / 8

abbrev pub pad : ℕ → ℕ → ℕ
pad a b = 8 * bytes_for a b - (b - a)

-- "bits a to b−1 of the excluded prefix, moved left to a byte boundary, zero-padded"
unfoldable pub packed : ℕ → Prefix → ℕ
packed a e = front e.bits e.length % 2 ^ (e.length - a) * 2 ^ pad a e.length

-- PD Exclude's content inside a prefix of length a: "Excluded length b, then bits a to b−1"
unfoldable pub exclude_bytes : ℕ → Prefix → List ℕ
exclude_bytes a e = e.length ∷ be (bytes_for a e.length) (packed a e)

-- "Encoding an excluded prefix needs the first a bits equal and all bits after b zero", and a+1 ≤ b ≤ 128
unfoldable pub encodable : Prefix → Prefix → Bool
encodable p e = ltb p.length e.length && leb e.length 128 && eqb (front e.bits p.length) (front p.bits p.length) && zero_after e

-- "a+1 ≤ b ≤ 128. Content length is 1 + ⌈(b−a)/8⌉", and no pad bit is 1; l is what follows the excluded length b
unfoldable pub content_ok : ℕ → ℕ → List ℕ → Bool
content_ok a b l = ltb a b && leb b 128 && eqb (length l) (bytes_for a b) && eqb (num l % 2 ^ pad a b) 0

-- the excluded prefix of length b whose packed bits are c, inside p
unfoldable pub unpacked : Prefix → ℕ → ℕ → Prefix
unpacked p b c = prefix (front p.bits p.length * size p.length + c / 2 ^ pad p.length b * size b) b

-- ---------------------------------------------------------------- a delegation with its excluded prefix

pub record Lease : Type 0 where
  pub prefix : Prefix
  pub except : Option Prefix

abbrev pub lease : Prefix → Option Prefix → Lease
lease p e = record { prefix = p; except = e }

-- the last /64 of p, where that is excluded
abbrev pub except_for : Bool → Prefix → Option Prefix
except_for true p = Some (last64 p)
except_for false p = None

-- "with its excluded prefix or none, an encoding"
abbrev pub lease_encodable : Prefix → Option Prefix → Bool
lease_encodable p None = fits p
lease_encodable p (Some e) = fits p && encodable p e
