-- Options on the wire: one walk over an option area, what is malformed, and the options that stand in an area.
--   step_at, Area, area_of   what stands at a place; an area as the list of its options, with where the walk stops
--   scan, check            the first bad place of an area, for each level: the message, an IA_PD, an IA Prefix
--   options, nth, content  the options of one code, in order; the k-th; the stretch of the message that is its content
--   option, Item, printed  the bytes of an option; options by code and content; their bytes
use Rattle.std.specs.Prelude.{ℕ, zero, suc, ◌+◌, ◌-◌, ◌%◌, Bool, true, false, cond, ◌&&◌, List, [], ◌∷◌, ◌++◌, eqb, leb, ltb, length, get_or, Option, None, Some, Result, Ok, Err}
use Rattle.rules.specs.Words.{cons_if, part, be16, u16_at}
use Rattle.rules.specs.Prefix.{content_ok}
use Rattle.rules.specs.declared.Level.{Level}
use Rattle.rules.specs.declared.Level.TheVariants.{Top, InPd, InPrefix}
use Rattle.rules.specs.declared.Step.{Step}
use Rattle.rules.specs.declared.Step.TheVariants.{Opt, End, Bad}
use Rattle.rules.specs.declared.Spot.{Spot}

-- ---------------------------------------------------------------- the walk

-- "Code (2 bytes), length (2), content": what stands at a place of an area that ends at e.
-- Bad are "one to three bytes left over" and "a length running past its enclosing area".
abbrev pub step_at : List ℕ → ℕ → ℕ → Step
step_at m at e =
    cond (leb e at) End
    (cond (ltb (e - at) 4) (Bad at)
    (cond (ltb (e - at - 4) (u16_at m (at + 2))) (Bad at)
    (Opt (u16_at m at) (at + 4) (u16_at m (at + 2)) (at + 4 + u16_at m (at + 2)))))

-- An area: its options, each with its place, code, start and length, up to its end or to the place where the walk stops.
pub data Area : Type 0 where
  over : Area
  stop : ℕ → Area
  opt : ℕ → ℕ → ℕ → ℕ → Area → Area

abbrev pub grow : (ℕ → Area) → ℕ → Step → Area
grow w at (Opt c s n x) = opt at c s n (w x)
grow w at End = over
grow w at (Bad p) = stop p

unfoldable pub walk : ℕ → List ℕ → ℕ → ℕ → Area
walk zero m at e = over
walk (suc f) m at e = grow (λ x. walk f m x e) at (step_at m at e)

-- the area of the message m from `at` to e; each step goes on by four bytes or more
unfoldable pub area_of : List ℕ → ℕ → ℕ → Area
area_of m at e = walk (suc (e - at)) m at e

-- ---------------------------------------------------------------- what is malformed

-- an area is well formed, or its first bad option or leftover byte stands at a place
abbrev pub Checked : Type 0
Checked = Result (Unit {0}) ℕ

abbrev pub and_then : Checked → Checked → Checked
and_then (Ok u) r = r
and_then (Err p) r = Err p

-- the option at p is good, or broken there
abbrev pub wants : Bool → ℕ → Checked
wants true p = Ok tt
wants false p = Err p

-- The first bad place of an area. `own` judges one option, by how many PD Excludes stand before it, its place, code, start and length.
unfoldable pub scan : (ℕ → ℕ → ℕ → ℕ → ℕ → Checked) → ℕ → Area → Checked
scan own k over = Ok tt
scan own k (stop p) = Err p
scan own k (opt p c s n r) = and_then (own k p c s n) (scan own (cond (eqb c 67) (k + 1) k) r)

-- "Status Code: at least 2", and every other code is stepped over
abbrev pub in_any : ℕ → ℕ → ℕ → Checked
in_any p c n = cond (eqb c 13) (wants (leb 2 n) p) (Ok tt)

-- PD Exclude "read only inside an IA Prefix of length a": b, then its packed bits; "At most one per IA Prefix."
abbrev pub exclude_ok : List ℕ → ℕ → ℕ → ℕ → Bool
exclude_ok m a s n = ltb 0 n && content_ok a (get_or m s 0) (part (s + 1) (n - 1) m)

abbrev pub in_prefix : List ℕ → ℕ → ℕ → ℕ → ℕ → ℕ → ℕ → Checked
in_prefix m a k p c s n = cond (eqb c 67) (wants (eqb k 0 && exclude_ok m a s n) p) (in_any p c n)

unfoldable pub check_prefix : List ℕ → ℕ → ℕ → ℕ → Checked
check_prefix m a at e = scan (in_prefix m a) 0 (area_of m at e)

-- IA Prefix: "Length at least 25; prefix length at most 128. Read only inside an IA_PD."
abbrev pub in_pd : List ℕ → ℕ → ℕ → ℕ → ℕ → ℕ → Checked
in_pd m k p c s n =
    cond (eqb c 26)
    (and_then (wants (leb 25 n && leb (get_or m (s + 8) 0) 128) p) (check_prefix m (get_or m (s + 8) 0) (s + 25) (s + n)))
    (in_any p c n)

unfoldable pub check_pd : List ℕ → ℕ → ℕ → Checked
check_pd m at e = scan (in_pd m) 0 (area_of m at e)

-- IA_PD: "Length at least 12." "Option Request: even length." Both are "read only in the message's own area".
abbrev pub in_top : List ℕ → ℕ → ℕ → ℕ → ℕ → ℕ → Checked
in_top m k p c s n =
    cond (eqb c 25) (and_then (wants (leb 12 n) p) (check_pd m (s + 12) (s + n)))
    (cond (eqb c 6) (wants (eqb (n % 2) 0) p)
    (in_any p c n))

-- one option at a level, and an area there
unfoldable pub own : Level → List ℕ → ℕ → ℕ → ℕ → ℕ → ℕ → Checked
own Top m k p c s n = in_top m k p c s n
own InPd m k p c s n = in_pd m k p c s n
own (InPrefix a) m k p c s n = in_prefix m a k p c s n

unfoldable pub check : Level → List ℕ → ℕ → ℕ → Checked
check l m at e = scan (own l m) 0 (area_of m at e)

-- ---------------------------------------------------------------- the options of an area

-- an option at p, with n bytes of content from s on
abbrev pub spot : ℕ → ℕ → ℕ → Spot
spot p s n = record { place = p; start = s; len = n }

unfoldable pub options : ℕ → Area → List (Option Spot)
options w over = []
options w (stop p) = []
options w (opt p c s n r) = cons_if (eqb c w) (Some (spot p s n)) (options w r)

abbrev pub count : ℕ → Area → ℕ
count w a = length (options w a)

abbrev pub nth : ℕ → ℕ → Area → Option Spot
nth w k a = get_or (options w a) k None

-- "handed back as that stretch of the message"
abbrev pub content : List ℕ → Option Spot → List ℕ
content m (Some o) = part o.start o.len m
content m None = []

-- ---------------------------------------------------------------- the bytes of an option

unfoldable pub option : ℕ → List ℕ → List ℕ
option c s = be16 c ++ (be16 (length s) ++ s)

pub data Item : Type 0 where
  item : ℕ → List ℕ → Item

unfoldable pub printed : List Item → List ℕ
printed [] = []
printed (item c s ∷ r) = option c s ++ printed r
