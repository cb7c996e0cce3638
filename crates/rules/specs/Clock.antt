-- Moments and lifetimes: "Seconds remaining (a lifetime) and moments of the clock (an end) are kept apart"
use Rattle.std.specs.Prelude.{ℕ, ◌+◌, ◌-◌, ◌^◌, max, Bool, cond, ◌||◌, eqb, ltb}

abbrev pub Moment : Type 0
Moment = ℕ

abbrev pub Lifetime : Type 0
Lifetime = ℕ

-- "0xFFFFFFFF means for ever"
abbrev pub for_ever : Lifetime
for_ever = 2 ^ 32 - 1

-- the end that never comes is above every other moment, so "after" and "the later of" need no case for it
abbrev pub never : Moment
never = 2 ^ 64 - 1

-- a lifetime added to a moment gives a moment
unfoldable pub plus : Moment → Lifetime → Moment
plus t v = cond (eqb v for_ever) never (t + v)

-- "each end is below 2^49 or never"
abbrev pub good_end : Moment → Bool
good_end e = ltb e (2 ^ 49) || eqb e never

-- "Extending. The end becomes the later of its old value and now plus the valid lifetime."
abbrev pub extended : Moment → Moment → Lifetime → Moment
extended end now valid = max end (plus now valid)
