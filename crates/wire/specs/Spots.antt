-- The options of one code in an area, as the places where they stand.
use Rattle.std.specs.Prelude.{List, [], ◌∷◌, None, Option, Some}
use Rattle.rules.specs.Options.{area_of, options}
use Rattle.rules.specs.declared.Spot.{Spot}
use Rattle.wire.specs.declared.options.Options.{Options}

-- the options of a list that are there
abbrev pub there : List (Option Spot) → List Spot
there [] = []
there (None ∷ l) = there l
there (Some o ∷ l) = o ∷ there l

-- what is still to come
abbrev pub left : Options → List Spot
left s = there (options s.code (area_of s.msg.now s.at s.end))
