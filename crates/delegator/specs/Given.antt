-- The settings that a start is given: the pool by the halves of its prefix.
use Rattle.std.specs.Prelude.{ℕ, ◌+◌, ◌*◌, ◌^◌, Bool}
use Rattle.rules.specs.Prefix.{prefix}
use Rattle.rules.specs.Clock.{Lifetime}
use Rattle.rules.specs.Identity.{Duid}
use Rattle.rules.specs.Settings.{Settings}

abbrev pub given : ℕ → ℕ → ℕ → ℕ → ℕ → Lifetime → Lifetime → Bool → Duid → Settings
given high low width shortest standard preferred valid exclusion own = record {
  pool = prefix (high * 2 ^ 64 + low) width;
  shortest = shortest;
  standard = standard;
  preferred = preferred;
  valid = valid;
  exclusion = exclusion;
  own = own;
}
