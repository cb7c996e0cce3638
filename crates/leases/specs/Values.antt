-- Settings as code has them: the pool by its upper 64 bits.
use Rattle.std.specs.Prelude.{ℕ, ◌*◌, ◌^◌, Bool}
use Rattle.rules.specs.Prefix.{prefix}
use Rattle.rules.specs.Clock.{Lifetime}
use Rattle.rules.specs.Identity.{Duid}
use Rattle.rules.specs.Settings.{Settings}

abbrev pub settings_for : ℕ → ℕ → ℕ → ℕ → Bool → Lifetime → Lifetime → Duid → Settings
settings_for p a shortest standard exclusion preferred valid own = record {
  pool = prefix (p * 2 ^ 64) a;
  shortest = shortest;
  standard = standard;
  preferred = preferred;
  valid = valid;
  exclusion = exclusion;
  own = own;
}
