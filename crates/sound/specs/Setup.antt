-- The box's settings as code holds them: numbers, with the box's own DUID left in the table.
use Rattle.std.specs.Prelude.{ℕ, ◌≡◌, List}
use Rattle.rules.specs.Identity.{Duid}
use Rattle.rules.specs.Settings.{Settings}
use Rattle.rules.specs.TableBytes.{settings_of}
use Rattle.prefix.specs.Upper.{half_of}
use Rattle.sound.specs.declared.Setup.{Setup}

abbrev pub setup_of : Setup → Duid → Settings
setup_of s own = record {
  pool = half_of s.pool;
  shortest = s.shortest;
  standard = s.standard;
  preferred = s.preferred;
  valid = s.valid;
  exclusion = s.exclusion;
  own = own;
}

-- with the DUID of the table b, they are its settings
abbrev pub Agrees : Setup → List ℕ → Type 0
Agrees s b = setup_of s (settings_of b).own ≡ settings_of b
