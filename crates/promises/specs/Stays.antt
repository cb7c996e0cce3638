-- A sound table stays sound, and the last time never falls.
use Rattle.std.specs.Prelude.{◌≡◌, refl, true, ◌≤◌}
use Rattle.rules.specs.Table.{sound}
use Rattle.rules.specs.Box.{table_after}
use Rattle.rules.specs.Promises.{StaysSound, ClockKept}
use Rattle.laws.specs.Refusals.{two}
use Rattle.laws.specs.Accepted.{accepted, sound-after}

pub stays-sound : StaysSound
stays-sound T T' now m a room e = let p = accepted e in two (λ t b. sound t ≡ true) p.1 (sound-after p.0)

pub clock-kept : ClockKept
unfolding table_after
clock-kept T T' now m a room e = let p = accepted e in two (λ t b. (T.last ≤ now) × (t.last ≡ now)) p.1 (p.0.late, refl)
