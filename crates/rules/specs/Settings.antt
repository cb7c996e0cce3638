-- Settings of the box.
use Rattle.std.specs.Prelude.{ℕ, Bool, ◌&&◌, leb}
use Rattle.rules.specs.Prefix.{Prefix, fits, zero_after}
use Rattle.rules.specs.Clock.{Lifetime, for_ever}
use Rattle.rules.specs.Identity.{Duid, good_duid}

pub record Settings : Type 0 where
  pub pool : Prefix
  pub shortest : ℕ
  pub standard : ℕ
  pub preferred : Lifetime
  pub valid : Lifetime
  pub exclusion : Bool
  pub own : Duid

-- "Pool length P from 32 to 56, all bits after P zero. Shortest delegation S and default D, with P ≤ S ≤ D ≤ 60.
-- Preferred lifetime at least 120 and at most the valid lifetime; 0xFFFFFFFF means for ever.
-- Exclusion on or off; the box's own DUID of 3 to 130 bytes."
unfoldable pub good_settings : Settings → Bool
good_settings s =
    leb 32 s.pool.length && leb s.pool.length 56 && fits s.pool && zero_after s.pool
    && leb s.pool.length s.shortest && leb s.shortest s.standard && leb s.standard 60
    && leb 120 s.preferred && leb s.preferred s.valid && leb s.valid for_ever
    && good_duid s.own
