-- What callers show with the records and settings of a sound table, and what they get.
use Rattle.std.specs.Prelude.{◌≡◌, refl, true, List, ℕ, ◌≤◌, leb, length, Option}
use Rattle.std.proofs.Common.{sym, ap, subst, arith, le-leb}
use Rattle.rules.specs.Words.{all, from}
use Rattle.rules.specs.Prefix.{Prefix, zero_after}
use Rattle.rules.specs.Settings.{Settings, good_settings}
use Rattle.rules.specs.Table.{Record, area, good_record}
use Rattle.rules.specs.TableBytes.{table_size, record_at}
use Rattle.rules.specs.Choose.{choose}
use Rattle.laws.specs.Loops.{all-sub}
use Rattle.laws.specs.Choose.{Lengths}
use Rattle.laws.specs.Sound.{good-facts, record-facts, sound-aligned}
use Rattle.laws.specs.Choosing.{same-choose}
use Rattle.prefix.specs.Upper.{upper}
use Rattle.choose.specs.Choice.{chooser, Walkable}

pub walkable : (s : Settings) (l : List ℕ) (n pool width : ℕ) → s.pool ≡ upper pool width → good_settings s ≡ true → all (good_record s) (from (record_at l) 0 n) ≡ true
    → n ≤ 256 → table_size ≤ length l → Walkable l n pool width
walkable s l n pool width e g r few long =
    let f = good-facts s g in
    let w : s.pool.length ≡ width = ap (λ (p : Prefix). p.length) e in
    record {
      few = few;
      room = long;
      some = omega (arith, f.least-32);
      zeros = subst (λ (p : Prefix). zero_after p ≡ true) e f.lengths.aligned;
      aligned = sound-aligned s (from (record_at l) 0 n) r;
      short = all-sub (good_record s) (λ q. leb (area q).length 60) (λ q h. le-leb _ _ (record-facts s q h).most) (from (record_at l) 0 n) r;
    }

module _ (s : Settings) (pool width : ℕ) (e : s.pool ≡ upper pool width) where
  pub lengths : Lengths s → Lengths (chooser pool width s.shortest s.standard)
  lengths g = record { aligned = subst (λ (p : Prefix). zero_after p ≡ true) e g.aligned; pool-shortest = subst (λ (p : Prefix). p.length ≤ s.shortest) e g.pool-shortest; shortest-standard = g.shortest-standard; standard-60 = g.standard-60 }

  pub chosen : (rs : List Record) (h : Option Prefix) → choose (chooser pool width s.shortest s.standard) rs h ≡ choose s rs h
  chosen rs h = same-choose (chooser pool width s.shortest s.standard) s rs (sym e) refl refl h
