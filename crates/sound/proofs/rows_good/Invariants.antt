use Rattle.std.proofs.Common.{◌≡◌, ◌-◌}
use Rattle.rules.specs.Words.{all, from}
use Rattle.rules.specs.TableBytes.{row_at, settings_of}
use Rattle.laws.specs.Flat.{good_row}
use Rattle.sound.proofs.rows_good.Given as goal

abbrev pub invariant-loop-i : goal.invariant-loop-i
invariant-loop-i l = all (good_row (settings_of l.t)) (from (row_at l.t) 0 l.n) ≡ all (good_row (settings_of l.t)) (from (row_at l.t) l.i (l.n - l.i))
