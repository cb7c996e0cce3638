-- A sound table stays sound under each change of its records.
--   tidied-keeps                  the last time set, and the ended records dropped
--   extended-, removed-keeps      one record's end set, one taken out
--   bound-keeps                   a new one put last
--   kept-bytes                    so the bytes that a change leaves are sound, and are read as the changed table
use Rattle.std.specs.Prelude.{◌≡◌, true, List, ℕ, ◌<◌, ◌^◌, length, None}
use Rattle.std.proofs.Common.{arith}
use Rattle.rules.specs.Clock.{Moment, good_end}
use Rattle.rules.specs.Prefix.{Lease}
use Rattle.rules.specs.Identity.{Identity}
use Rattle.rules.specs.Table.{Record, Table, may_stand, good_record, sound}
use Rattle.rules.specs.TableBytes.{table_bytes, table_of, sound_bytes}
use Rattle.rules.specs.Choose.{free}
use Rattle.rules.specs.Box.{binding, bind}
use Rattle.laws.specs.One.{changed, without, changed-length, all_changed, two-changed, all_without, two-without, without-few}
use Rattle.laws.specs.Sound.{Sound, sound-facts, sound-made, GoodRecord, record-made, ending-good, Fine, last-fine}
use Rattle.laws.specs.Represent.{represented}
use Rattle.laws.specs.Change.{tidied, tidied-sound, on_records, ending, held}

-- no two that may stand together feel their ends
apart-still : (e : Moment) (x y : Record) → may_stand x y ≡ true → (may_stand (ending e x) y ≡ true) × (may_stand x (ending e y) ≡ true)
unfolding may_stand
apart-still e x y h = (h, h)

module _ (t : Table) (h : sound t ≡ true) where
  facts : Sound t
  facts = sound-facts t h

  fine : Fine t.settings t.records
  fine = record { few = facts.few; good = facts.good; together = facts.together }

  still : (rs : List Record) → Fine t.settings rs → sound (on_records (λ _. rs) t) ≡ true
  still rs f = sound-made _ (record { settings = facts.settings; few = f.few; good = f.good; together = f.together; time = facts.time })

  pub tidied-keeps : (now : Moment) → now < 2 ^ 48 → sound (tidied now t) ≡ true
  tidied-keeps now soon = sound-made (tidied now t) (tidied-sound t facts now soon)

  pub extended-keeps : (k : ℕ) (e : Moment) → good_end e ≡ true → sound (on_records (changed (ending e) k) t) ≡ true
  extended-keeps k e g = still _ (record {
    few = rw (changed-length (ending e) k t.records) fine.few;
    good = all_changed (good_record t.settings) (ending e) (λ r. ending-good t.settings r e g) k t.records fine.good;
    together = two-changed may_stand (ending e) (apart-still e) k t.records fine.together;
  })

  pub removed-keeps : (k : ℕ) → sound (on_records (without k) t) ≡ true
  removed-keeps k = still _ (record {
    few = omega (arith, without-few k t.records, fine.few);
    good = all_without (good_record t.settings) k t.records fine.good;
    together = two-without may_stand k t.records fine.together;
  })

  -- one that is good beside the settings, whose identity isn't bound yet and whose prefix is free
  pub bound-keeps : (i : Identity) (l : Lease) (e : Moment) → length t.records < 256 → GoodRecord t.settings (record { owner = i; lease = l; end = e })
      → free t.records l.prefix ≡ true → binding i t.records ≡ None → sound (on_records (bind i l e) t) ≡ true
  bound-keeps i l e room g f b = still _ (last-fine t.settings t.records (record { owner = i; lease = l; end = e }) fine room (record-made t.settings _ g) f b)

pub kept-bytes : (b c : List ℕ) (t : Table) → sound_bytes b ≡ true → (sound (table_of b) ≡ true → sound t ≡ true) → c ≡ table_bytes t
    → (sound_bytes c ≡ true) × (table_of c ≡ t)
kept-bytes b c t h keeps e = represented t (sound-facts t (keeps (sound-made (table_of b) (held b h).sound))) e
