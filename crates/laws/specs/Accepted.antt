-- A message that the box doesn't refuse: what is known of it, and that its answer can be sent.
--   Accepted, accepted    every test of the box fails
--   asker-good, ..        the asker's identity, the records that are left, the table after
--   answer-sendable       the answer has an encoding and at most 442 bytes
use Rattle.std.specs.Prelude.{◌≡◌, true, false, not, List, [], ◌∷◌, map, ℕ, ◌≤◌, ◌<◌, ◌^◌, eqb, leb, get_or, None, Option, Some}
use Rattle.std.proofs.Common.{arith}
use Rattle.std.proofs.Math.ListN.{length}
use borrow.Author.Tests.{leb-true, ltb-false, lt-ltb, not-false}
use Rattle.rules.specs.Refusals.{Res, done, wrong_size}
use Rattle.rules.specs.Message.{Message, ia_at, top, read, well_formed}
use Rattle.rules.specs.Options.{options}
use Rattle.rules.specs.Clock.{Moment}
use Rattle.rules.specs.Identity.{good_identity, served, row_holds, kind_of, is_release}
use Rattle.rules.specs.Settings.{Settings}
use Rattle.rules.specs.Table.{Record, Table, live, current, sound}
use Rattle.rules.specs.Box.{Asked, client_of, ia_of, asked_by, serving, table_after, answer_after, wrong_pds, is_silence, box_tests, box_answer, box_handle}
use Rattle.rules.specs.declared.Spot.{Spot}
use Rattle.laws.specs.Tests.{both, both-made}
use Rattle.laws.specs.Kinds.{row-one-client}
use Rattle.laws.specs.Refusals.{unless-done, in-time}
use Rattle.laws.specs.Numbers.{num_at-fits}
use Rattle.laws.specs.Round.{Fine as Told}
use Rattle.laws.specs.Told.{read-fine, ia-of-fine}
use Rattle.laws.specs.Sent.{Sendable, GoodVerdict, answer-sent}
use Rattle.laws.specs.Said.{Quiet, said}
use Rattle.laws.specs.Sound.{Good, good-facts, sound-facts, sound-made, Fine, give-up-fine, serve-fine}

-- ---------------------------------------------------------------- a message that isn't refused

pub record Accepted (T : Table) (now : Moment) (m : List ℕ) (room : ℕ) : Type 0 where
  pub sound-table : sound T ≡ true
  pub late : T.last ≤ now
  pub soon : now < 2 ^ 48
  pub roomy : 512 ≤ room
  pub sized : wrong_size m ≡ false
  pub kind : served (read m).kind ≡ true
  pub formed : well_formed m ≡ true
  pub row : row_holds T.settings.own (read m) ≡ true
  pub pds : wrong_pds (read m) ≡ false
  pub heard : is_silence (serving T now (read m)).verdict ≡ false

pub accepted : {T T' : Table} {now : Moment} {m a : List ℕ} {room : ℕ} → box_handle T now m room ≡ done (T', a)
    → Accepted T now m room × (◌≡◌ {A = Res (Table × List ℕ)} (done (box_answer T now (read m))) (done (T', a)))
unfolding box_handle
accepted {T} {T'} {now} {m} {a} {room} e =
    let p = unless-done (box_tests T now m (read m) room) e in
    let q = p.0 in
    let t = in-time T.last now q.1.0 in (
      record {
        sound-table = not-false _ q.0;
        late = t.0;
        soon = t.1;
        roomy = ltb-false room 512 q.1.1.0;
        sized = q.1.1.1.0;
        kind = not-false _ q.1.1.1.1.0;
        formed = not-false _ q.1.1.1.1.1.0;
        row = not-false _ q.1.1.1.1.1.1.0;
        pds = q.1.1.1.1.1.1.1.0;
        heard = q.1.1.1.1.1.1.1.1.0;
      },
      p.1,
    )

-- ---------------------------------------------------------------- the asker

-- an IAID that is read has 32 bits
iaid-fits : (m : List ℕ) (l : List (Option Spot)) → (get_or (map (ia_at m) l) 0 (record { iaid = 0; t1 = 0; t2 = 0; listed = []; statuses = [] })).iaid < 2 ^ 32
unfolding ia_at
iaid-fits m [] = omega arith
iaid-fits m (Some o ∷ l) = num_at-fits m o.start 4
iaid-fits m (None ∷ l) = omega arith

pub asked-iaid : (m : List ℕ) → (ia_of (read m)).iaid < 2 ^ 32
unfolding read
asked-iaid m = iaid-fits m (options 25 (top m))

module _ {T : Table} {now : Moment} {m : List ℕ} {room : ℕ} (a : Accepted T now m room) where
  pub asker-good : good_identity (asked_by (read m)).who ≡ true
  asker-good = both-made (row-one-client T.settings.own (read m) a.kind a.row).1 (lt-ltb _ (2 ^ 32) (asked-iaid m))

  pub fine-records : Fine T.settings (current now T.records)
  fine-records =
      let s = sound-facts T a.sound-table in
      give-up-fine T.settings (λ r. not (live now r)) T.records (record { few = s.few; good = s.good; together = s.together })

  pub sound-after : sound (table_after T now (read m)) ≡ true
  unfolding table_after serving
  sound-after =
      let s = sound-facts T a.sound-table in
      let f = serve-fine T.settings now (asked_by (read m)) (current now T.records) (good-facts T.settings s.settings) asker-good a.soon fine-records
      (kind_of (read m).kind) in
      sound-made _ (record { settings = s.settings; few = f.few; good = f.good; together = f.together; time = a.soon })

-- ---------------------------------------------------------------- its answer

module _ {T : Table} {n : Moment} {m : List ℕ} {room : ℕ} (a : Accepted T n m room) where
  abbrev v : Message
  v = read m

  abbrev s : Settings
  s = T.settings

  abbrev rs : List Record
  rs = current n T.records

  abbrev q : Asked
  q = asked_by v

  good : Good s
  good = good-facts s (sound-facts T a.sound-table).settings

  told-fine : Told v
  told-fine = read-fine m a.formed

  listed-few : length q.listed ≤ 4
  listed-few = leb-true _ 4 (both (eqb (length v.ias) 1) (leb (length q.listed) 4) (not-false _ a.pds)).1

  pub verdict-said : GoodVerdict (is_release (kind_of v.kind)) (serving T n v).verdict × Quiet (serving T n v).verdict
  unfolding serving
  verdict-said = said s n q rs good (asker-good a) a.soon (fine-records a) (ia-of-fine v told-fine).listed listed-few (kind_of v.kind)

  -- the answer has an encoding and fits its room
  pub answer-sendable : Sendable (answer_after T n v) 442
  unfolding answer_after
  answer-sendable =
      let c = row-one-client s.own v a.kind a.row in
      let few : length (client_of v) ≤ 130 = leb-true _ 130 (both (leb 3 (length (client_of v))) (leb (length (client_of v)) 130) c.1).1 in
      let own : length s.own ≤ 130 = leb-true _ 130 (both (leb 3 (length s.own)) (leb (length s.own) 130) good.own).1 in
      answer-sent s v (ia_of v).iaid (rw c.0 (omega arith)) (rw c.0 (few, tt)) own (omega (arith, good.preferred-valid, good.valid-32)) (omega (arith, good.valid-32))
      (asked-iaid m) told-fine (serving T n v).verdict verdict-said.0
