-- A message handled: what the judgement's number says, and what serving leaves of the table without ended records.
use mathlib.Core.Path.{◌≡◌, refl, sym, ap, ◌∙◌}
use mathlib.Core.Bool.{Bool, true, false, not}
use mathlib.Core.List.{List, [], ◌∷◌}
use Rattle.std.specs.Prelude.{Result, Err}
use Prim.Native.Nat.{ℕ, ◌<◌, ◌^◌}
use native.Mathlib.Omega.{arith}
use borrow.Author.Tests.{not-false, ltb-false}
use lib.Dec.{ltb}
use lib.ListN.{length}
use Rattle.rules.specs.Words.{splice}
use Rattle.rules.specs.Refusals.{Res, done, unless, bad_time, little_room, wrong_size}
use Rattle.rules.specs.Message.{read, well_formed, print}
use Rattle.rules.specs.Identity.{kind_of, is_release, served, row_holds}
use Rattle.rules.specs.Settings.{Settings}
use Rattle.rules.specs.Table.{Table, sound}
use Rattle.rules.specs.TableBytes.{settings_of, table_bytes, table_of, sound_bytes}
use Rattle.rules.specs.Box.{Verdict, offer, return, say, success, silence, serving, table_after, answer_after, wrong_pds, is_silence, box_tests, box_answer, box_handle}
use Rattle.rules.specs.Lent.{ended, word_of, settle, box_handled}
use Rattle.rules.specs.declared.Refusal.{Refusal}
use Rattle.laws.specs.Tests.{neither}
use Rattle.laws.specs.Every.{Every}
use Rattle.laws.specs.Refusals.{number, refused_by, stops, word_refused, none-applies, number-refused, unless-made}
use Rattle.laws.specs.Round.{FineListed}
use Rattle.laws.specs.Sent.{GoodVerdict}
use Rattle.laws.specs.Sound.{Good, good-facts, sound-facts, sound-made}
use Rattle.laws.specs.Change.{tidied, on_records, held, tidied-held}
use Rattle.laws.specs.Accepted.{Accepted, accepted, verdict-said, answer-sendable}
use Rattle.notes.specs.Noted.{Noted, Heard}
use Rattle.notes.specs.Facts.{is-noted}
use Rattle.notes.specs.declared.Notes.{Notes}
use Rattle.judge.specs.Judged.{judged}
use Rattle.said.specs.Said.{listed_for}
use Rattle.act.specs.Serve.{service_on, reply_on, served_on, Ready}
use Rattle.delegator.proofs.Laws.{table-once}

-- ---------------------------------------------------------------- the tests

module _ (b m : List ℕ) (now room : ℕ) where
  abbrev T : Table
  T = table_of b

  -- the tests after the first
  abbrev rest : List (ℕ × Bool)
  rest =
      (1, bad_time T.last now)
      ∷ (2, little_room room)
      ∷ (3, wrong_size m)
      ∷ (4, not (served (read m).kind))
      ∷ (5, not (well_formed m))
      ∷ (6, not (row_holds T.settings.own (read m)))
      ∷ (7, wrong_pds (read m))
      ∷ (8, is_silence (serving T now (read m)).verdict)
      ∷ []

  abbrev tests : List (ℕ × Bool)
  tests = (9, not (sound_bytes b)) ∷ rest

  judged-is : judged b now m room ≡ number tests
  unfolding judged
  judged-is = refl

  abbrev reply : Res (Table × List ℕ)
  reply = done (box_answer T now (read m))

  -- what is settled
  handled-is : (out : List ℕ) → length out ≡ room → box_handled b now m out ≡ settle table_bytes b out (unless tests reply)
  unfolding box_handled box_handle
  handled-is out e = rw e (ap (settle table_bytes b out) (table-once b rest reply))

  pub refused : {A : Type 0} {q : Result A Refusal} → refused_by q ≡ judged b now m room → {f : Refusal} {r : Result ℕ Refusal} → q ≡ Err f → r ≡ Err f
      → (out : List ℕ) → length out ≡ room → ended (word_of r) b out ≡ box_handled b now m out
  refused e h g out l =
      ap (λ w. ended w b out) (word_refused h g)
      ∙ sym (handled-is out l ∙ ap (settle table_bytes b out) (number-refused tests reply (e ∙ judged-is) (stops h)))

  module _ {n : ℕ} (e : n ≡ judged b now m room) where
    module _ (z : n ≡ 0) where
      passed : Every (λ r. r.1 ≡ false) tests
      passed = none-applies tests refl (e ∙ judged-is) z

      pub is-sound : sound_bytes b ≡ true
      is-sound = not-false _ passed.0

      pub is-accepted : Accepted T now m room
      unfolding box_handle
      is-accepted =
          let s : sound T ≡ true = sound-made T (held b is-sound).sound in
          (accepted (unless-made (box_tests T now m (read m) room) reply (ap not s, passed.1))).0

-- ---------------------------------------------------------------- the table without ended records

-- a good verdict lists what is fine
fine-listed : (s : Settings) (r : Bool) (v : Verdict) → s.preferred < 2 ^ 32 → s.valid < 2 ^ 32 → GoodVerdict r v → Every FineListed (listed_for s v)
fine-listed s r (offer l xs) p w g = (record { preferred = p; valid = w; encodes = g.1.encodes }, g.2.fine)
fine-listed s r (return xs) p w g = g.1.fine
fine-listed s r (say k) p w g = tt
fine-listed s r success p w g = tt
fine-listed s r silence p w g = tt

module _ (b m : List ℕ) (now room : ℕ) {n : ℕ} (j : n ≡ judged b now m room) (z : n ≡ 0) {c : List ℕ} (e : c ≡ table_bytes (tidied now (table_of b))) where
  a : Accepted (table_of b) now m room
  a = is-accepted b m now room j z

  left : (sound_bytes c ≡ true) × (table_of c ≡ tidied now (table_of b))
  left = tidied-held b c now (is-sound b m now room j z) a.soon e

  settings-same : settings_of c ≡ (table_of b).settings
  unfolding table_of
  settings-same = ap (λ (t : Table). t.settings) left.1

  service-is : service_on c now m ≡ serving (table_of b) now (read m)
  unfolding serving
  service-is = rw (settings-same, left.1)

  reply-is : reply_on c now m ≡ answer_after (table_of b) now (read m)
  unfolding reply_on answer_after
  reply-is = rw (service-is, settings-same)

  table_is : on_records (λ _. (service_on c now m).records) (table_of c) ≡ table_after (table_of b) now (read m)
  unfolding table_after
  table_is = rw (service-is, left.1)

  good : Good (table_of b).settings
  good = good-facts (table_of b).settings (sound-facts (table_of b) a.sound-table).settings

  pub is-ready : Ready c now m
  is-ready = record {
    understood = record { sound = left.0; kind = a.kind; formed = a.formed; row = rw left.1 a.row; pds = a.pds };
    soon = a.soon;
    long = ltb-false (length m) 4 (neither (ltb (length m) 4) (ltb 1232 (length m)) a.sized).0;
    fine = rw (service-is, settings-same) (fine-listed (table_of b).settings (is_release (kind_of (read m).kind)) (serving (table_of b) now (read m)).verdict (omega (arith, good.preferred-valid, good.valid-32)) (omega (arith, good.valid-32)) (verdict-said a).0);
    size = rw reply-is (answer-sendable a).size;
  }

  pub has-notes : (s : Notes) → Heard m s → Noted m s
  has-notes s h = is-noted m s h a.sized a.formed

  pub is-handled : (out : List ℕ) → length out ≡ room → served_on c now m out ≡ box_handled b now m out
  unfolding served_on
  is-handled out l = rw (reply-is, table_is) (sym (settled out l))
    where
      settled : (out : List ℕ) → length out ≡ room → box_handled b now m out
          ≡ ended (length (print (answer_after (table_of b) now (read m)))) (table_bytes (table_after (table_of b) now (read m))) (splice 0 (print (answer_after (table_of b) now (read m))) out)
      settled out l = handled-is b m now room out l ∙ ap (settle table_bytes b out) (unless-made (tests b m now room) (reply b m now room) (passed b m now room j z))
