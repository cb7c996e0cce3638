-- Laws of the readers' answers.
--   Alone             what is known of a text that is one option
--   refused, given    a lone option is refused with the number that was found, or its value is given
--   alone-is, pd-long a text that isn't refused is one option; of an IA_PD it has the three numbers
--   exclude-read, ..  the value of an answer is the value that is to be given
use mathlib.Core.Path.{◌≡◌, sym, ap, ◌∙◌}
use mathlib.Core.Bool.{Bool, true, false, cond, not, ◌&&◌}
use mathlib.Core.List.{List, [], ◌∷◌}
use Rattle.std.specs.Prelude.{None, Some, Err, Ok, Option, Result, is_ok}
use Prim.Native.Nat.{ℕ, ◌+◌, ◌-◌, ◌≤◌}
use native.Mathlib.Omega.{arith}
use lib.Dec.{eqb, ltb}
use lib.ListN.{length, get_or, length-map}
use borrow.Author.Tests.{eqb-true, ltb-false}
use Rattle.rules.specs.Words.{num, num_at, u16_at}
use Rattle.rules.specs.Refusals.{refuse, done, unless, wrong_size, outcome, number_of}
use Rattle.rules.specs.declared.Refusal.{Refusal}
use Rattle.laws.specs.Refusals.{unless-done, unless-made}
use Rattle.laws.specs.Every.{Every}
use Rattle.std.proofs.lemmas.Bool.{not-false}
use Rattle.lone.specs.declared.PdRead.{PdRead}
use Rattle.lone.specs.Answers.{pd_head}
use Rattle.rules.specs.Prefix.{Prefix, prefix, unpacked}
use Rattle.rules.specs.Options.{area_of, own, count, nth, spot}
use Rattle.rules.specs.Message.{except_at, ia_at, well_formed}
use Rattle.rules.specs.Lone.{alone, only, lone, reader_tests, read_message, Summary, summary}
use Rattle.rules.specs.declared.Level.{Level}
use Rattle.rules.specs.declared.Spot.{Spot}
use Rattle.rules.specs.declared.Level.TheVariants.{Top}
use Rattle.laws.specs.Formed.{PdFormed, judged-pd}
use Rattle.laws.specs.Tests.{both, neither}
use Rattle.laws.specs.Told.{is-good}
use Rattle.values.specs.Values.{except_of}
use Rattle.notes.specs.Noted.{IsNote}
use Rattle.notes.specs.declared.Note.{Note}

-- ---------------------------------------------------------------- a text that is one option

pub record Alone (l : Level) (w : ℕ) (m : List ℕ) : Type 0 where
  pub long : 4 ≤ length m
  pub good : own l m 0 0 w 4 (length m - 4) ≡ Ok tt

-- ---------------------------------------------------------------- refused or given

refused_too : {A B : Type 0} (ts : List (ℕ × Bool)) (x : A) (y : B) {n : ℕ} → refuse n ≡ unless ts (done x) → refuse n ≡ unless ts (done y)
refused_too [] x y h = cc
refused_too (t ∷ ts) x y {n} h = by t.1 h (refused_too ts x y)
  where
    by : (b : Bool) → refuse n ≡ cond b (refuse t.0) (unless ts (done x)) → (refuse n ≡ unless ts (done x) → refuse n ≡ unless ts (done y))
        → refuse n ≡ cond b (refuse t.0) (unless ts (done y))
    by true h g = cc
    by false h g = g h

module _ (l : Level) (w : ℕ) (m : List ℕ) {r : Result (Unit {0}) Refusal} (q : outcome r ≡ unless (reader_tests m (alone l w m)) (done tt)) where
  pub refused : {A : Type 0} (value : List ℕ → A) {e : Refusal} → r ≡ Err e → refuse (number_of e) ≡ lone l w value m
  refused value {e} h = refused_too (reader_tests m (alone l w m)) tt (value m) (sym (ap outcome h) ∙ q)

  passed : {u : Unit {0}} → r ≡ Ok u → Every (λ t. t.1 ≡ false) (reader_tests m (alone l w m))
  passed {u} h = (unless-done {a = u} (reader_tests m (alone l w m)) (sym q ∙ ap outcome h)).0

  pub given : {A : Type 0} (value : List ℕ → A) {u : Unit {0}} → r ≡ Ok u → done (value m) ≡ lone l w value m
  given value h = sym (unless-made (reader_tests m (alone l w m)) (done (value m)) (passed h))

  -- the text is one option
  pub alone-is : {u : Unit {0}} → r ≡ Ok u → Alone l w m
  alone-is h =
      let s : (wrong_size m ≡ false) × (not (alone l w m) ≡ false) = ((passed h).0, (passed h).1.0) in
      let a = both (eqb (u16_at m 0) w && eqb (4 + u16_at m 2) (length m)) (is_ok (own l m 0 0 w 4 (u16_at m 2))) (not-false (alone l w m) s.1) in
      let b = both (eqb (u16_at m 0) w) (eqb (4 + u16_at m 2) (length m)) a.0 in
      let f : 4 + u16_at m 2 ≡ length m = eqb-true (4 + u16_at m 2) (length m) b.1 in
      let e : u16_at m 2 ≡ length m - 4 = omega arith in
      record { long = omega arith; good = rw (← e) (is-good (own l m 0 0 w 4 (u16_at m 2)) a.1) }

-- an IA_PD has its three numbers
pub pd-long : (m : List ℕ) {r : Result (Unit {0}) Refusal} → outcome r ≡ unless (reader_tests m (alone Top 25 m)) (done tt)
    → {u : Unit {0}} → r ≡ Ok u → 16 ≤ length m
pd-long m q h =
    let one : Alone Top 25 m = alone-is Top 25 m q h in
    let pd : PdFormed m 4 (length m - 4) = judged-pd m 0 0 4 (length m - 4) (omega (arith, one)) one.good in
    omega (arith, pd, one)

-- ---------------------------------------------------------------- values

except-some : (b : ℕ) (o : List ℕ) (t : Bool) {x : Prefix} → cond t None (Some (prefix (num o) b)) ≡ Some x → prefix (num o) b ≡ x
except-some b o true h = let z : ◌≡◌ {A = ℕ} 0 1 = cc in absurd (omega arith)
except-some b o false h = cc

pub exclude-read : (m : List ℕ) (p : Prefix) (b : ℕ) (o : List ℕ) → except_of b o ≡ except_at m p (Some (spot 0 4 (length m - 4)))
    → prefix (num o) b ≡ unpacked p (get_or m 4 0) (num_at m 5 (length m - 5))
unfolding except_of
exclude-read m p b o h =
    let e : length m - 4 - 1 ≡ length m - 5 = omega arith in
    except-some b o (eqb b 0) (h ∙ ap (λ (n : ℕ). Some (unpacked p (get_or m 4 0) (num_at m 5 n))) e)

pub pd-read : (m : List ℕ) → 4 ≤ length m → {i a b n : ℕ} {f : Option Spot} → i ≡ num_at m 4 4 → a ≡ num_at m 8 4 → b ≡ num_at m 12 4 → n ≡ count 26 (area_of m 16 (length m))
    → f ≡ nth 26 0 (area_of m 16 (length m)) → ◌≡◌ {A = PdRead} (record { iaid = i; t1 = a; t2 = b; prefixes = n; first = f }) (pd_head m (ia_at m (only m)))
unfolding ia_at
pd-read m h p q r s t =
    let e : 4 + (length m - 4) ≡ length m = omega arith in
    simp (p, q, r, s, t, e, length-map)

module _ (m : List ℕ) {s : Bool} (q : s ≡ wrong_size m) where
  pub sized : s ≡ false → 4 ≤ length m
  sized h = ltb-false (length m) 4 (neither (ltb (length m) 4) (ltb 1232 (length m)) (sym q ∙ h)).0

  pub message-size : s ≡ true → refuse 3 ≡ read_message m
  unfolding read_message
  message-size h = rw (← q, h)

  pub message-bad : {g : Bool} → s ≡ false → g ≡ well_formed m → g ≡ false → refuse 5 ≡ read_message m
  unfolding read_message
  message-bad h w b = rw (← q, h, ← w, b)

  pub message-read : {g : Bool} {x : Summary} → s ≡ false → g ≡ well_formed m → g ≡ true → x ≡ summary m → done x ≡ read_message m
  unfolding read_message
  message-read h w b e = rw (← q, h, ← w, b, e)

pub summed : (m : List ℕ) {k x : ℕ} {c s p : Note} → k ≡ get_or m 0 0 → x ≡ num_at m 1 3 → IsNote 1 m c → IsNote 2 m s → IsNote 25 m p
    → ◌≡◌ {A = Summary} (record { kind = k; number = x; clients = c.count; client = c.first; servers = s.count; server = s.first; pds = p.count; pd = p.first }) (summary m)
unfolding summary
summed m a b c s p = simp (a, b, c.counts, c.begins, s.counts, s.begins, p.counts, p.begins)
