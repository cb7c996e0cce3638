-- Lone options: what a writer writes reads back as what was meant, and a text of bytes that reads is the one that is written.
--   Wrote, write_done     what a writer's success says
--   lone-round, -round    a reader on what a writer gives; each reader and its writer
--   Alone, lone-done      what a reader's success says
--   lone_same, -unique    a text of bytes that reads is the option with what was read
use Rattle.std.specs.Prelude.{◌≡◌, refl, Bool, true, false, not, ◌&&◌, ◌||◌, List, [], ◌∷◌, ℕ, suc, ◌+◌, ◌-◌, ◌*◌, ◌≤◌, ◌^◌, eqb, leb, ltb, length, get_or, Ok, is_ok}
use Rattle.std.proofs.Common.{ap, sym, ◌∙◌, append-nil, arith, eq-eqb, le-ltb, eqb-true, leb-true, ltb-true, ltb-false}
use Rattle.std.proofs.lemmas.Bool.{not-false}
use Rattle.std.proofs.Math.Arith.{digits_div, digits_mod}
use Rattle.std.proofs.Math.Seq.{take-length}
use Rattle.rules.specs.Words.{all, part, num, be16, num_at, u16_at}
use Rattle.rules.specs.Refusals.{done, wrong_size}
use Rattle.rules.specs.Prefix.{Prefix, exclude_bytes, encodable, lease_encodable, content_ok, unpacked}
use Rattle.rules.specs.Options.{own, exclude_ok, content, option}
use Rattle.rules.specs.Message.{Listed, Ia, status_at, listed_at, ia_at, codes, asks67, listed_bytes, ia_bytes}
use Rattle.rules.specs.Lone.{reader_tests, alone, only, lone, read_id, read_request, read_status, read_pd, read_prefix, read_exclude, writer_tests, write, write_id, write_request, write_status, write_exclude, listed_encodes, ia_encodes, write_prefix, write_pd}
use Rattle.rules.specs.declared.Level.{Level}
use Rattle.rules.specs.declared.Level.TheVariants.{Top, InPd, InPrefix}
use Rattle.laws.specs.Tests.{both, neither}
use Rattle.laws.specs.Parts.{part-cons}
use Rattle.laws.specs.Numbers.{Bytes, bytes-part, num_at-is}
use Rattle.laws.specs.Refusals.{unless-done, unless-made}
use Rattle.laws.specs.Every.{every-weaker, every-all}
use Rattle.laws.specs.Exclude.{encodes, unpacked-encodable, packed-unpacked}
use Rattle.laws.specs.Stands.{Stands, Heads, stands-all, stands-part, stands-u16, stands-option, option-length}
use Rattle.laws.specs.Round.{FineListed, FineIa, status_bytes, status-good, exclude-length, exclude-well, exclude-found, listed-well, listed_found, ia-well, ia-found}
use Rattle.laws.specs.Told.{wants-good, is-good}
use Rattle.laws.specs.Sizes.{name-most}

-- ---------------------------------------------------------------- a reader on what a writer gives

pub record Wrote (encodes : Bool) (w : ℕ) (s t : List ℕ) : Type 0 where
  pub encoded : encodes ≡ true
  pub few : length s ≤ 65535
  pub text : t ≡ option w s

pub write_done : (b : Bool) (w : ℕ) (s : List ℕ) (room : ℕ) {t : List ℕ} → write b w s room ≡ done t → Wrote b w s t
write_done b w s room {t} h =
    let u = unless-done (writer_tests (b && leb (length s) 65535) (option w s) room) h in
    let p = both b (leb (length s) 65535) (not-false _ u.0.0) in
    let q : option w s ≡ t = cc in
    record { encoded = p.0; few = leb-true _ _ p.1; text = sym q }

pub text-length : {b : Bool} {w : ℕ} {s t : List ℕ} → Wrote b w s t → length t ≡ 4 + length s
text-length {w = w} {s = s} r = ap length r.text ∙ option-length w s

-- the option of code w with the content s, where it is good and reads as a
module _ {A : Type 0} (l : Level) (w : ℕ) (s : List ℕ) (value : List ℕ → A) {a : A} {b : Bool} {t : List ℕ} where
  pub lone-round : Wrote b w s t → length t ≤ 1232
      → (Stands (option w s) 4 s → own l (option w s) 0 0 w 4 (length s) ≡ Ok tt)
      → (Stands (option w s) 4 s → length (option w s) ≡ 4 + length s → value (option w s) ≡ a)
      → lone l w value t ≡ done a
  lone-round r size good is =
      let o = option w s in
      let n : length o ≡ 4 + length s = option-length w s in
      let k = text-length r in
      let h : Heads o 0 w s [] = stands-option w s [] (rw append-nil (stands-all o)) in
      let fills : alone l w o ≡ true = simp (h.code, h.size, eq-eqb w w refl, eq-eqb (4 + length s) (length o) (sym n), good h.here) in
      let sized : wrong_size o ≡ false = rw (le-ltb (length o) 4 (omega arith), le-ltb 1232 (length o) (omega arith)) in
      ap (lone l w value) r.text ∙ unless-made (reader_tests o (alone l w o)) (done (value o)) (sized, (ap not fills, tt)) ∙ ap done (is h.here n)

-- ---------------------------------------------------------------- each reader and its writer

-- a Client ID or Server ID, or any other code whose content isn't judged
pub id-round : (w : ℕ) (d : List ℕ) (room : ℕ) {t : List ℕ} → eqb w 25 || eqb w 6 || eqb w 13 ≡ false
    → write_id w d room ≡ done t → length t ≤ 1232 → read_id w t ≡ done d
unfolding read_id write_id own
id-round w d room f e n =
    let g = neither (eqb w 25 || eqb w 6) (eqb w 13) f in
    let i = neither (eqb w 25) (eqb w 6) g.0 in
    lone-round Top w d (λ t. content t (only t)) (write_done true w d room e) n (λ h. rw (i.0, i.1, g.1)) (λ h k. stands-part h (omega arith))

pub request-round : (room : ℕ) {t : List ℕ} → write_request room ≡ done t → read_request t ≡ done true
unfolding read_request write_request own codes
request-round room e =
    let r = write_done true 6 (be16 67) room e in
    lone-round Top 6 (be16 67) (λ t. asks67 (content t (only t))) r (omega (arith, text-length r)) (λ h. refl) (λ h k. ap asks67 (stands-part h (omega arith)))

pub status-round : (k room : ℕ) {t : List ℕ} → write_status k room ≡ done t → read_status t ≡ done k
unfolding read_status write_status own
status-round k room e =
    let r = write_done (ltb k 65536) 13 (status_bytes k) room e in
    lone-round Top 13 (status_bytes k) (λ t. status_at t (only t)) r (omega (arith, text-length r, name-most k)) (λ h. status-good k 0) (λ h n. stands-u16 k h)

pub exclude-round : (p e : Prefix) (room : ℕ) {t : List ℕ} → write_exclude p e room ≡ done t → read_exclude p t ≡ done e
unfolding read_exclude write_exclude own
exclude-round p e room h =
    let s = exclude_bytes p.length e in
    let r = write_done (encodable p e) 67 s room h in
    let i = encodes p e r.encoded in
    lone-round (InPrefix p.length) 67 s (λ t. unpacked p (get_or t 4 0) (num_at t 5 (length t - 5))) r
    (omega (arith, text-length r, exclude-length p.length e))
    (λ g. rw (exclude-well p e r.encoded g))
    (λ g k. let n : length (option 67 s) - 5 ≡ length s - 1 = omega arith in rw n (exclude-found p e r.encoded g))

-- what the writer takes reads back
fine-listed : (x : Listed) → listed_encodes x ≡ true → FineListed x
fine-listed x e =
    let a = both _ (all (λ k. ltb k 65536) x.statuses) e in
    let b = both _ (lease_encodable x.lease.prefix x.lease.except) a.0 in
    let c = both (ltb x.preferred (2 ^ 32)) (ltb x.valid (2 ^ 32)) b.0 in
    record { preferred = ltb-true _ _ c.0; valid = ltb-true _ _ c.1; encodes = b.1 }

fine-ia : (i : Ia) → ia_encodes i ≡ true → FineIa i
fine-ia i e =
    let a = both _ (all (λ k. ltb k 65536) i.statuses) e in
    let b = both _ (all listed_encodes i.listed) a.0 in
    let c = both _ (ltb i.t2 (2 ^ 32)) b.0 in
    let d = both (ltb i.iaid (2 ^ 32)) (ltb i.t1 (2 ^ 32)) c.0 in
    record {
      iaid = ltb-true _ _ d.0;
      t1 = ltb-true _ _ d.1;
      t2 = ltb-true _ _ c.1;
      listed = every-weaker fine-listed i.listed (every-all listed_encodes i.listed b.1);
    }

pub prefix-round : (x : Listed) (room : ℕ) {t : List ℕ} → write_prefix x room ≡ done t → length t ≤ 1232 → read_prefix t ≡ done x
unfolding read_prefix write_prefix own
prefix-round x room e n =
    let s = listed_bytes x in
    let r = write_done (listed_encodes x) 26 s room e in
    let g = fine-listed x r.encoded in
    lone-round InPd 26 s (λ t. listed_at t (only t)) r n (λ h. listed-well x g h 0 0)
    (λ h k. let l : length (option 26 s) - 4 ≡ length s = omega arith in rw l (listed_found x g h 0))

pub pd-round : (i : Ia) (room : ℕ) {t : List ℕ} → write_pd i room ≡ done t → length t ≤ 1232 → read_pd t ≡ done i
unfolding read_pd write_pd own
pd-round i room e n =
    let s = ia_bytes i in
    let r = write_done (ia_encodes i) 25 s room e in
    let g = fine-ia i r.encoded in
    lone-round Top 25 s (λ t. ia_at t (only t)) r n (λ h. ia-well i g h 0 0)
    (λ h k. let l : length (option 25 s) - 4 ≡ length s = omega arith in rw l (ia-found i g h 0))

-- ---------------------------------------------------------------- what a reader's success says

pub record Alone {A : Type 0} (l : Level) (w : ℕ) (value : List ℕ → A) (t : List ℕ) (a : A) : Type 0 where
  pub least : 4 ≤ length t
  pub most : length t ≤ 1232
  pub code : u16_at t 0 ≡ w
  pub fills : 4 + u16_at t 2 ≡ length t
  pub good : own l t 0 0 w 4 (u16_at t 2) ≡ Ok tt
  pub read : value t ≡ a

pub lone-done : {A : Type 0} (l : Level) (w : ℕ) (value : List ℕ → A) (t : List ℕ) {a : A} → lone l w value t ≡ done a → Alone l w value t a
lone-done l w value t {a} h =
    let u = unless-done (reader_tests t (alone l w t)) h in
    let z = neither (ltb (length t) 4) (ltb 1232 (length t)) u.0.0 in
    let x = both (eqb (u16_at t 0) w && eqb (4 + u16_at t 2) (length t)) (is_ok (own l t 0 0 w 4 (u16_at t 2))) (not-false (alone l w t) u.0.1.0) in
    let y = both (eqb (u16_at t 0) w) (eqb (4 + u16_at t 2) (length t)) x.0 in
    record {
      least = ltb-false _ _ z.0;
      most = ltb-false _ _ z.1;
      code = eqb-true _ _ y.0;
      fills = eqb-true _ _ y.1;
      good = is-good _ x.1;
      read = cc;
    }

-- ---------------------------------------------------------------- a text of bytes that reads is the one that is written

option-same : (t : List ℕ) (w : ℕ) → Bytes t → 4 ≤ length t → u16_at t 0 ≡ w → 4 + u16_at t 2 ≡ length t → t ≡ option w (part 4 (length t - 4) t)
unfolding option part
option-same [] w y h c f = absurd (omega arith)
option-same (x ∷ []) w y h c f = absurd (omega arith)
option-same (x ∷ z ∷ []) w y h c f = absurd (omega arith)
option-same (x ∷ z ∷ u ∷ []) w y h c f = absurd (omega arith)
option-same (x ∷ z ∷ u ∷ v ∷ r) w y h c f =
    let n : length (x ∷ z ∷ u ∷ v ∷ r) - 4 ≡ length r = omega arith in
    let k : length r ≡ u * 256 + v = omega arith in
    rw (n, take-length, k, ← c, digits_div x (y 1), digits_mod x (y 1), digits_div u (y 3), digits_mod u (y 3))

pub lone_same : {A : Type 0} {l : Level} {w : ℕ} {value : List ℕ → A} {t : List ℕ} {a : A} → Bytes t → Alone l w value t a
    → t ≡ option w (part 4 (length t - 4) t)
lone_same {w = w} {t = t} y h = option-same t w y h.least h.code h.fills

pub id-unique : (w : ℕ) (t d : List ℕ) → Bytes t → read_id w t ≡ done d → t ≡ option w d
unfolding read_id
id-unique w t d y e = let h = lone-done Top w (λ t. content t (only t)) t e in lone_same y h ∙ ap (option w) h.read

pub record Excluded (p e : Prefix) (t : List ℕ) : Type 0 where
  pub encoded : encodable p e ≡ true
  pub text : t ≡ option 67 (exclude_bytes p.length e)

pub exclude-unique : (p e : Prefix) (t : List ℕ) → Bytes t → read_exclude p t ≡ done e → Excluded p e t
unfolding read_exclude own
exclude-unique p e t y q =
    let a = p.length in
    let b = get_or t 4 0 in
    let n = u16_at t 2 in
    let l = part 5 (n - 1) t in
    let h = lone-done (InPrefix a) 67 (λ t. unpacked p (get_or t 4 0) (num_at t 5 (length t - 5))) t q in
    let o = both (ltb 0 n) (content_ok a b l) (wants-good (exclude_ok t a 4 n) 0 h.good) in
    let r = ltb-true 0 n o.0 in
    let f : 4 + n ≡ length t = h.fills in
    let z : length t - 5 ≡ n - 1 = omega arith in
    let m : num_at t 5 (length t - 5) ≡ num l = ap (num_at t 5) z ∙ num_at-is t 5 (n - 1) y (omega arith) in
    let i : unpacked p b (num l) ≡ e = sym (ap (unpacked p b) m) ∙ h.read in
    let k : length t - 4 ≡ suc (n - 1) = omega arith in
    let s : part 4 (length t - 4) t ≡ b ∷ l = ap (λ (j : ℕ). part 4 j t) k ∙ part-cons 4 (n - 1) t 0 (omega arith) in
    let c = bytes-part 5 (n - 1) t y in
    record {
      encoded = rw i at (unpacked-encodable p b l c o.1);
      text = lone_same y h ∙ ap (option 67) (s ∙ sym (packed-unpacked p b l c o.1) ∙ ap (exclude_bytes a) i);
    }
