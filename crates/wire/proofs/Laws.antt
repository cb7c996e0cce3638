-- Laws that only these proofs need.
use Rattle.std.specs.Prelude.{Ok, Option, Some}
use mathlib.Core.Path.{◌≡◌, refl, sym, ap, ◌∙◌, subst}
use mathlib.Core.List.{List, []}
use mathlib.Core.Bool.{true, false}
use Prim.Native.Nat.{ℕ, ◌+◌, ◌-◌, ◌*◌, ◌^◌, ◌≤◌, ◌<◌}
use native.Mathlib.Omega.{arith}
use native.Mathlib.Nat.{add-sub_cancel_left}
use borrow.Author.Tests.{eq-eqb, ne_eqb, lt-ltb, ltb-true}
use lib.Dec.{ltb}
use lib.ListN.{length, get_or, take, drop}
use Rattle.rules.specs.Words.{part, num, be, num_at, u16_at}
use Rattle.rules.specs.Prefix.{prefix, content_ok, unpacked}
use Rattle.rules.specs.Options.{in_any, exclude_ok, own, area_of, count, nth, content, Checked, spot}
use Rattle.rules.specs.Message.{except_at, listed_at, top}
use Rattle.rules.specs.declared.Level.{Level}
use Rattle.rules.specs.declared.Level.TheVariants.{Top, InPd, InPrefix}
use Rattle.rules.specs.declared.Spot.{Spot}
use Rattle.laws.specs.Tests.{both, false-true}
use Rattle.laws.specs.Parts.{part-cons}
use Rattle.laws.specs.Numbers.{Bytes, bytes-part, num-lt, num_at-is}
use Rattle.laws.specs.Exclude as exclude
use Rattle.wire.specs.Client.{client_stretch}
use Rattle.wire.specs.Judged.{is_judged}
use Rattle.values.specs.Values.{except_of, lease_of, listed_of}
use Rattle.values.specs.declared.IaPrefix.{IaPrefix}

-- the Client ID of a message, by how many there are and where the first is
module _ (m : List ℕ) where
  pub client-other : {k : ℕ} → k ≡ count 1 (area_of m 4 (length m)) → (k ≡ 1 → ⊥) → [] ≡ client_stretch m
  unfolding client_stretch top
  client-other q h = rw (← q, ne_eqb _ _ h)

  pub client-one : {k : ℕ} {f : Option Spot} → k ≡ count 1 (area_of m 4 (length m)) → k ≡ 1 → f ≡ nth 1 0 (area_of m 4 (length m)) → content m f ≡ client_stretch m
  unfolding client_stretch top
  client-one q h g = rw (← q, eq-eqb _ _ h, ← g)

  pub stretch : (s n : ℕ) → take (s + n - s) (drop s m) ≡ part s n m
  unfolding part
  stretch s n = rw add-sub_cancel_left

-- the number in two bytes
pub two_bytes : (m : List ℕ) (at : ℕ) → Bytes m → at + 2 ≤ length m → num_at m at 2 ≡ u16_at m at
unfolding num part
two_bytes m at b h = num_at-is m at 2 b h ∙ rw (part-cons at 1 m 0 (omega arith), part-cons (at + 1) 0 m 0 (omega arith)) (omega arith)

-- how deep areas can lie in one at a level
abbrev pub rank : Level → ℕ
rank Top = 2
rank InPd = 1
rank (InPrefix a) = 0

-- an option that isn't judged is good, and no PD Exclude
unjudged : (c w : ℕ) → is_judged w ≡ true → is_judged c ≡ false → c ≡ w → ⊥
unjudged c w h g e = false-true (sym g ∙ rw e h)

module _ (c : ℕ) (h : is_judged c ≡ false) where
  pub not-exclude : c ≡ 67 → ⊥
  unfolding is_judged
  not-exclude = unjudged c 67 refl h

  any-good : (p n : ℕ) → in_any p c n ≡ Ok tt
  unfolding is_judged
  any-good p n = rw (ne_eqb c 13 (unjudged c 13 refl h))

  pub other-good : (l : Level) (m : List ℕ) (k p s n : ℕ) → own l m k p c s n ≡ Ok tt
  unfolding own is_judged
  other-good Top m k p s n = rw (ne_eqb c 25 (unjudged c 25 refl h), ne_eqb c 6 (unjudged c 6 refl h)) (any-good p n)
  other-good InPd m k p s n = rw (ne_eqb c 26 (unjudged c 26 refl h)) (any-good p n)
  other-good (InPrefix a) m k p s n = rw (ne_eqb c 67 (unjudged c 67 refl h)) (any-good p n)

pub own_is : (m : List ℕ) (k p c s n : ℕ) {l l' : Level} {r : Checked} → l ≡ l' → r ≡ own l' m k p c s n → r ≡ own l m k p c s n
own_is m k p c s n e q = q ∙ sym (ap (λ (l : Level). own l m k p c s n) e)

-- a PD Exclude's content after its first byte, as a part of the message
pub tail : (m : List ℕ) (s n : ℕ) → 0 < n → take (s + n - (s + 1)) (drop (s + 1) m) ≡ part (s + 1) (n - 1) m
unfolding part
tail m s n h = let e : s + n - (s + 1) ≡ n - 1 = omega arith in rw e

pub tail-ok : (m : List ℕ) (a s n : ℕ) {b : ℕ} → 0 < n → b ≡ get_or m s 0 → content_ok a b (take (s + n - (s + 1)) (drop (s + 1) m)) ≡ exclude_ok m a s n
tail-ok m a s n h q = rw (tail m s n h, q, lt-ltb 0 n h)

pub exclude-some : (m : List ℕ) (a s n : ℕ) → exclude_ok m a s n ≡ true → 0 < n
exclude-some m a s n h = ltb-true 0 n (both (ltb 0 n) (content_ok a (get_or m s 0) (part (s + 1) (n - 1) m)) h).0

-- what is unpacked is the excluded prefix that is read
pub cut-read : (m p : List ℕ) (a s n : ℕ) → Bytes m → Bytes p → length p ≡ 16 → s + n ≤ length m → exclude_ok m a s n ≡ true → {b : ℕ} → b ≡ get_or m s 0
    → (o : List ℕ) → o ≡ be 16 (unpacked (prefix (num p) a) b (num (take (s + n - (s + 1)) (drop (s + 1) m)))).bits → except_of b o ≡ except_at m (prefix (num p) a) (Some (spot 0 s n))
unfolding except_of unpacked
cut-read m p a s n bm bp lp w h {b} q o r =
    let c = part (s + 1) (n - 1) m in
    let e = both (ltb 0 n) (content_ok a (get_or m s 0) c) h in
    let z : 0 < n = ltb-true 0 n e.0 in
    let g = exclude.content a (get_or m s 0) c e.1 in
    let u : num p < 2 ^ 128 = subst (λ (k : ℕ). num p < 2 ^ (8 * k)) lp (num-lt p bp) in
    let v : num o ≡ (unpacked (prefix (num p) a) (get_or m s 0) (num c)).bits =
    ap num r ∙ rw (tail m s n z, q) (exclude.unpacked-num (prefix (num p) a) (get_or m s 0) c (bytes-part (s + 1) (n - 1) m bm) e.1 u) in
    rw (v, q, ne_eqb (get_or m s 0) 0 (λ x. omega (arith, g.more)), num_at-is m (s + 1) (n - 1) bm (omega arith))

-- an IA Prefix is what its fields are
pub listed-read : (m : List ℕ) (s n : ℕ) (x : IaPrefix) → Bytes m → s + 25 ≤ length m → x.preferred ≡ num_at m s 4 → x.valid ≡ num_at m (s + 4) 4 → x.length ≡ get_or m (s + 8) 0
    → x.bits ≡ part (s + 9) 16 m → except_of x.cut x.out ≡ except_at m (prefix (num x.bits) x.length) (nth 67 0 (area_of m (s + 25) (s + n)))
    → listed_of x (listed_at m (Some (spot 0 s n))).statuses ≡ listed_at m (Some (spot 0 s n))
unfolding listed_of lease_of listed_at
listed-read m s n x bm w p v l b o = simp (o, p, v, l, ap num b ∙ sym (num_at-is m (s + 9) 16 bm (omega arith)))
