-- What is read of any list fits its fields, and what is read of a well-formed message is fine, so that it prints back.
--   ToldListed, ToldIa, -told    the numbers of an IA Prefix and of an IA_PD fit; what is read of any list
--   GoodAt, good-options         an option that is good and lies inside; each option of a good area
--   -fine                        what is read of a well-formed message, and what the box repeats of it
use Rattle.std.specs.Prelude.{◌≡◌, Bool, true, false, not, ◌&&◌, List, map, eqb, leb, ltb, length, get_or, Err, None, Ok, Option, Some, is_ok}
use Rattle.std.proofs.Math.Path.{refl}
use Rattle.std.proofs.Common.{sym, ◌∙◌, subst, arith, eqb-true, lt-ltb, ltb-true}
use Rattle.std.proofs.Math.Bool.{cond}
use Prim.Native.Nat.{ℕ, zero, suc, ◌+◌, ◌-◌, ◌*◌, ◌^◌, ◌≤◌, ◌<◌}
use Rattle.std.proofs.Math.Pow.{pow_pos}
use Rattle.rules.specs.Words.{cons_if, keep, part, num_at}
use Rattle.rules.specs.Prefix.{Prefix, prefix, fits, same_prefix, bytes_for, content_ok, lease_encodable}
use Rattle.rules.specs.Options.{step_at, grow, walk, area_of, and_then, wants, scan, options, exclude_ok, in_prefix, check_prefix, in_pd, check_pd, in_top, own, check, spot, Checked}
use Rattle.rules.specs.Message.{Listed, Ia, Message, except_at, listed_at, ia_at, top, read, well_formed}
use Rattle.rules.specs.Settings.{Settings}
use Rattle.rules.specs.Box.{returned, others, answer_to, ia_of}
use Rattle.rules.specs.declared.Level.TheVariants.{Top}
use Rattle.rules.specs.declared.Step.{Step}
use Rattle.rules.specs.declared.Step.TheVariants.{Opt, End, Bad}
use Rattle.rules.specs.declared.Spot.{Spot}
use Rattle.laws.specs.Tests.{false-true, both, both-made}
use Rattle.laws.specs.Parts.{length_part}
use Rattle.laws.specs.Numbers.{num_at-fits}
use Rattle.laws.specs.Walk.{step-inside}
use Rattle.laws.specs.Every.{Every, every, every-weaker, every-at, every-keep, every_map}
use Rattle.laws.specs.Exclude.{content, number-encodable}
use Rattle.laws.specs.Round.{lease-fits, FineListed, FineIa, Fine}

-- ---------------------------------------------------------------- any list

pub record ToldListed (x : Listed) : Type 0 where
  pub preferred : x.preferred < 2 ^ 32
  pub valid : x.valid < 2 ^ 32
  pub bits : x.lease.prefix.bits < 2 ^ 128

pub record ToldIa (i : Ia) : Type 0 where
  pub iaid : i.iaid < 2 ^ 32
  pub t1 : i.t1 < 2 ^ 32
  pub t2 : i.t2 < 2 ^ 32
  pub listed : Every ToldListed i.listed

module _ (m : List ℕ) where
  pub listed-told : (f : Option Spot) → ToldListed (listed_at m f)
  unfolding listed_at
  listed-told (Some o) = record { preferred = num_at-fits m o.start 4; valid = num_at-fits m (o.start + 4) 4; bits = num_at-fits m (o.start + 9) 16 }
  listed-told None = record { preferred = pow_pos 32; valid = pow_pos 32; bits = pow_pos 128 }

  pub ia-told : (f : Option Spot) → ToldIa (ia_at m f)
  unfolding ia_at
  ia-told (Some o) = record {
    iaid = num_at-fits m o.start 4;
    t1 = num_at-fits m (o.start + 4) 4;
    t2 = num_at-fits m (o.start + 8) 4;
    listed = let fs = options 26 (area_of m (o.start + 12) (o.start + o.len)) in every_map ToldListed (listed_at m) fs (every listed-told fs);
  }
  ia-told None = record { iaid = pow_pos 32; t1 = pow_pos 32; t2 = pow_pos 32; listed = tt }

  pub read_number : (read m).number < 2 ^ 24
  unfolding read
  read_number = num_at-fits m 1 3

-- ---------------------------------------------------------------- each option of a good area is good

pub and-good : (x y : Checked) → and_then x y ≡ Ok tt → (x ≡ Ok tt) × (y ≡ Ok tt)
and-good (Ok u) y h = (refl, h)
and-good (Err p) y h = let z : ◌≡◌ {A = ℕ} 0 1 = cc in absurd (omega arith)

pub wants-good : (b : Bool) (p : ℕ) → wants b p ≡ Ok tt → b ≡ true
wants-good true p h = refl
wants-good false p h = let z : ◌≡◌ {A = ℕ} 0 1 = cc in absurd (omega arith)

-- an option of code w that is good, after some number of PD Excludes, and ends at or before e
abbrev pub GoodAt : (ℕ → ℕ → ℕ → ℕ → ℕ → Checked) → ℕ → ℕ → Option Spot → Type 0
GoodAt own w e (Some o) = (o.start + o.len ≤ e) × (j : ℕ) × (own j o.place w o.start o.len ≡ Ok tt)
GoodAt own w e None = ⊥

module _ (own : ℕ → ℕ → ℕ → ℕ → ℕ → Checked) (w : ℕ) (m : List ℕ) (e : ℕ) where
  good-if : (b : Bool) (k p c s n : ℕ) (fs : List (Option Spot)) → eqb c w ≡ b → s + n ≤ e → own k p c s n ≡ Ok tt
      → Every (GoodAt own w e) fs → Every (GoodAt own w e) (cons_if b (Some (spot p s n)) fs)
  good-if false k p c s n fs q l g r = r
  good-if true k p c s n fs q l g r = let i : c ≡ w = eqb-true c w q in ((l, k, rw i at g), r)

  good-step : (f k at : ℕ) (st : Step) → step_at m at e ≡ st
      → ((j x : ℕ) → scan own j (walk f m x e) ≡ Ok tt → Every (GoodAt own w e) (options w (walk f m x e)))
      → scan own k (grow (λ x. walk f m x e) at st) ≡ Ok tt → Every (GoodAt own w e) (options w (grow (λ x. walk f m x e) at st))
  unfolding scan options
  good-step f k at End q r g = tt
  good-step f k at (Bad p) q r g = tt
  good-step f k at (Opt c s n x) q r g =
      let j = cond (eqb c 67) (k + 1) k in
      let i = step-inside m at e q in
      let h = and-good (own k at c s n) (scan own j (walk f m x e)) g in
      good-if (eqb c w) k at c s n (options w (walk f m x e)) refl (omega arith) h.0 (r j x h.1)

  good-walk : (f k at : ℕ) → scan own k (walk f m at e) ≡ Ok tt → Every (GoodAt own w e) (options w (walk f m at e))
  unfolding walk options
  good-walk zero k at g = tt
  good-walk (suc f) k at g = good-step f k at (step_at m at e) refl (λ j x. good-walk f j x) g

  pub good-options : (at : ℕ) → scan own 0 (area_of m at e) ≡ Ok tt → Every (GoodAt own w e) (options w (area_of m at e))
  unfolding area_of
  good-options at g = good-walk (suc (e - at)) 0 at g

-- ---------------------------------------------------------------- a well-formed message

-- a good PD Exclude has an encoding
except-fine : (m : List ℕ) (e : ℕ) → e ≤ length m → (p : Prefix) → fits p ≡ true
    → (f : Option Spot) → GoodAt (in_prefix m p.length) 67 e f → lease_encodable p (except_at m p f) ≡ true
except-fine m e r p h None g = absurd g
except-fine m e r p h (Some o) g =
    let a = p.length in
    let b = get_or m o.start 0 in
    let l = part (o.start + 1) (o.len - 1) m in
    let q = both (ltb 0 o.len) (content_ok a b l) (both (eqb g.1 0) (exclude_ok m a o.start o.len) (wants-good _ o.place g.2)).1 in
    let c = content a b l q.1 in
    let k : o.len - 1 ≡ bytes_for a b = sym (length_part (o.start + 1) (o.len - 1) m (omega (arith, ltb-true 0 o.len q.0))) ∙ c.whole in
    let few : num_at m (o.start + 1) (o.len - 1) < 2 ^ (8 * bytes_for a b) = subst (λ (i : ℕ). num_at m (o.start + 1) (o.len - 1) < 2 ^ (8 * i)) k (num_at-fits m (o.start + 1) (o.len - 1)) in
    both-made h (number-encodable p b (num_at m (o.start + 1) (o.len - 1)) (omega (arith, c.more)) c.most few c.more)

pub listed-fine : (m : List ℕ) (e : ℕ) → e ≤ length m → (f : Option Spot) → GoodAt (in_pd m) 26 e f → FineListed (listed_at m f)
unfolding listed_at check_prefix
listed-fine m e r None g = absurd g
listed-fine m e r (Some o) g =
    let a = get_or m (o.start + 8) 0 in
    let p = prefix (num_at m (o.start + 9) 16) a in
    let t = listed-told m (Some o) in
    let h = and-good (wants (leb 25 o.len && leb a 128) o.place) (check_prefix m a (o.start + 25) (o.start + o.len)) g.2 in
    let k : fits p ≡ true = both-made (both (leb 25 o.len) (leb a 128) (wants-good _ o.place h.0)).1 (lt-ltb p.bits (2 ^ 128) t.bits) in
    let fs = options 67 (area_of m (o.start + 25) (o.start + o.len)) in
    let x : Every (λ f. lease_encodable p (except_at m p f) ≡ true) fs =
    every-weaker (except-fine m (o.start + o.len) (omega arith) p k) fs (good-options (in_prefix m a) 67 m (o.start + o.len) (o.start + 25) h.1) in
    record { preferred = t.preferred; valid = t.valid; encodes = every-at _ None fs 0 k x }

pub ia-fine : (m : List ℕ) (e : ℕ) → e ≤ length m → (f : Option Spot) → GoodAt (in_top m) 25 e f → FineIa (ia_at m f)
unfolding ia_at check_pd
ia-fine m e r None g = absurd g
ia-fine m e r (Some o) g =
    let t = ia-told m (Some o) in
    let h = and-good (wants (leb 12 o.len) o.place) (check_pd m (o.start + 12) (o.start + o.len)) g.2 in
    let fs = options 26 (area_of m (o.start + 12) (o.start + o.len)) in
    let x = every-weaker (listed-fine m (o.start + o.len) (omega arith)) fs (good-options (in_pd m) 26 m (o.start + o.len) (o.start + 12) h.1) in
    record { iaid = t.iaid; t1 = t.t1; t2 = t.t2; listed = every_map FineListed (listed_at m) fs x }

pub is-good : (x : Checked) → is_ok x ≡ true → x ≡ Ok tt
is-good (Ok u) h = refl
is-good (Err p) h = absurd (false-true h)

pub read-fine : (m : List ℕ) → well_formed m ≡ true → Fine (read m)
unfolding read top well_formed check own
read-fine m h =
    let fs = options 25 (top m) in
    let x = every-weaker (ia-fine m (length m) (omega arith)) fs (good-options (in_top m) 25 m (length m) 4 (is-good (check Top m 4 (length m)) h)) in
    record { number = read_number m; ias = every_map FineIa (ia_at m) fs x }

-- ---------------------------------------------------------------- what the box repeats of it

pub returned-fine : (x : Listed) → FineListed x → FineListed (returned x)
returned-fine x f = record { preferred = pow_pos 32; valid = pow_pos 32; encodes = lease-fits x.lease.prefix x.lease.except f.encodes }

pub all-returned-fine : (l : List Listed) → Every FineListed l → Every FineListed (map returned l)
all-returned-fine l f = every_map FineListed returned l (every-weaker returned-fine l f)

pub others-fine : (p : Prefix) (l : List Listed) → Every FineListed l → Every FineListed (others p l)
unfolding others
others-fine p l f =
    let differs : Listed → Bool = λ x. not (same_prefix x.lease.prefix p) in
    all-returned-fine (keep differs l) (every-keep FineListed differs l f)

pub ia-of-fine : (v : Message) → Fine v → FineIa (ia_of v)
ia-of-fine v f = every-at FineIa _ v.ias 0 (record { iaid = pow_pos 32; t1 = pow_pos 32; t2 = pow_pos 32; listed = tt }) f.ias

pub answer-fine : (s : Settings) (v : Message) (is : List Ia) → Fine v → Every FineIa is → Fine (answer_to s v is)
unfolding answer_to
answer-fine s v is f g = record { number = f.number; ias = g }
