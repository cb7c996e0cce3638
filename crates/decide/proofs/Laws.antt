-- What each answer of a decision shows, over plain variables.
--   size, few, within                            what reading a sound table asks
--   found, found-there, missing                  the identity's record, looked for
--   both-are, aligned, bound-..                  the asker's record is number k
--   choice-asks, choice-is                       what a choice asks, and what it gives
--   of-kind, unbound-.., offer-.., bind-..       the asker has no record
--   live-.., gone-is, silent-rebind              silence
use mathlib.Core.Path.{◌≡◌, refl, sym, ap, ◌∙◌}
use mathlib.Core.Bool.{Bool, true, false, cond, not, ◌&&◌}
use mathlib.Core.List.{List, [], ◌∷◌}
use Rattle.std.specs.Prelude.{Option, None, Some, option_map, MatchOption, ◌⊎◌}
use Rattle.std.proofs.Common.{⊎_elim}
use Rattle.std.specs.Bool.{then_some}
use Prim.Native.Nat.{ℕ, zero, suc, ◌/◌, ◌%◌, ◌^◌, ◌≤◌, ◌<◌}
use native.Mathlib.Nat.{zero-add, div-add-mod'}
use native.Mathlib.Omega.{arith}
use lib.Dec.{leb, ltb}
use lib.ListN.{length, get_or, length-map}
use lib.Seq.{length-take-le}
use borrow.Author.Tests.{lt-ltb, le-leb}
use Rattle.rules.specs.Words.{all, from, num}
use Rattle.rules.specs.Prefix.{Prefix, zero_after, inside, Lease}
use Rattle.rules.specs.Clock.{Moment, Lifetime, plus, extended}
use Rattle.rules.specs.Identity.{Identity}
use Rattle.rules.specs.Message.{Listed}
use Rattle.rules.specs.Settings.{Settings}
use Rattle.rules.specs.Table.{Record, area, is_binding, live, current, good_record}
use Rattle.rules.specs.TableBytes.{table_size, record_at, settings_of, count_of, table_of, sound_bytes}
use Rattle.rules.specs.Choose.{choose}
use Rattle.rules.specs.Box.{binding, longer, extend, others, gone, is_freed, hint_of, offer, Served, leaves, Asked, serve_rebind, serve, is_silence}
use Rattle.rules.specs.declared.Kind.{Kind}
use Rattle.rules.specs.declared.Kind.TheVariants.{Solicit, Request, Renew, Rebind, Release}
use Rattle.laws.specs.Loops.{first_place, at, all-at, all-sub, first-place, place-passes}
use Rattle.laws.specs.Binding.{if_live, binding-current}
use Rattle.laws.specs.One.{changed, changed-same}
use Rattle.laws.specs.Sound.{good-facts, record-facts, sound-aligned}
use Rattle.laws.specs.Choose.{Aligned as Records_aligned, choose-room, choose-chosen}
use Rattle.laws.specs.Choosing.{same-choose}
use Rattle.laws.specs.Change.{ending, held, extended-is, removed-is}
use Rattle.prefix.specs.Upper.{half_of}
use Rattle.values.specs.Values.{lease_of as prefix_of, listed_of, first_listed}
use Rattle.values.specs.declared.IaPrefix.{IaPrefix}
use Rattle.sound.specs.Setup.{Agrees, setup_of}
use Rattle.sound.specs.declared.Setup.{Setup}
use Rattle.search.specs.Binding.{binding_of}
use Rattle.search.specs.declared.Binding.{Binding}
use Rattle.choose.specs.Choice.{hint_of as hinted}
use Rattle.choose.specs.declared.hint.Hint.{Hint}
use Rattle.prefix.specs.declared.half.Half.{Half}
use Rattle.plan.specs.Plan.{lease_of, Aligned}
use Rattle.plan.specs.declared.Delegation.{Delegation}
use Rattle.plan.specs.declared.Plan.{Plan}
use Rattle.plan.specs.declared.Plan.TheVariants.{Offer, Bind, Extend, Free, Return, Say, Silence}
use Rattle.decide.specs.Found.{Bound, Unbound, frees, is_there}

-- ---------------------------------------------------------------- a sound table

module _ (b : List ℕ) (h : sound_bytes b ≡ true) where
  pub size : table_size ≤ length b
  size = omega (arith, (held b h).size)

  pub few : count_of b ≤ 256
  few = (held b h).few

  pub within : {k : ℕ} → k < count_of b → k < 256
  within l = omega (arith, few)

-- ---------------------------------------------------------------- the identity's record, looked for

module _ (b : List ℕ) (who : Identity) (n : ℕ) (en : n ≡ count_of b) (r : Option ℕ) (e : r ≡ first_place (is_binding who) (from (record_at b) 0 n) 0) where
  pub found : {k : ℕ} → r ≡ Some k → first_place (is_binding who) (table_of b).records 0 ≡ Some k
  unfolding table_of
  found q = rw (← en) (sym e ∙ q)

  pub found-there : {k : ℕ} → r ≡ Some k → k < count_of b
  found-there {k} q = let p = place-passes (record_at b) (is_binding who) n 0 k (sym e ∙ q) in omega (arith, p.1)

  pub missing : r ≡ None → binding who (table_of b).records ≡ None
  unfolding table_of
  missing q = rw (← en) (first-place (record_at b) (is_binding who) n 0 ∙ ap (at (record_at b)) (sym e ∙ q))

-- ---------------------------------------------------------------- the asker's record is number k

pub both-are : {a b x y : Bool} → a ≡ x → b ≡ y → a && b ≡ x && y
both-are p q = rw (p, q)

-- a record's delegation
abbrev lent : Binding → Delegation
lent r = record { prefix = r.prefix; length = r.length; excluded = r.excluded }

module _ (b : List ℕ) (k : ℕ) (who : Identity) (place : first_place (is_binding who) (table_of b).records 0 ≡ Some k) where
  theirs : binding who (table_of b).records ≡ Some (record_at b k)
  unfolding table_of
  theirs = first-place (record_at b) (is_binding who) (count_of b) 0 ∙ ap (at (record_at b)) place

  later : sound_bytes b ≡ true → (now end : Moment) (v : Lifetime) → end ≡ extended (record_at b k).end now v
      → changed (ending end) k (table_of b).records ≡ extend who now v (table_of b).records
  unfolding table_of
  later h now end v q =
      changed-same (ending end) (longer now v) (record_at b) (count_of b) 0 k (rw zero-add (ap (λ x. ending x (record_at b k)) q))
      ∙ extended-is who (from (record_at b) 0 (count_of b)) k (held b h).sound.together place now v

module _ (b : List ℕ) (h : sound_bytes b ≡ true) (k : ℕ) (there : k < count_of b) (r : Binding) (er : binding_of r ≡ record_at b k) where
  lease-is : lease_of (lent r) ≡ (record_at b k).lease
  lease-is = ap (λ (q : Record). q.lease) er

  pub aligned : Aligned (lent r)
  unfolding table_of
  aligned =
      let good : good_record (settings_of b) (record_at b k) ≡ true = all-at (record_at b) (good_record (settings_of b)) (count_of b) 0 k (omega arith) (omega arith) (held b h).sound.good in
      let g = record-facts (settings_of b) (binding_of r) (rw er good) in
      record { short = g.most; zeros = g.aligned }

  module _ (now : Moment) (xs : List Listed) where
    pub bound-solicit : {kind : Kind} → kind ≡ Solicit → Bound b now kind k xs (Offer (lent r))
    unfolding serve
    bound-solicit q = record { decided = λ who asks p. record { served = rw (q, theirs b k who p, lease-is); possible = tt; sendable = aligned } }

    -- a Release
    module _ {f : Bool} (ef : f ≡ frees (lease_of (lent r)) xs) where
      freed : is_freed (record_at b k) xs ≡ f
      unfolding is_freed
      freed = ap (λ (l : Lease). frees l xs) (sym lease-is) ∙ sym ef

      pub bound-freed : {kind : Kind} → kind ≡ Release → f ≡ true → Bound b now kind k xs (Free k)
      unfolding serve
      bound-freed q t = record {
        decided = λ who asks p. record {
          served = rw (q, theirs b k who p, freed, t, removed-is who (table_of b).records k (held b h).sound.together p);
          possible = there;
          sendable = tt;
        };
      }

      pub bound-kept : {kind : Kind} → kind ≡ Release → f ≡ false → Bound b now kind k xs (Say 3)
      unfolding serve
      bound-kept q t = record { decided = λ who asks p. record { served = rw (q, theirs b k who p, freed, t); possible = tt; sendable = omega arith } }

    -- a binding that is extended, with the other listed prefixes returned or not
    module _ {end : Moment} (ee : end ≡ extended r.end.0 now (settings_of b).valid) where
      abbrev extending : Identity → Bool → Served
      extending who back = leaves (extend who now (settings_of b).valid (table_of b).records) (offer (record_at b k).lease (cond back (others (record_at b k).lease.prefix xs) []))

      bound-extended : (kind : Kind) (back : Bool)
          → ((q : Asked) → q.listed ≡ xs → binding q.who (table_of b).records ≡ Some (record_at b k) → extending q.who back ≡ serve (settings_of b) now q (table_of b).records kind)
          → Bound b now kind k xs (Extend k end (lent r) back)
      bound-extended kind back serves = record {
        decided = λ who asks p. record {
          served =
              rw (later b k who p h now end (settings_of b).valid (ee ∙ ap (λ (q : Record). extended q.end now (settings_of b).valid) er))
              (rw (← lease-is) at (serves (record { who = who; asks = asks; listed = xs }) refl (theirs b k who p)));
          possible = there;
          sendable = aligned;
        };
      }

      pub bound-request : {kind : Kind} → kind ≡ Request → Bound b now kind k xs (Extend k end (lent r) false)
      unfolding serve
      bound-request {kind} e = bound-extended kind false (λ q l t. rw (e, t))

      bound-renew : {kind : Kind} → kind ≡ Renew → Bound b now kind k xs (Extend k end (lent r) true)
      unfolding serve
      bound-renew {kind} e = bound-extended kind true (λ q l t. rw (e, t, l))

      bound-rebind : {kind : Kind} → kind ≡ Rebind → Bound b now kind k xs (Extend k end (lent r) true)
      unfolding serve
      bound-rebind {kind} e = bound-extended kind true (λ q l t. rw (e, t, l))

      pub bound-again : {kind : Kind} → (kind ≡ Renew) ⊎ (kind ≡ Rebind) → Bound b now kind k xs (Extend k end (lent r) true)
      bound-again e = ⊎_elim bound-renew bound-rebind e

-- ---------------------------------------------------------------- the choice

-- the hint is the first listed prefix
hint-is : (ps : List IaPrefix) (x : IaPrefix) (n : ℕ) {u l : ℕ} → 1 ≤ length ps → u ≡ num (get_or ps 0 x).bits / 2 ^ 64 → l ≡ num (get_or ps 0 x).bits % 2 ^ 64
    → option_map hinted (then_some (ltb 0 n) (record { high = u; low = l; length = (get_or ps 0 x).length })) ≡ hint_of (first_listed n ps)
unfolding listed_of prefix_of
hint-is [] x n h eu el = absurd (omega arith)
hint-is (y ∷ ps) x zero h eu el = refl
hint-is (y ∷ ps) x (suc n) h eu el = rw (eu, el, lt-ltb 0 (suc n) (omega arith), div-add-mod' (num y.bits) (2 ^ 64))

-- what a chooser takes of a sound table and its settings
pub record Chooses (b : List ℕ) (n : ℕ) (pool : Prefix) (shortest standard : ℕ) : Type 0 where
  pub few : n ≤ 256
  pub room : table_size ≤ length b
  pub aligned : Records_aligned (from (record_at b) 0 n)
  pub short : all (λ r. leb (area r).length 60) (from (record_at b) 0 n) ≡ true
  pub some : 1 ≤ pool.length
  pub zeros : zero_after pool ≡ true
  pub pool_shortest : pool.length ≤ shortest
  pub shortest_standard : shortest ≤ standard
  pub standard_60 : standard ≤ 60

module _ (b : List ℕ) (h : sound_bytes b ≡ true) (s : Setup) (g : Agrees s b) where
  abbrev set : Settings
  set = setup_of s (settings_of b).own

  pub choice-asks : (n : ℕ) → n ≡ count_of b → Chooses b n (half_of s.pool) s.shortest s.standard
  unfolding table_of
  choice-asks n en =
      let good : all (good_record set) (from (record_at b) 0 n) ≡ true = rw (g, en) (held b h).sound.good in
      let f = good-facts set (rw g (held b h).sound.settings) in
      record {
        few = omega (arith, few b h);
        room = size b h;
        aligned = sound-aligned set (from (record_at b) 0 n) good;
        short = all-sub (good_record set) (λ q. leb (area q).length 60) (λ q t. le-leb _ _ (record-facts set q t).most) (from (record_at b) 0 n) good;
        some = omega (arith, f.least-32);
        zeros = f.lengths.aligned;
        pool_shortest = f.lengths.pool-shortest;
        shortest_standard = f.lengths.shortest-standard;
        standard_60 = f.lengths.standard-60;
      }

  -- by the settings that have these three alike
  module _ (k : Settings) {n : ℕ} (en : n ≡ count_of b) (ep : k.pool ≡ set.pool) (es : k.shortest ≡ set.shortest) (ed : k.standard ≡ set.standard) where
    pub choice-is : {o : Option Prefix} (ps : List IaPrefix) (x : IaPrefix) (m : ℕ) {u l : ℕ} → 1 ≤ length ps → u ≡ num (get_or ps 0 x).bits / 2 ^ 64 → l ≡ num (get_or ps 0 x).bits % 2 ^ 64
        → {hint : Option Hint} → hint ≡ then_some (ltb 0 m) (record { high = u; low = l; length = (get_or ps 0 x).length }) → o ≡ choose k (from (record_at b) 0 n) (option_map hinted hint)
        → o ≡ choose (settings_of b) (table_of b).records (hint_of (first_listed m ps))
    unfolding table_of
    choice-is ps x m one eu el eh e = e ∙ same-choose k set (from (record_at b) 0 n) ep es ed _ ∙ rw (g, en, eh, hint-is ps x m one eu el)

-- ---------------------------------------------------------------- the asker has no record

module _ (b : List ℕ) (now : Moment) (asks : Bool) (xs : List Listed) where
  pub of-kind : {kind kind' : Kind} {p : Plan} → kind ≡ kind' → Unbound b now kind' asks xs p → Unbound b now kind asks xs p
  of-kind q u = rw q u

  unbound-renew : Unbound b now Renew asks xs (Say 3)
  unfolding serve
  unbound-renew = record { decided = λ who n. record { served = rw n; possible = tt; sendable = omega arith } }

  unbound-release : Unbound b now Release asks xs (Say 3)
  unfolding serve
  unbound-release = record { decided = λ who n. record { served = rw n; possible = tt; sendable = omega arith } }

  pub unbound-neither : {kind : Kind} → (kind ≡ Renew) ⊎ (kind ≡ Release) → Unbound b now kind asks xs (Say 3)
  unbound-neither e = ⊎_elim (λ q. of-kind q unbound-renew) (λ q. of-kind q unbound-release) e

  module _ {g : Bool} (eg : g ≡ gone (settings_of b) xs) where
    pub unbound-return : g ≡ true → Unbound b now Rebind asks xs Return
    unfolding serve
    unbound-return t = record { decided = λ who n. record { served = rw (n, ← eg, t); possible = tt; sendable = tt } }

    pub unbound-silence : g ≡ false → Unbound b now Rebind asks xs Silence
    unfolding serve
    unbound-silence t = record { decided = λ who n. record { served = rw (n, ← eg, t); possible = tt; sendable = tt } }

  module _ (c : Option Half) (e : option_map half_of c ≡ choose (settings_of b) (table_of b).records (hint_of xs)) where
    pub offer-none : c ≡ None → Unbound b now Solicit asks xs (Say 6)
    unfolding serve
    offer-none q = record { decided = λ who n. record { served = rw (n, ← e, q); possible = tt; sendable = omega arith } }

    pub bind-none : c ≡ None → Unbound b now Request asks xs (Say 6)
    unfolding serve
    bind-none q = record { decided = λ who n. record { served = rw (n, ← e, q); possible = tt; sendable = omega arith } }

    module _ (h : sound_bytes b ≡ true) (p : Half) (q : c ≡ Some p) (x : Bool) (ex : x ≡ (settings_of b).exclusion) where
      abbrev fresh : Delegation
      fresh = record { prefix = p.upper; length = p.length; excluded = x && asks }

      got : choose (settings_of b) (table_of b).records (hint_of xs) ≡ Some (half_of p)
      got = sym e ∙ ap (option_map half_of) q

      able : Aligned fresh
      unfolding table_of
      able =
          let f = choose-chosen (settings_of b) (table_of b).records (good-facts (settings_of b) (held b h).sound.settings).lengths (hint_of xs) got in
          record { short = f.most; zeros = f.place.aligned }

      pub offer-chosen : Unbound b now Solicit asks xs (Offer fresh)
      unfolding serve
      offer-chosen = record { decided = λ who n. record { served = rw (n, got, ex); possible = tt; sendable = able } }

      pub bind-chosen : {end : Moment} → end ≡ plus now (settings_of b).valid → Unbound b now Request asks xs (Bind fresh end)
      unfolding serve
      bind-chosen g = record {
        decided = λ who n. record {
          served = rw (n, got, ex, g);
          possible = omega (arith, choose-room (settings_of b) (table_of b).records (hint_of xs) got, (held b h).count);
          sendable = able;
        };
      }

-- ---------------------------------------------------------------- silence

module _ (b : List ℕ) (h : sound_bytes b ≡ true) (now : Moment) (who : Identity) where
  live-is : binding who (current now (table_of b).records) ≡ if_live now (binding who (table_of b).records)
  live-is = binding-current who now (table_of b).records (held b h).sound.together

  live-found : {k : ℕ} {l : Bool} → first_place (is_binding who) (table_of b).records 0 ≡ Some k → l ≡ live now (record_at b k)
      → l ≡ is_there (binding who (current now (table_of b).records))
  live-found {k} {l} p e = sym (rw (live-is, theirs b k who p) (by (live now (record_at b k)) e))
    where
      by : (c : Bool) → l ≡ c → is_there (cond c (Some (record_at b k)) None) ≡ l
      by true q = sym q
      by false q = sym q

  live-missing : binding who (table_of b).records ≡ None → false ≡ is_there (binding who (current now (table_of b).records))
  live-missing n = rw (live-is, n)

  -- what is said of the place that was found, or that there is none
  pub live-there : {n : ℕ} → n ≡ count_of b → (r : Option ℕ) → r ≡ first_place (is_binding who) (from (record_at b) 0 n) 0 → {l : Bool} {Q : ℕ → Type 0}
      → MatchOption r (l ≡ false) Q → ((k : ℕ) → Q k → l ≡ live now (record_at b k)) → l ≡ is_there (binding who (current now (table_of b).records))
  live-there {n} en None e m q = m ∙ live-missing (missing b who n en None e refl)
  live-there {n} en (Some k) e m q = live-found (found b who n en (Some k) e refl) (q k m)

-- whether every listed prefix is gone, by the numbers of the pool
pub gone-is : (b : List ℕ) (s : Setup) (ps : List IaPrefix) (n : ℕ) {g : Bool} → Agrees s b → n ≤ length ps
    → g ≡ ltb 0 n && all (λ x. not (inside x.lease.prefix (half_of s.pool))) (first_listed n ps) → g ≡ gone (settings_of b) (first_listed n ps)
unfolding gone
gone-is b s ps n a l e =
    let m : length (first_listed n ps) ≡ n = rw (length-map, length-take-le n ps l) in
    e ∙ rw (← a, m)

module _ (s : Settings) (now : Moment) (q : Asked) (rs : List Record) where
  pub silent-rebind : {l g : Bool} → l ≡ is_there (binding q.who rs) → g ≡ gone s q.listed → not l && not g ≡ is_silence (serve s now q rs Rebind).verdict
  unfolding serve
  silent-rebind {g = g} el eg = rw el (by (binding q.who rs) g eg)
    where
      by : (f : Option Record) (g : Bool) → g ≡ gone s q.listed → not (is_there f) && not g ≡ is_silence (serve_rebind s now q rs f).verdict
      by (Some r) g e = refl
      by None true e = rw (← e)
      by None false e = rw (← e)
