-- The tests, one after the other, as code makes them.
use mathlib.Core.Path.{◌≡◌, refl, sym, ap, ◌∙◌}
use mathlib.Core.Bool.{Bool, true, false, cond, not, ◌||◌}
use mathlib.Core.List.{List, ◌++◌}
use Rattle.std.specs.Prelude.{Option, None, Some, is_none, IfSome, Result, Ok, Err, IfOk}
use Rattle.std.specs.Option.{ok_or}
use Prim.Native.Nat.{ℕ, ◌≤◌, ◌<◌, ◌^◌}
use native.Mathlib.Omega.{arith}
use borrow.Author.Tests.{not-false, lt-ltb, le-ltb}
use lib.Dec.{leb, ltb}
use lib.ListN.{length, get_or}
use Rattle.rules.specs.Words.{num_at}
use Rattle.rules.specs.Refusals.{number_of, bad_time, wrong_size}
use Rattle.rules.specs.Message.{read, well_formed}
use Rattle.rules.specs.Identity.{Duid, kind_of, kind_from, served, row_holds}
use Rattle.rules.specs.Prefix.{Prefix}
use Rattle.rules.specs.Clock.{Moment}
use Rattle.rules.specs.Settings.{Settings}
use Rattle.rules.specs.Table.{Record, is_binding, give_up, current}
use Rattle.rules.specs.TableBytes.{table_size, settings_of, table_of, sound_bytes}
use Rattle.rules.specs.Choose.{choose}
use Rattle.rules.specs.Box.{binding, is_freed, hint_of, no_binding, success, leaves, Asked, serve_solicit, serve_request, serve_renew, serve_release, serve, serving, ia_of as asked_ia, asked_by, wrong_pds, is_silence}
use Rattle.rules.specs.declared.Refusal.{Refusal}
use Rattle.rules.specs.declared.Refusal.TheVariants.{Unserved, Delegation}
use Rattle.rules.specs.declared.Kind.{Kind}
use Rattle.rules.specs.declared.Kind.TheVariants.{Solicit, Request, Renew, Rebind, Release}
use Rattle.laws.specs.Tests.{false-true}
use Rattle.laws.specs.Change.{held}
use Rattle.laws.specs.Every.{Every}
use Rattle.laws.specs.Refusals.{number, refused_by, none-applies, number-here, number-later}
use Rattle.values.specs.Values.{ia_of}
use Rattle.values.specs.declared.Pd.{Pd}
use Rattle.wire.specs.Client.{client_stretch}
use Rattle.notes.specs.Noted.{Noted, Heard}
use Rattle.notes.specs.Facts.{is-noted}
use Rattle.notes.specs.declared.Notes.{Notes}
use Rattle.heard.specs.Heard.{bare_ia, AskedPd}
use Rattle.plan.specs.Plan.{asked_of}
use Rattle.judge.specs.Judged.{table_tests, room_tests, form_tests, id_tests, silence_tests, by_table, by_form, by_ids, judged}
use Rattle.judge.specs.Understood.{Understood, client-is, silent-is}

-- a test that asks for what is wanted
unmet : {x b y : Bool} → x ≡ b → not x ≡ y → not b ≡ y
unmet e h = ap not (sym e) ∙ h

-- ---------------------------------------------------------------- 9, 1

pub table-long : {x : Bool} (b : List ℕ) → x ≡ sound_bytes b → not x ≡ false → table_size ≤ length b
table-long b e h = omega (arith, (held b (sym e ∙ not-false _ h)).size)

module _ (b : List ℕ) (now : ℕ) {x : Bool} (sd : x ≡ sound_bytes b) where
  pub table-9 : not x ≡ true → 9 ≡ by_table b now
  unfolding by_table
  table-9 h = rw (unmet sd h)

  module _ (s : not x ≡ false) {last : ℕ} (la : last ≡ num_at b 0 8) where
    timed : {y : Bool} → ltb now last || leb (2 ^ 48) now ≡ y → bad_time (table_of b).last now ≡ y
    unfolding table_of
    timed h = ap (λ x. bad_time x now) (sym la) ∙ h

    pub table-1 : ltb now last || leb (2 ^ 48) now ≡ true → 1 ≡ by_table b now
    unfolding by_table
    table-1 h = rw (unmet sd s, timed h)

    pub table-0 : ltb now last || leb (2 ^ 48) now ≡ false → 0 ≡ by_table b now
    unfolding by_table
    table-0 h = rw (unmet sd s, timed h)

-- ---------------------------------------------------------------- 3, 4, 5

kind-none : (k : ℕ) {f : Refusal} → kind_from k ≡ Err f → (served k ≡ false) × (f ≡ Unserved)
kind-none k {f} h = by (served k) refl h
  where
    by : (b : Bool) → served k ≡ b → cond b (Ok (kind_of k)) (Err Unserved) ≡ Err f → (served k ≡ false) × (f ≡ Unserved)
    by true e g = let z : ◌≡◌ {A = ℕ} 0 1 = cc in absurd (omega arith)
    by false e g = (e, cc)

pub kind-told : (m : List ℕ) {k : ℕ} {x : Kind} {q : Result Kind Refusal} → k ≡ get_or m 0 0 → q ≡ kind_from k → q ≡ Ok x → (not (served k) ≡ false) × (x ≡ kind_of (read m).kind)
unfolding read
kind-told m {k} {x} e w h = by (served k) refl (sym w ∙ h)
  where
    by : (b : Bool) → served k ≡ b → cond b (Ok (kind_of k)) (Err Unserved) ≡ Ok x → (not (served k) ≡ false) × (x ≡ kind_of (get_or m 0 0))
    by true i g = let y : x ≡ kind_of k = cc in (ap not i, y ∙ ap kind_of e)
    by false i g = let z : ◌≡◌ {A = ℕ} 0 1 = cc in absurd (omega arith)

module _ (m : List ℕ) where
  pub form-3 : wrong_size m ≡ true → 3 ≡ by_form m
  unfolding by_form
  form-3 h = rw h

  module _ (h : wrong_size m ≡ false) {k : ℕ} (e : k ≡ get_or m 0 0) where
    kind : {y : Bool} → not (served k) ≡ y → not (served (read m).kind) ≡ y
    unfolding read
    kind g = ap (λ x. not (served x)) (sym e) ∙ g

    -- f is the refusal of a type that isn't served
    pub form-4 : {q : Result Kind Refusal} {f : Refusal} → q ≡ kind_from k → q ≡ Err f → number_of f ≡ by_form m
    unfolding by_form
    form-4 {q} {f} w g = let u = kind-none k (sym w ∙ g) in ap number_of u.1 ∙ rw (h, kind (ap not u.0))

    module _ (g : not (served k) ≡ false) {x : Bool} (w : x ≡ well_formed m) where
      pub form-5 : not x ≡ true → 5 ≡ by_form m
      unfolding by_form
      form-5 f = rw (h, kind g, unmet w f)

      pub form-0 : not x ≡ false → 0 ≡ by_form m
      unfolding by_form
      form-0 f = rw (h, kind g, unmet w f)

-- ---------------------------------------------------------------- 6, 7

module _ (b m : List ℕ) {o : Duid} (w : o ≡ (settings_of b).own) {x : Bool} (r : x ≡ row_holds o (read m)) where
  row_is : {y : Bool} → not x ≡ y → not (row_holds (table_of b).settings.own (read m)) ≡ y
  unfolding table_of
  row_is h = unmet (r ∙ ap (λ d. row_holds d (read m)) w) h

  pub ids-6 : not x ≡ true → 6 ≡ by_ids b m
  unfolding by_ids
  ids-6 h = rw (row_is h)

  -- what is asked about, if anything is
  pub ids-asked : not x ≡ false → (f : Option Pd) → (is_none f ≡ wrong_pds (read m)) × IfSome f (λ d. AskedPd m d) → {q : Result Pd Refusal} → q ≡ ok_or f Delegation
      → (refused_by q ≡ by_ids b m) × IfOk q (λ d. AskedPd m d)
  unfolding by_ids
  ids-asked h f p e = rw e (by f p)
    where
      by : (f : Option Pd) → (is_none f ≡ wrong_pds (read m)) × IfSome f (λ d. AskedPd m d)
          → (refused_by (ok_or f Delegation) ≡ number (id_tests b m)) × IfOk (ok_or f Delegation) (λ d. AskedPd m d)
      by (Some d) p = (rw (row_is h, ← p.0), p.1)
      by None p = (rw (row_is h, ← p.0), tt)

-- ---------------------------------------------------------------- 8

abbrev is_rebind : Kind → Bool
is_rebind Solicit = false
is_rebind Request = false
is_rebind Renew = false
is_rebind Rebind = true
is_rebind Release = false

module _ (s : Settings) (now : Moment) (q : Asked) (rs : List Record) where
  choosing : (f : Option Record) (c : Option Prefix) → (false ≡ is_silence (serve_solicit s now q rs f c).verdict) × (false ≡ is_silence (serve_request s now q rs f c).verdict)
  choosing (Some r) c = (refl, refl)
  choosing None (Some p) = (refl, refl)
  choosing None None = (refl, refl)

  renewed : (f : Option Record) → false ≡ is_silence (serve_renew s now q rs f).verdict
  renewed (Some r) = refl
  renewed None = refl

  released : (f : Option Record) → false ≡ is_silence (serve_release s now q rs f).verdict
  released None = refl
  released (Some r) = by (is_freed r q.listed)
    where
      by : (f : Bool) → false ≡ is_silence (cond f (leaves (give_up (is_binding q.who) rs) success) (leaves rs no_binding)).verdict
      by true = refl
      by false = refl

  -- only a Rebind can be passed over
  pub spoken : {kind k : Kind} → kind ≡ k → is_rebind k ≡ false → false ≡ is_silence (serve s now q rs kind).verdict
  unfolding serve
  spoken {k = k} p n = rw p (by k n)
    where
      by : (k : Kind) → is_rebind k ≡ false → false ≡ is_silence (serve s now q rs k).verdict
      by Solicit n = (choosing (binding q.who rs) (choose s rs (hint_of q.listed))).0
      by Request n = (choosing (binding q.who rs) (choose s rs (hint_of q.listed))).1
      by Renew n = renewed (binding q.who rs)
      by Rebind n = absurd (false-true (sym n))
      by Release n = released (binding q.who rs)

pub over-other : (b m : List ℕ) (now : ℕ) {f k : Kind} → f ≡ kind_of (read m).kind → f ≡ k → is_rebind k ≡ false → false ≡ is_silence (serving (table_of b) now (read m)).verdict
unfolding serving table_of
over-other b m now h e n = spoken (settings_of b) now (asked_by (read m)) (current now (table_of b).records) (sym h ∙ e) n

pub over-is : (b m : List ℕ) (now : ℕ) (d : Pd) → Understood b m → ia_of d ≡ bare_ia (asked_ia (read m)) → {k : Kind} → k ≡ kind_of (read m).kind → {c : Duid} → c ≡ client_stretch m
    → {x : Bool} → x ≡ is_silence (serve (settings_of b) now (asked_of c false d) (current now (table_of b).records) k).verdict → x ≡ is_silence (serving (table_of b) now (read m)).verdict
unfolding serving table_of
over-is b m now d u e {k} h {c} g q =
    q
    ∙ silent-is (settings_of b) now m d (current now (table_of b).records) k e (g ∙ client-is b m u)
    ∙ ap (λ (i : Kind). is_silence (serve (settings_of b) now (asked_by (read m)) (current now (table_of b).records) i).verdict) h

-- ---------------------------------------------------------------- the whole

module _ (b m : List ℕ) (now room : ℕ) where
  abbrev fs : List (ℕ × Bool)
  fs = form_tests m

  abbrev is : List (ℕ × Bool)
  is = id_tests b m

  abbrev ss : List (ℕ × Bool)
  ss = silence_tests b now m

  module _ {x : ℕ} (t : x ≡ by_table b now) where
    pub judged-table : (x ≡ 0 → ⊥) → x ≡ judged b now m room
    unfolding judged by_table
    judged-table h = number-here (table_tests b now) (room_tests room ++ (fs ++ (is ++ ss))) t h

    module _ (z : x ≡ 0) where
      table-passed : Every (λ r. r.1 ≡ false) (table_tests b now)
      unfolding by_table
      table-passed = none-applies (table_tests b now) refl t z

      pub is-sound : sound_bytes b ≡ true
      is-sound = not-false _ table-passed.0

      after_table : judged b now m room ≡ number (room_tests room ++ (fs ++ (is ++ ss)))
      unfolding judged by_table
      after_table = number-later (table_tests b now) (room_tests room ++ (fs ++ (is ++ ss))) refl t z

      pub judged-2 : room < 512 → 2 ≡ judged b now m room
      judged-2 h = sym (after_table ∙ rw (lt-ltb room 512 h))

      module _ (r : 512 ≤ room) {y : ℕ} (f : y ≡ by_form m) where
        after-room : judged b now m room ≡ number (fs ++ (is ++ ss))
        after-room = after_table ∙ rw (le-ltb room 512 r)

        pub judged-form : (y ≡ 0 → ⊥) → y ≡ judged b now m room
        unfolding by_form
        judged-form h = number-here fs (is ++ ss) f h ∙ sym after-room

        module _ (fz : y ≡ 0) {w : ℕ} (i : w ≡ by_ids b m) where
          form-passed : Every (λ r. r.1 ≡ false) fs
          unfolding by_form
          form-passed = none-applies fs refl f fz

          pub formed : well_formed m ≡ true
          formed = not-false _ form-passed.1.1.0

          pub noted : (s : Notes) → Heard m s → Noted m s
          noted s h = is-noted m s h form-passed.0 formed

          after-form : judged b now m room ≡ number (is ++ ss)
          unfolding by_form
          after-form = after-room ∙ number-later fs (is ++ ss) refl f fz

          pub judged-ids : (w ≡ 0 → ⊥) → w ≡ judged b now m room
          unfolding by_ids
          judged-ids h = number-here is ss i h ∙ sym after-form

          module _ (iz : w ≡ 0) where
            ids-passed : Every (λ r. r.1 ≡ false) is
            unfolding by_ids
            ids-passed = none-applies is refl i iz

            pub understood : Understood b m
            understood = record {
              sound = is-sound;
              kind = not-false _ form-passed.1.0;
              formed = not-false _ form-passed.1.1.0;
              row = not-false _ ids-passed.0;
              pds = ids-passed.1.0;
            }

            after-ids : judged b now m room ≡ number ss
            unfolding by_ids
            after-ids = after-form ∙ number-later is ss refl i iz

            pub judged-8 : {v : Bool} → v ≡ is_silence (serving (table_of b) now (read m)).verdict → v ≡ true → 8 ≡ judged b now m room
            judged-8 e h = sym (after-ids ∙ rw (← e, h))

            pub judged-0 : {v : Bool} → v ≡ is_silence (serving (table_of b) now (read m)).verdict → v ≡ false → 0 ≡ judged b now m room
            judged-0 e h = sym (after-ids ∙ rw (← e, h))
