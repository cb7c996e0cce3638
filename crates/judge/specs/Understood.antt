-- A message that passed every test but the last, beside a sound table; and what it asks, as code holds it.
use Rattle.std.specs.Prelude.{◌≡◌, refl, Bool, true, false, List, map, ℕ, Option, None, Some}
use Rattle.std.proofs.Math.Path.{ap}
use Rattle.std.proofs.Common.{◌∙◌}
use Rattle.rules.specs.Prefix.{Prefix}
use Rattle.rules.specs.Message.{Listed, Ia, read, well_formed}
use Rattle.rules.specs.Clock.{Moment}
use Rattle.rules.specs.Identity.{Duid, identity, served, row_holds}
use Rattle.rules.specs.Settings.{Settings}
use Rattle.rules.specs.Table.{Record}
use Rattle.rules.specs.TableBytes.{table_of, sound_bytes}
use Rattle.rules.specs.Choose.{choose}
use Rattle.rules.specs.Box.{binding, hint_of, Asked, serve_solicit, serve_request, serve_renew, serve_rebind, serve_release, serve, client_of, ia_of as asked_ia, asked_by, wrong_pds, is_silence}
use Rattle.rules.specs.declared.Kind.{Kind}
use Rattle.rules.specs.declared.Kind.TheVariants.{Solicit, Request, Renew, Rebind, Release}
use Rattle.values.specs.Values.{first_listed, ia_of}
use Rattle.values.specs.declared.Pd.{Pd}
use Rattle.wire.specs.Client.{client_stretch}
use Rattle.heard.specs.Heard.{bare, bare_ia}
use Rattle.heard.specs.Facts.{client-stands, client-at}
use Rattle.heard.specs.Bare.{bare_asked, serve-bare}
use Rattle.plan.specs.Plan.{asked_of}

pub record Understood (b m : List ℕ) : Type 0 where
  pub sound : sound_bytes b ≡ true
  pub kind : served (read m).kind ≡ true
  pub formed : well_formed m ≡ true
  pub row : row_holds (table_of b).settings.own (read m) ≡ true
  pub pds : wrong_pds (read m) ≡ false

-- the asker's DUID, as that stretch of the message
pub client-is : (b m : List ℕ) → Understood b m → client_stretch m ≡ client_of (read m)
client-is b m u =
    let own = (table_of b).settings.own in
    let p = client-stands own m u.kind u.row in
    (client-at own m u.kind u.row p.is).stretch

-- ---------------------------------------------------------------- what is asked

module _ (m : List ℕ) (d : Pd) (e : ia_of d ≡ bare_ia (asked_ia (read m))) where
  pub asked-iaid : d.iaid ≡ (asked_ia (read m)).iaid
  unfolding ia_of bare_ia
  asked-iaid = ap (λ (i : Ia). i.iaid) e

  pub asked-listed : first_listed d.count d.prefixes ≡ map bare (asked_ia (read m)).listed
  unfolding ia_of bare_ia
  asked-listed = ap (λ (i : Ia). i.listed) e

  -- with the DUID and the Option Requests beside it
  pub asked_is : {c : Duid} → c ≡ client_of (read m) → {a : Bool} → a ≡ (read m).asks → asked_of c a d ≡ bare_asked (asked_by (read m))
  asked_is {c} h {a} g =
      ap (λ (x : Duid). asked_of x a d) h
      ∙ ap (λ (x : Bool). asked_of (client_of (read m)) x d) g
      ∙ ap (λ (x : ℕ). record { who = identity (client_of (read m)) x; asks = (read m).asks; listed = first_listed d.count d.prefixes }) asked-iaid
      ∙ ap (λ (x : List Listed). record { who = identity (client_of (read m)) (asked_ia (read m)).iaid; asks = (read m).asks; listed = x }) asked-listed

-- ---------------------------------------------------------------- silence

abbrev asking : Bool → Asked → Asked
asking a q = record { who = q.who; asks = a; listed = q.listed }

-- Option Requests make nobody silent
silent-asking : (s : Settings) (now : Moment) (q : Asked) (rs : List Record) (a : Bool) (k : Kind) → is_silence (serve s now (asking a q) rs k).verdict ≡ is_silence (serve s now q rs k).verdict
unfolding serve
silent-asking s now q rs a Solicit = by (binding q.who rs) (choose s rs (hint_of q.listed))
  where
    by : (f : Option Record) (c : Option Prefix) → is_silence (serve_solicit s now (asking a q) rs f c).verdict ≡ is_silence (serve_solicit s now q rs f c).verdict
    by (Some r) c = refl
    by None (Some p) = refl
    by None None = refl
silent-asking s now q rs a Request = by (binding q.who rs) (choose s rs (hint_of q.listed))
  where
    by : (f : Option Record) (c : Option Prefix) → is_silence (serve_request s now (asking a q) rs f c).verdict ≡ is_silence (serve_request s now q rs f c).verdict
    by (Some r) c = refl
    by None (Some p) = refl
    by None None = refl
silent-asking s now q rs a Renew = by (binding q.who rs)
  where
    by : (f : Option Record) → is_silence (serve_renew s now (asking a q) rs f).verdict ≡ is_silence (serve_renew s now q rs f).verdict
    by (Some r) = refl
    by None = refl
silent-asking s now q rs a Rebind = by (binding q.who rs)
  where
    by : (f : Option Record) → is_silence (serve_rebind s now (asking a q) rs f).verdict ≡ is_silence (serve_rebind s now q rs f).verdict
    by (Some r) = refl
    by None = refl
silent-asking s now q rs a Release = by (binding q.who rs)
  where
    by : (f : Option Record) → is_silence (serve_release s now (asking a q) rs f).verdict ≡ is_silence (serve_release s now q rs f).verdict
    by (Some r) = refl
    by None = refl

pub silent-is : (s : Settings) (now : Moment) (m : List ℕ) (d : Pd) (rs : List Record) (k : Kind) → ia_of d ≡ bare_ia (asked_ia (read m)) → {c : Duid} → c ≡ client_of (read m)
    → is_silence (serve s now (asked_of c false d) rs k).verdict ≡ is_silence (serve s now (asked_by (read m)) rs k).verdict
silent-is s now m d rs k e {c} h =
    silent-asking s now (asked_of c (read m).asks d) rs false k
    ∙ ap (λ (q : Asked). is_silence (serve s now q rs k).verdict) (asked_is m d e h refl)
    ∙ ap (λ x. is_silence x.verdict) (serve-bare s now (asked_by (read m)) rs k)
