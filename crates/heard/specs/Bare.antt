-- The Status Codes of an IA_PD change nothing of what the box does.
use Rattle.std.specs.Prelude.{◌≡◌, refl, Bool, true, false, not, List, [], ◌∷◌, map, Option, None, Some}
use Rattle.std.proofs.lemmas.List.{length-map}
use Rattle.rules.specs.Words.{any, cons_if, keep}
use Rattle.rules.specs.Prefix.{Prefix, same_prefix, inside}
use Rattle.rules.specs.Message.{Listed}
use Rattle.rules.specs.Clock.{Moment}
use Rattle.rules.specs.Settings.{Settings}
use Rattle.rules.specs.Table.{Record}
use Rattle.rules.specs.Choose.{choose}
use Rattle.rules.specs.Box.{binding, returned, others, gone, same_except, is_freed, hint_of, Asked, serve_solicit, serve_request, serve_renew, serve_rebind, serve_release, serve}
use Rattle.rules.specs.declared.Kind.{Kind}
use Rattle.rules.specs.declared.Kind.TheVariants.{Solicit, Request, Renew, Rebind, Release}
use Rattle.laws.specs.Loops.{all_map}
use Rattle.heard.specs.Heard.{bare}

abbrev pub bare_asked : Asked → Asked
bare_asked q = record { who = q.who; asks = q.asks; listed = map bare q.listed }

any-map : (f : Listed → Bool) (xs : List Listed) → any f (map bare xs) ≡ any (λ x. f (bare x)) xs
any-map f [] = refl
any-map f (x ∷ xs) = rw (any-map f xs)

returned-bare : (xs : List Listed) → map returned (map bare xs) ≡ map returned xs
returned-bare [] = refl
returned-bare (x ∷ xs) = rw (returned-bare xs)

others-bare : (p : Prefix) (xs : List Listed) → others p (map bare xs) ≡ others p xs
unfolding others
others-bare p [] = refl
others-bare p (x ∷ xs) = by (not (same_prefix x.lease.prefix p)) (others-bare p xs)
  where
    by : (b : Bool) → map returned (keep (λ y. not (same_prefix y.lease.prefix p)) (map bare xs)) ≡ map returned (keep (λ y. not (same_prefix y.lease.prefix p)) xs)
        → map returned (cons_if b (bare x) (keep (λ y. not (same_prefix y.lease.prefix p)) (map bare xs)))
        ≡ map returned (cons_if b x (keep (λ y. not (same_prefix y.lease.prefix p)) xs))
    by true h = rw h
    by false h = h

gone-bare : (s : Settings) (xs : List Listed) → gone s (map bare xs) ≡ gone s xs
unfolding gone
gone-bare s xs = rw (length-map xs bare, all_map (λ x. not (inside x.lease.prefix s.pool)) bare xs)

freed-bare : (r : Record) (xs : List Listed) → is_freed r (map bare xs) ≡ is_freed r xs
unfolding is_freed
freed-bare r xs = rw (any-map (λ x. same_prefix x.lease.prefix r.lease.prefix) xs, all_map (λ x. same_except x.lease.except r.lease.except) bare xs)

hint-bare : (xs : List Listed) → hint_of (map bare xs) ≡ hint_of xs
hint-bare [] = refl
hint-bare (x ∷ xs) = refl

module _ (s : Settings) (now : Moment) (q : Asked) (rs : List Record) where
  solicit-bare : (f : Option Record) (c : Option Prefix) → serve_solicit s now (bare_asked q) rs f c ≡ serve_solicit s now q rs f c
  solicit-bare (Some r) c = refl
  solicit-bare None (Some p) = refl
  solicit-bare None None = refl

  request-bare : (f : Option Record) (c : Option Prefix) → serve_request s now (bare_asked q) rs f c ≡ serve_request s now q rs f c
  request-bare (Some r) c = refl
  request-bare None (Some p) = refl
  request-bare None None = refl

  renew-bare : (f : Option Record) → serve_renew s now (bare_asked q) rs f ≡ serve_renew s now q rs f
  renew-bare (Some r) = rw (others-bare r.lease.prefix q.listed)
  renew-bare None = refl

  rebind-bare : (f : Option Record) → serve_rebind s now (bare_asked q) rs f ≡ serve_rebind s now q rs f
  rebind-bare (Some r) = renew-bare (Some r)
  rebind-bare None = rw (gone-bare s q.listed, returned-bare q.listed)

  release-bare : (f : Option Record) → serve_release s now (bare_asked q) rs f ≡ serve_release s now q rs f
  release-bare (Some r) = rw (freed-bare r q.listed)
  release-bare None = refl

  pub serve-bare : (k : Kind) → serve s now (bare_asked q) rs k ≡ serve s now q rs k
  unfolding serve
  serve-bare Solicit = rw (hint-bare q.listed) (solicit-bare (binding q.who rs) (choose s rs (hint_of q.listed)))
  serve-bare Request = rw (hint-bare q.listed) (request-bare (binding q.who rs) (choose s rs (hint_of q.listed)))
  serve-bare Renew = renew-bare (binding q.who rs)
  serve-bare Rebind = rebind-bare (binding q.who rs)
  serve-bare Release = release-bare (binding q.who rs)
