-- What callers know of the judgement by the state.
--   stopped, passed                    the number of a judgement that refused, or that didn't
--   state-none, -sound, -size, -time   what 0 says
--   state-here, -later                 the number of a judgement that goes on with other tests
--   router-once                        the test of the lent bytes, and of the state that they represent
use Rattle.std.specs.Prelude.{◌≡◌, Bool, true, false, not, List, [], ◌∷◌, ◌++◌, ℕ, length, Result, Ok, Err}
use Rattle.std.proofs.Common.{sym, ap, ◌∙◌}
use Rattle.std.proofs.Math.Path.{refl}
use Rattle.std.proofs.lemmas.Bool.{not-false}
use Rattle.rules.specs.Refusals.{Res, unless, number_of}
use Rattle.rules.specs.Router.{sound_router}
use Rattle.rules.specs.RouterBytes.{router_of, sound_router_bytes}
use Rattle.rules.specs.declared.Refusal.{Refusal}
use Rattle.laws.specs.Every.{Every}
use Rattle.laws.specs.Refusals.{number, refused_by, none-applies, number-here, number-later, nine-once}
use Rattle.laws.specs.RouterRepresent.{lent_length, router-sound-bytes}
use Rattle.state.specs.Judged.{state_tests, by_state}

-- a judgement made with `?`
module _ {A : Type 0} {r : Result A Refusal} {n : ℕ} (e : refused_by r ≡ n) where
  pub stopped : {x : Refusal} → r ≡ Err x → number_of x ≡ n
  stopped w = sym (ap refused_by w) ∙ e

  pub passed : {a : A} → r ≡ Ok a → 0 ≡ n
  passed w = sym (ap refused_by w) ∙ e

module _ (b : List ℕ) (now : ℕ) {n : ℕ} (e : n ≡ by_state b now) where
  pub state-here : (us : List (ℕ × Bool)) → (n ≡ 0 → ⊥) → n ≡ number (state_tests b now ++ us)
  unfolding by_state
  state-here us h = number-here (state_tests b now) us e h

  module _ (z : n ≡ 0) where
    pub state-later : (us : List (ℕ × Bool)) → number (state_tests b now ++ us) ≡ number us
    unfolding by_state
    state-later us = number-later (state_tests b now) us refl e z

    pub state-none : Every (λ t. t.1 ≡ false) (state_tests b now)
    unfolding by_state
    state-none = none-applies (state_tests b now) refl e z

    pub state-sound : sound_router_bytes b ≡ true
    state-sound = not-false _ state-none.0

    pub state-size : length b ≡ 384
    state-size = lent_length b state-sound

-- 9 once
pub router-once : {A : Type 0} (b : List ℕ) (ts : List (ℕ × Bool)) (x : Res A)
    → unless ((9, not (sound_router_bytes b)) ∷ []) (unless ((9, not (sound_router (router_of b))) ∷ ts) x) ≡ unless ((9, not (sound_router_bytes b)) ∷ ts) x
router-once b ts x = nine-once (sound_router_bytes b) (sound_router (router_of b)) (λ h. (router-sound-bytes b h).0) ts x
