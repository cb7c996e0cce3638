-- What is known of a sound state whose open exchange awaits a message, and of a message that it awaits.
--   own_in, server-in        the two DUIDs lie in the state
--   exchange-is              the open exchange by its type
--   kind-type, kind-served   the open exchange's type is a served one
--   only-formed              the one IA_PD of a well-formed message
--   Awaited, awaited-facts   the parts of `awaited` that the acceptance needs
use Rattle.std.specs.Prelude.{◌≡◌, Bool, cond, not, ◌&&◌, List, ◌++◌, ℕ, ◌≤◌, leb, length, get_or, None, Some}
use Rattle.std.proofs.Math.Path.{refl}
use Rattle.std.proofs.Common.{sym, ap, ◌∙◌}
use Rattle.std.proofs.Math.Bool.{true, false}
use native.Mathlib.Omega.{arith}
use borrow.Author.Tests.{eqb-true, eqb-false, ne_eqb, leb-true}
use Rattle.std.proofs.Math.Dec.{eqb}
use Rattle.rules.specs.Words.{all, part, filled, same_bytes, num_at}
use Rattle.rules.specs.Refusals.{wrong_size}
use Rattle.rules.specs.Message.{read, well_formed}
use Rattle.rules.specs.Identity.{Duid, good_duid, good_identity, served, kind_of, type_of, answer_type, stands}
use Rattle.rules.specs.Router.{Exchange, good_server, is_open, good_ias, may_offer, from_server, number_before, awaited, open_of}
use Rattle.rules.specs.RouterBytes.{duid_bytes, server_bytes, some_if, lease_of, duid_at, exchange_of, router_of, sound_router_bytes}
use Rattle.rules.specs.Options.{spot}
use Rattle.laws.specs.Tests.{both, false-true}
use Rattle.laws.specs.Kinds.{type-served}
use Rattle.laws.specs.Flat.{be-one}
use Rattle.laws.specs.Fields.{field_at}
use Rattle.laws.specs.RouterFields.{sound-facts}
use Rattle.laws.specs.RouterChange.{open-type}
use Rattle.laws.specs.RouterRepresent.{inner-byte, lent-fields, lent_length, router-sound-bytes}
use Rattle.laws.specs.Formed.{PdFormed, formed-pd}
use Rattle.heard.specs.Heard.{only_of}
use Rattle.heard.specs.Facts.{only_at}
use Rattle.awaited.specs.Parts.{DuidIn}

-- ---------------------------------------------------------------- a sound state

behind : (b : List ℕ) (at : ℕ) (d : Duid) → good_duid d ≡ true → part at 131 b ≡ duid_bytes d → num_at b at 1 ≤ 130
behind b at d g q =
    let few : length d ≤ 130 = leb-true (length d) 130 (both (leb 3 (length d)) (leb (length d) 130) g).1 in
    let e : num_at b at 1 ≡ length d = inner-byte b at 131 (length d) (filled 130 d) (q ∙ ap (λ k. k ++ filled 130 d) (be-one (length d) (omega arith))) (omega arith) (omega arith) in
    omega arith

-- the open exchange, by its type
abbrev pub open_as : List ℕ → ℕ → Exchange
open_as b k = exchange_of (kind_of k) (lease_of (part 347 34 b))

pub exchange-is : (b : List ℕ) {k : ℕ} → k ≡ num_at b 346 1 → (router_of b).exchange ≡ some_if k (open_as b k)
unfolding router_of
exchange-is b e = rw e

module _ (b : List ℕ) (sound : sound_router_bytes b ≡ true) where
  pub own_in : DuidIn b 41
  unfolding router_of
  own_in =
      let f = sound-facts (router_of b) (router-sound-bytes b sound).0 in
      let g = (both (good_duid (duid_at b 41)) _ (both (good_identity (router_of b).me) (leb (num_at b 36 1) 64) f.asker).0).0 in
      record { room = omega (arith, lent_length b sound); few = behind b 41 (duid_at b 41) g (field_at (lent-fields b sound) 7 (omega arith)) }

  pub server-in : DuidIn b 172
  unfolding router_of
  server-in =
      let f = sound-facts (router_of b) (router-sound-bytes b sound).0 in
      record { room = omega (arith, lent_length b sound); few = by (eqb (num_at b 172 1) 0) refl f.server (field_at (lent-fields b sound) 8 (omega arith)) }
    where
      by : (t : Bool) → eqb (num_at b 172 1) 0 ≡ t → good_server (cond t None (Some (duid_at b 172))) ≡ true → part 172 131 b ≡ server_bytes (cond t None (Some (duid_at b 172))) → num_at b 172 1 ≤ 130
      by true e g q = let z = eqb-true (num_at b 172 1) 0 e in omega arith
      by false e g q = behind b 172 (duid_at b 172) g q

  module _ {k : ℕ} (ek : k ≡ num_at b 346 1) (o : k ≡ 0 → ⊥) where
    pub kind-type : k ≡ type_of (kind_of k)
    kind-type =
        let x : (router_of b).exchange ≡ Some (open_as b k) = exchange-is b ek ∙ rw (ne_eqb k 0 o) in
        ek ∙ (open-type b (router_of b).exchange (field_at (lent-fields b sound) 10 (omega arith)) (ap is_open x)).1 ∙ ap (λ y. type_of (open_of y).kind) x

    pub kind-served : served k ≡ true
    kind-served = ap served kind-type ∙ type-served (kind_of k)

-- ---------------------------------------------------------------- a message that is awaited

pub only-formed : (m : List ℕ) → well_formed m ≡ true → {p s n : ℕ} → only_of 25 m ≡ Some (spot p s n) → PdFormed m s n
only-formed m g h = formed-pd m g 0 (ap (λ l. get_or l 0 None) (only_at 25 m h))

pub record Awaited (b m : List ℕ) (k : ℕ) : Type 0 where
  pub pending : k ≡ 0 → ⊥
  pub formed : well_formed m ≡ true
  pub one : stands true (read m).servers ≡ true
  pub good : all good_duid (read m).servers ≡ true
  pub pds : good_ias (kind_of k) (router_of b).me.iaid (read m).ias ≡ true

pub awaited-facts : (b m : List ℕ) {k : ℕ} → k ≡ num_at b 346 1 → awaited (router_of b) m (read m) (router_of b).exchange ≡ true → Awaited b m k
unfolding awaited
awaited-facts b m {k} ek h = by (eqb k 0) refl (sym (ap (awaited (router_of b) m (read m)) (exchange-is b ek)) ∙ h)
  where
    by : (t : Bool) → eqb k 0 ≡ t → awaited (router_of b) m (read m) (cond t None (Some (open_as b k))) ≡ true → Awaited b m k
    by true e h = absurd (false-true h)
    by false e h =
        let r = router_of b in
        let v = read m in
        let h9 = both _ (may_offer (kind_of k) v) h in
        let h8 = both _ (good_ias (kind_of k) r.me.iaid v.ias) h9.0 in
        let h7 = both _ (from_server (kind_of k) r.server v.servers) h8.0 in
        let h6 = both _ (all (same_bytes r.me.duid) v.clients) h7.0 in
        let h5 = both _ (stands true v.clients) h6.0 in
        let h4 = both _ (eqb v.number (number_before r.next)) h5.0 in
        let h3 = both _ (eqb v.kind (answer_type (kind_of k))) h4.0 in
        let s = both (stands true v.servers && all good_duid v.servers) _ h7.1 in
        let g = both (stands true v.servers) (all good_duid v.servers) s.0 in
        record { pending = eqb-false k 0 e; formed = (both (not (wrong_size m)) (well_formed m) h3.0).1; one = g.0; good = g.1; pds = h8.1 }
