-- The law of one result, and that what a contract speaks of tells a result from every other.
--   one-result, -beside    an equation of what a faithful view sees allows one result only; one with something said beside it
--   lent-faithful, ..      the views that contracts take of a result
--   given-same, same-in-code  what an operation in code gives, by its word and its refusal; with what it leaves
--   read-alike, read-same  the view of a result by what is seen of its value
use Rattle.std.specs.Prelude.{ℕ, ◌≡◌, refl, Bool, true, false, cond, List, [], ◌⊎◌, eqb, length, None, Some, Result, Ok, Err, IfOk}
use Rattle.std.proofs.Common.{sym, ap, ◌∙◌, inl, inr, arith, eqb-true}
use Rattle.std.proofs.lemmas.Option.{none-some}
use Rattle.rules.specs.Words.{num, be}
use Rattle.rules.specs.Refusals.{Res, refuse, done, outcome, number_of}
use Rattle.rules.specs.Lone.{Summary}
use Rattle.rules.specs.declared.Refusal.{Refusal}
use Rattle.rules.specs.declared.Refusal.TheVariants.{Time, Room, Size, Unserved, Malformed, Identity, Delegation, Silence, Unsound, Settings, Busy, Early, State, Unawaited}
use Rattle.rules.specs.Prefix.{prefix}
use Rattle.rules.specs.Lent.{Ended, ended, word_of}
use Rattle.laws.specs.Numbers.{be-num}
use Rattle.laws.specs.Refusals.{refused_by, numbered}
use Rattle.values.specs.Values.{except_of, lease_of, listed_of}
use Rattle.values.specs.declared.IaPrefix.{IaPrefix}
use Rattle.narrow.specs.Single.{Single, Sixteen, ExcludeBeside, Arrays, PrefixBeside, SamePrefix, Alike, SameRead}
use Rattle.lone.specs.Answers.{projected, id_value, Fills, exclude_value, prefix_value, message_value}
use Rattle.lone.specs.declared.Stretch.{Stretch}
use Rattle.lone.specs.declared.Excluded.{Excluded}
use Rattle.lone.specs.declared.MessageRead.{MessageRead}

-- ---------------------------------------------------------------- the law

-- results that look the same are the same
abbrev pub Faithful : {R X : Type 0} → (R → X) → Type 0
Faithful {R} see = (r r' : R) → see r ≡ see r' → r ≡ r'

pub one-result : {R X : Type 0} {see : R → X} → Faithful see → (f : X) → Single (λ r. see r ≡ f)
one-result g f r r' p q = g r r' (p ∙ sym q)

-- the same of results of which more is said than what is seen, and that are the same or alike
pub one-result-beside : {R X : Type 0} {see : R → X} {Q : R → Type 0} {Same : R → R → Type 0}
    → ((r r' : R) → Q r → Q r' → see r ≡ see r' → Same r r') → (f : X) → (r r' : R) → (see r ≡ f) × Q r → (see r' ≡ f) × Q r' → Same r r'
one-result-beside g f r r' p q = g r r' p.1 q.1 (p.0 ∙ sym q.0)

-- ---------------------------------------------------------------- a word and what is lent

-- the word and the state; the word and the room; the word, the state and the room
pub lent-faithful : Faithful {R = ℕ × List ℕ} (λ r. ended r.0 r.1 [])
lent-faithful r r' e = ap (λ (x : Ended). (x.word, x.lent)) e

pub room-faithful : (b : List ℕ) → Faithful {R = ℕ × List ℕ} (λ r. ended r.0 b r.1)
room-faithful b r r' e = ap (λ (x : Ended). (x.word, x.room)) e

pub all-faithful : Faithful {R = ℕ × List ℕ × List ℕ} (λ r. ended r.0 r.1 r.2)
all-faithful r r' e = ap (λ (x : Ended). (x.word, x.lent, x.room)) e

pub plain-faithful : {R : Type 0} → Faithful {R = R} (λ r. r)
plain-faithful r r' e = e

-- ---------------------------------------------------------------- the answers of the readers

-- a refusal is told by its number
named : ℕ → Refusal
named n =
    cond (eqb n 1) Time (cond (eqb n 2) Room (cond (eqb n 3) Size (cond (eqb n 4) Unserved (cond (eqb n 5) Malformed
    (cond (eqb n 6) Identity (cond (eqb n 7) Delegation (cond (eqb n 8) Silence (cond (eqb n 9) Unsound (cond (eqb n 10) Settings
    (cond (eqb n 11) Busy (cond (eqb n 12) Early (cond (eqb n 13) State Unawaited))))))))))))

named_is : (r : Refusal) → named (number_of r) ≡ r
unfolding named
named_is Time = refl
named_is Room = refl
named_is Size = refl
named_is Unserved = refl
named_is Malformed = refl
named_is Identity = refl
named_is Delegation = refl
named_is Silence = refl
named_is Unsound = refl
named_is Settings = refl
named_is Busy = refl
named_is Early = refl
named_is State = refl
named_is Unawaited = refl

refuse-same : {A : Type 0} {n k : ℕ} → ◌≡◌ {A = Res A} (refuse n) (refuse k) → n ≡ k
refuse-same e = cc

same-refusal : {A : Type 0} {r k : Refusal} → ◌≡◌ {A = Res A} (refuse (number_of r)) (refuse (number_of k)) → r ≡ k
same-refusal {A} {r} {k} e =
    let n : number_of r ≡ number_of k = refuse-same e in
    sym (named_is r) ∙ ap named n ∙ named_is k

done-same : {A : Type 0} {x y : A} → done x ≡ done y → x ≡ y
done-same e = cc

refuse-done : {A : Type 0} {n : ℕ} {x : A} → refuse n ≡ done x → ⊥
refuse-done e = let z : ◌≡◌ {A = ℕ} 0 1 = cc in omega arith

pub outcome-faithful : {A : Type 0} → Faithful {R = Result A Refusal} outcome
outcome-faithful (Ok x) (Ok y) e = ap Ok (done-same e)
outcome-faithful (Ok x) (Err k) e = absurd (refuse-done (sym e))
outcome-faithful (Err n) (Ok y) e = absurd (refuse-done e)
outcome-faithful (Err n) (Err k) e = ap Err (same-refusal e)

-- what an operation in code gives is told by its word and by the number with which it refuses: the word alone doesn't say which of `Ok` and `Err` it is
pub given-same : (r r' : Result ℕ Refusal) → word_of r ≡ word_of r' → refused_by r ≡ refused_by r' → r ≡ r'
given-same (Ok x) (Ok y) w n = ap Ok w
given-same (Ok x) (Err k) w n = absurd (numbered k (sym n))
given-same (Err k) (Ok y) w n = absurd (numbered k n)
given-same (Err j) (Err k) w n = ap Err (same-refusal {A = ℕ} (ap refuse n))

-- the same of a result beside what is left
pub same-in-code : {X : Type 0} (r r' : Result ℕ Refusal × X) → ◌≡◌ {A = ℕ × X} (word_of r.0, r.1) (word_of r'.0, r'.1) → refused_by r.0 ≡ refused_by r'.0 → r ≡ r'
same-in-code r r' w n =
    let o : r.0 ≡ r'.0 = given-same r.0 r'.0 (ap (λ x. x.0) w) n in
    let x : r.1 ≡ r'.1 = ap (λ x. x.1) w in
    λ i. (o i, x i)

-- values that are told apart by what is seen of them, where Q holds of them, or are then alike
module _ {A B : Type 0} (see : A → B) (Q : A → Type 0) where
  pub read-alike : {Same : A → A → Type 0} → ((x y : A) → Q x → Q y → see x ≡ see y → Same x y)
      → (r r' : Result A Refusal) → IfOk r Q → IfOk r' Q → projected see (outcome r) ≡ projected see (outcome r') → Alike Same r r'
  read-alike same (Ok x) (Ok y) p q e = same x y p q (done-same e)
  read-alike same (Ok x) (Err k) p q e = refuse-done (sym e)
  read-alike same (Err n) (Ok y) p q e = refuse-done e
  read-alike same (Err n) (Err k) p q e = same-refusal e

  pub read-same : ((x y : A) → Q x → Q y → see x ≡ see y → x ≡ y)
      → (r r' : Result A Refusal) → IfOk r Q → IfOk r' Q → projected see (outcome r) ≡ projected see (outcome r') → r ≡ r'
  read-same same r r' p q e = by r r' (read-alike {Same = λ x y. x ≡ y} same r r' p q e)
    where
      by : (r r' : Result A Refusal) → Alike (λ x y. x ≡ y) r r' → r ≡ r'
      by (Ok x) (Ok y) h = ap Ok h
      by (Ok x) (Err k) h = absurd h
      by (Err n) (Ok y) h = absurd h
      by (Err n) (Err k) h = ap Err h

message : Summary → MessageRead
message v = record { kind = v.kind; number = v.number; clients = v.clients; client = v.client; servers = v.servers; server = v.server; pds = v.pds; pd = v.pd }

pub message-faithful : Faithful message_value
unfolding message
message-faithful (Ok x) (Ok y) e = ap (λ v. Ok (message v)) (done-same e)
message-faithful (Ok x) (Err k) e = absurd (refuse-done (sym e))
message-faithful (Err n) (Ok y) e = absurd (refuse-done e)
message-faithful (Err n) (Err k) e = ap Err (same-refusal e)

stretch-made : {a a' n n' : ℕ} → a ≡ a' → n ≡ n' → ◌≡◌ {A = Stretch} (record { start = a; len = n }) (record { start = a'; len = n' })
stretch-made p q = rw (p, q)

-- a stretch that is all of the text after the header
pub id-faithful : (m : List ℕ) (r r' : Result Stretch Refusal) → IfOk r (Fills m) → IfOk r' (Fills m) → id_value m r ≡ id_value m r' → r ≡ r'
id-faithful m = read-same _ (Fills m) (λ s s' p q e. stretch-made (p.0 ∙ sym q.0) (omega (arith, p, q)))

-- ---------------------------------------------------------------- the answers that hold arrays

pub bytes_same : {l k : List ℕ} → Sixteen l → Sixteen k → num l ≡ num k → l ≡ k
bytes_same {l} {k} a b e =
    sym (be-num l a.0) ∙ ap (λ n. be n (num l)) (a.1 ∙ sym b.1) ∙ ap (be (length k)) e ∙ be-num k b.0

exclude-made : {a a' : ℕ} {l l' : List ℕ} → a ≡ a' → l ≡ l' → ◌≡◌ {A = Excluded} (record { length = a; bits = l }) (record { length = a'; bits = l' })
exclude-made p q = rw (p, q)

pub exclude-faithful : (r r' : Result Excluded Refusal) → ExcludeBeside r → ExcludeBeside r' → exclude_value r ≡ exclude_value r' → r ≡ r'
exclude-faithful = read-same _ _ (λ x y p q e. exclude-made (ap (λ v. v.length) e) (bytes_same p q (ap (λ v. v.bits) e)))

except-same : {a b : ℕ} {l k : List ℕ} → Sixteen l → Sixteen k → except_of a l ≡ except_of b k → (a ≡ b) × ((a ≡ 0) ⊎ (l ≡ k))
unfolding except_of
except-same {a} {b} {l} {k} g h e = by (eqb a 0) (eqb b 0) refl refl e
  where
    by : (t u : Bool) → eqb a 0 ≡ t → eqb b 0 ≡ u → cond t None (Some (prefix (num l) a)) ≡ cond u None (Some (prefix (num k) b))
        → (a ≡ b) × ((a ≡ 0) ⊎ (l ≡ k))
    by true true p q c = let z = eqb-true a 0 p in (z ∙ sym (eqb-true b 0 q), inl z)
    by true false p q c = absurd (none-some _ c)
    by false true p q c = absurd (none-some _ (sym c))
    by false false p q c = let v : prefix (num l) a ≡ prefix (num k) b = cc in (ap (λ x. x.length) v, inr (bytes_same g h (ap (λ x. x.bits) v)))

listed_same : (ks : List ℕ) (x y : IaPrefix) → Arrays x → Arrays y → listed_of x ks ≡ listed_of y ks → SamePrefix x y
unfolding listed_of lease_of
listed_same ks x y a b e =
    let o = except-same a.1 b.1 (ap (λ v. v.lease.except) e) in
    record {
      preferred = ap (λ v. v.preferred) e;
      valid = ap (λ v. v.valid) e;
      length = ap (λ v. v.lease.prefix.length) e;
      bits = bytes_same a.0 b.0 (ap (λ v. v.lease.prefix.bits) e);
      cut = o.0;
      out = o.1;
    }

pub prefix-faithful : (ks : List ℕ) (r r' : Result IaPrefix Refusal) → PrefixBeside r → PrefixBeside r' → prefix_value ks r ≡ prefix_value ks r' → SameRead r r'
prefix-faithful ks = read-alike _ Arrays (listed_same ks)
