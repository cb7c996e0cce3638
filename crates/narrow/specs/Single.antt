-- What it means that a promise allows one result only.
use Rattle.std.specs.Prelude.{ℕ, ◌≡◌, List, ◌⊎◌, length, Result, Ok, Err, IfOk}
use Rattle.rules.specs.declared.Refusal.{Refusal}
use Rattle.laws.specs.Numbers.{Bytes}
use Rattle.values.specs.declared.IaPrefix.{IaPrefix}
use Rattle.lone.specs.declared.Excluded.{Excluded}

-- two results that the promise allows are equal
abbrev pub Single : {R : Type 0} → (R → Type 0) → Type 0
Single {R} P = (r r' : R) → P r → P r' → r ≡ r'

-- what the type of an array of sixteen bytes says; a contract doesn't repeat it
abbrev pub Sixteen : List ℕ → Type 0
Sixteen l = Bytes l × (length l ≡ 16)

-- what is known of an answer beside the value that it stands for
abbrev pub ExcludeBeside : Result Excluded Refusal → Type 0
ExcludeBeside r = IfOk r (λ (e : Excluded). Sixteen e.bits)

-- the arrays of an IA Prefix
abbrev pub Arrays : IaPrefix → Type 0
Arrays x = Sixteen x.bits × Sixteen x.out

abbrev pub PrefixBeside : Result IaPrefix Refusal → Type 0
PrefixBeside r = IfOk r Arrays

-- An IA Prefix is told from every other by its fields, but for the bytes beside a cut of 0: those are no excluded prefix.
pub record SamePrefix (x y : IaPrefix) : Type 0 where
  pub preferred : x.preferred ≡ y.preferred
  pub valid : x.valid ≡ y.valid
  pub length : x.length ≡ y.length
  pub bits : x.bits ≡ y.bits
  pub cut : x.cut ≡ y.cut
  pub out : (x.cut ≡ 0) ⊎ (x.out ≡ y.out)

-- the same refusal, or values that are alike
abbrev pub Alike : {A : Type 0} → (A → A → Type 0) → Result A Refusal → Result A Refusal → Type 0
Alike same (Ok x) (Ok y) = same x y
Alike same (Ok x) (Err k) = ⊥
Alike same (Err n) (Ok y) = ⊥
Alike same (Err n) (Err k) = n ≡ k

abbrev pub SameRead : Result IaPrefix Refusal → Result IaPrefix Refusal → Type 0
SameRead r r' = Alike SamePrefix r r'
