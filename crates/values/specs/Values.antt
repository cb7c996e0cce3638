-- The values of rules/Message that the code's structs stand for.
use Rattle.std.specs.Prelude.{◌≡◌, ℕ, ◌≤◌, ◌<◌, List, [], map, Bool, true, cond, eqb, take, Option, None, Some}
use Rattle.rules.specs.Words.{all, cons_if, num}
use Rattle.rules.specs.Prefix.{Prefix, prefix, Lease, lease, lease_encodable}
use Rattle.rules.specs.Message.{Listed, Ia}
use Rattle.values.specs.declared.IaPrefix.{IaPrefix}
use Rattle.values.specs.declared.Pd.{Pd}

-- an excluded prefix of length b; none where b is 0
unfoldable pub except_of : ℕ → List ℕ → Option Prefix
except_of b out = cond (eqb b 0) None (Some (prefix (num out) b))

unfoldable pub lease_of : IaPrefix → Lease
lease_of x = lease (prefix (num x.bits) x.length) (except_of x.cut x.out)

-- an IA Prefix, with its Status Codes beside it
unfoldable pub listed_of : IaPrefix → List ℕ → Listed
listed_of x ks = record { preferred = x.preferred; valid = x.valid; lease = lease_of x; statuses = ks }

-- "with its excluded prefix or none, an encoding"
abbrev pub lease_encodes : IaPrefix → Bool
lease_encodes x = lease_encodable (lease_of x).prefix (lease_of x).except

-- the first n of them, without Status Codes
abbrev pub first_listed : ℕ → List IaPrefix → List Listed
first_listed n xs = map (λ x. listed_of x []) (take n xs)

unfoldable pub ia_of : Pd → Ia
ia_of d = record {
  iaid = d.iaid;
  t1 = d.t1;
  t2 = d.t2;
  listed = first_listed d.count d.prefixes;
  statuses = cons_if d.says d.status [];
}

-- an IA_PD that can be written
pub record Able (d : Pd) : Type 0 where
  pub count : d.count ≤ 5
  pub prefixes : all lease_encodes (take d.count d.prefixes) ≡ true
  pub status : d.status < 65536
