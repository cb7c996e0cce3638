-- The bytes of a message in the parts that are written one after another.
use Rattle.std.specs.Prelude.{ℕ, Bool, List, [], ◌∷◌, ◌++◌, map}
use Rattle.rules.specs.Words.{cons_if, num, be}
use Rattle.rules.specs.Options.{option, item, printed}
use Rattle.rules.specs.Message.{status_item, except_items, listed_bytes, listed_item, ia_item}
use Rattle.values.specs.Values.{except_of, listed_of, ia_of}
use Rattle.values.specs.declared.IaPrefix.{IaPrefix}
use Rattle.values.specs.declared.Pd.{Pd}

-- a Status Code, or nothing
unfoldable pub said_bytes : Bool → ℕ → List ℕ
said_bytes says k = printed (map status_item (cons_if says k []))

-- an IA Prefix up to its options: preferred, valid, length, prefix
unfoldable pub fixed_bytes : ℕ → ℕ → ℕ → List ℕ → List ℕ
fixed_bytes preferred valid a q = be 4 preferred ++ (be 4 valid ++ ((a ∷ []) ++ be 16 (num q)))

-- its PD Exclude, or nothing
unfoldable pub cut_bytes : IaPrefix → List ℕ
cut_bytes x = printed (except_items x.length (except_of x.cut x.out))

unfoldable pub prefix_bytes : IaPrefix → List ℕ
prefix_bytes x = option 26 (listed_bytes (listed_of x []))

unfoldable pub prefixes_bytes : List IaPrefix → List ℕ
prefixes_bytes xs = printed (map listed_item (map (λ x. listed_of x []) xs))

-- an IA_PD up to its options
unfoldable pub three_bytes : ℕ → ℕ → ℕ → List ℕ
three_bytes iaid t1 t2 = be 4 iaid ++ (be 4 t1 ++ be 4 t2)

-- an IA_PD, or nothing
unfoldable pub pd_bytes : Bool → Pd → List ℕ
pd_bytes has d = printed (map ia_item (cons_if has (ia_of d) []))

-- a message up to its Option Request: the type, the number, the Client ID, the Server ID or nothing
unfoldable pub server_bytes : Bool → List ℕ → List ℕ
server_bytes has server = printed (map (item 2) (cons_if has server []))

unfoldable pub ids_bytes : ℕ → ℕ → List ℕ → Bool → List ℕ → List ℕ
ids_bytes kind number client has server = ((kind ∷ []) ++ be 3 number) ++ (option 1 client ++ server_bytes has server)
