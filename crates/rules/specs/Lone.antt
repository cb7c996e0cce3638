-- The public readers and writers: a whole message, or one option that stands alone and fills its text.
use Rattle.std.specs.Prelude.{ℕ, ◌+◌, ◌-◌, ◌^◌, Bool, true, not, ◌&&◌, List, [], ◌∷◌, ◌++◌, eqb, leb, ltb, length, get_or, Option, Some, is_ok}
use Rattle.rules.specs.Words.{all, be16, num_at, u16_at}
use Rattle.rules.specs.Refusals.{Res, done, unless, wrong_size}
use Rattle.rules.specs.Prefix.{Prefix, encodable, lease_encodable, exclude_bytes, unpacked}
use Rattle.rules.specs.Options.{own, count, nth, content, option, spot}
use Rattle.rules.specs.Message.{Listed, Ia, status_at, listed_at, ia_at, asks67, top, well_formed, name_of, listed_bytes, ia_bytes}
use Rattle.rules.specs.declared.Level.{Level}
use Rattle.rules.specs.declared.Level.TheVariants.{Top, InPd, InPrefix}
use Rattle.rules.specs.declared.Spot.{Spot}

-- ---------------------------------------------------------------- readers

abbrev pub reader_tests : List ℕ → Bool → List (ℕ × Bool)
reader_tests m good = (3, wrong_size m) ∷ (5, not good) ∷ []

-- "5 also for another code or a text not filled": the option of code w at that level, and nothing else
abbrev pub alone : Level → ℕ → List ℕ → Bool
alone l w m = eqb (u16_at m 0) w && eqb (4 + u16_at m 2) (length m) && is_ok (own l m 0 0 w 4 (u16_at m 2))

-- the option that fills the text
abbrev pub only : List ℕ → Option Spot
only m = Some (spot 0 4 (length m - 4))

abbrev pub lone : {A : Type 0} → Level → ℕ → (List ℕ → A) → List ℕ → Res A
lone l w value m = unless (reader_tests m (alone l w m)) (done (value m))

-- a Client ID (code 1) or Server ID (code 2): its DUID, as that stretch of the text
unfoldable pub read_id : ℕ → List ℕ → Res (List ℕ)
read_id w m = lone Top w (λ t. content t (only t)) m

-- an Option Request: whether code 67 is in it
unfoldable pub read_request : List ℕ → Res Bool
read_request m = lone Top 6 (λ t. asks67 (content t (only t))) m

-- a Status Code: the code
unfoldable pub read_status : List ℕ → Res ℕ
read_status m = lone Top 13 (λ t. status_at t (only t)) m

unfoldable pub read_pd : List ℕ → Res Ia
read_pd m = lone Top 25 (λ t. ia_at t (only t)) m

unfoldable pub read_prefix : List ℕ → Res Listed
read_prefix m = lone InPd 26 (λ t. listed_at t (only t)) m

-- a PD Exclude inside p
unfoldable pub read_exclude : Prefix → List ℕ → Res Prefix
read_exclude p m = lone (InPrefix p.length) 67 (λ t. unpacked p (get_or t 4 0) (num_at t 5 (length t - 5))) m

-- a message: its type and number, how many Client IDs, Server IDs and IA_PDs stand in it, and where the first of each does
pub record Summary : Type 0 where
  pub kind : ℕ
  pub number : ℕ
  pub clients : ℕ
  pub client : Option Spot
  pub servers : ℕ
  pub server : Option Spot
  pub pds : ℕ
  pub pd : Option Spot

unfoldable pub summary : List ℕ → Summary
summary m = record {
  kind = get_or m 0 0;
  number = num_at m 1 3;
  clients = count 1 (top m);
  client = nth 1 0 (top m);
  servers = count 2 (top m);
  server = nth 2 0 (top m);
  pds = count 25 (top m);
  pd = nth 25 0 (top m);
}

unfoldable pub read_message : List ℕ → Res Summary
read_message m = unless (reader_tests m (well_formed m)) (done (summary m))

-- ---------------------------------------------------------------- writers

abbrev pub writer_tests : Bool → List ℕ → ℕ → List (ℕ × Bool)
writer_tests encodes text room = (5, not encodes) ∷ (2, ltb room (length text)) ∷ []

-- the option of code w with that content; one over 65,535 bytes has no encoding
abbrev pub write : Bool → ℕ → List ℕ → ℕ → Res (List ℕ)
write encodes w s room = unless (writer_tests (encodes && leb (length s) 65535) (option w s) room) (done (option w s))

unfoldable pub write_id : ℕ → List ℕ → ℕ → Res (List ℕ)
write_id w duid room = write true w duid room

unfoldable pub write_request : ℕ → Res (List ℕ)
write_request room = write true 6 (be16 67) room

unfoldable pub write_status : ℕ → ℕ → Res (List ℕ)
write_status k room = write (ltb k 65536) 13 (be16 k ++ name_of k) room

unfoldable pub write_exclude : Prefix → Prefix → ℕ → Res (List ℕ)
write_exclude p e room = write (encodable p e) 67 (exclude_bytes p.length e) room

-- each number fits its field
abbrev pub listed_encodes : Listed → Bool
listed_encodes x = ltb x.preferred (2 ^ 32) && ltb x.valid (2 ^ 32) && lease_encodable x.lease.prefix x.lease.except && all (λ k. ltb k 65536) x.statuses

abbrev pub ia_encodes : Ia → Bool
ia_encodes i = ltb i.iaid (2 ^ 32) && ltb i.t1 (2 ^ 32) && ltb i.t2 (2 ^ 32) && all listed_encodes i.listed && all (λ k. ltb k 65536) i.statuses

unfoldable pub write_prefix : Listed → ℕ → Res (List ℕ)
write_prefix x room = write (listed_encodes x) 26 (listed_bytes x) room

unfoldable pub write_pd : Ia → ℕ → Res (List ℕ)
write_pd i room = write (ia_encodes i) 25 (ia_bytes i) room
