-- Refusals: what an operation gives, the tests that several operations share, and the order of the numbers at each.
use Rattle.std.specs.Prelude.{ℕ, ◌^◌, Bool, cond, not, ◌||◌, List, [], ◌∷◌, leb, ltb, length, Result, Ok, Err}
use Rattle.rules.specs.declared.Refusal.{Refusal}
use Rattle.rules.specs.declared.Refusal.TheVariants.{Time, Room, Size, Unserved, Malformed, Identity, Delegation, Silence, Unsound, Settings, Busy, Early, State, Unawaited}

-- "Each returns its number and length 0 and writes nothing": a refusal is a number and nothing else.
pub data Res (A : Type 0) : Type 0 where
  refuse : ℕ → Res A
  done : A → Res A

-- the number of each refusal, by its name in code
abbrev pub number_of : Refusal → ℕ
number_of Time = 1
number_of Room = 2
number_of Size = 3
number_of Unserved = 4
number_of Malformed = 5
number_of Identity = 6
number_of Delegation = 7
number_of Silence = 8
number_of Unsound = 9
number_of Settings = 10
number_of Busy = 11
number_of Early = 12
number_of State = 13
number_of Unawaited = 14

-- what code gives, as a result of these rules
abbrev pub outcome : {A : Type 0} → Result A Refusal → Res A
outcome (Ok x) = done x
outcome (Err r) = refuse (number_of r)

-- A table of numbers, each with the condition that it is "given exactly when" met; the first that applies is given.
abbrev pub unless : {A : Type 0} → List (ℕ × Bool) → Res A → Res A
unless [] x = x
unless (r ∷ rs) x = cond r.1 (refuse r.0) (unless rs x)

-- 1 "the time is earlier than the last accepted one, or 2^48 or more"
abbrev pub bad_time : ℕ → ℕ → Bool
bad_time last now = ltb now last || leb (2 ^ 48) now

-- 9 "the lent table or router state isn't sound", then 1
abbrev pub lent_tests : Bool → ℕ → ℕ → List (ℕ × Bool)
lent_tests is_sound last now = (9, not is_sound) ∷ (1, bad_time last now) ∷ []

-- 2 "the buffer to write in is under 512 bytes"
abbrev pub little_room : ℕ → Bool
little_room room = ltb room 512

abbrev pub room_tests : ℕ → List (ℕ × Bool)
room_tests room = (2, little_room room) ∷ []

-- 3 "the message is under 4 or over 1,232 bytes"
abbrev pub wrong_size : List ℕ → Bool
wrong_size m = ltb (length m) 4 || ltb 1232 (length m)

-- "Order at the box: 9, 1, 2, 3, 4, 5, 6, 7, 8."
abbrev pub box_order : List ℕ
box_order = 9 ∷ 1 ∷ 2 ∷ 3 ∷ 4 ∷ 5 ∷ 6 ∷ 7 ∷ 8 ∷ []

-- "Router, sending: 9, 1, 2, 11, 12, 13; resending and abandoning give no 11 or 12, abandoning no 2."
abbrev pub send_order : List ℕ
send_order = 9 ∷ 1 ∷ 2 ∷ 11 ∷ 12 ∷ 13 ∷ []

abbrev pub resend_order : List ℕ
resend_order = 9 ∷ 1 ∷ 2 ∷ 13 ∷ []

abbrev pub abandon_order : List ℕ
abandon_order = 9 ∷ 1 ∷ 13 ∷ []

-- "Router, receiving: 9, 1, 14."
abbrev pub receive_order : List ℕ
receive_order = 9 ∷ 1 ∷ 14 ∷ []

-- "A start gives only 10, or 1 for a time of 2^48 or more, 10 first."
abbrev pub start_order : List ℕ
start_order = 10 ∷ 1 ∷ []

-- "Public readers of a message or lone option give 3 (by the text's length) and 5 in that order"
abbrev pub reader_order : List ℕ
reader_order = 3 ∷ 5 ∷ []

-- "writers give 2 where the lent room is shorter than the text, after 5 for values that have no encoding."
abbrev pub writer_order : List ℕ
writer_order = 5 ∷ 2 ∷ []

-- the questions that change nothing, which document 01 doesn't name: live records, a record, what is held
abbrev pub live_order : List ℕ
live_order = 9 ∷ 1 ∷ []

abbrev pub record_order : List ℕ
record_order = 9 ∷ 2 ∷ []

abbrev pub held_order : List ℕ
held_order = 9 ∷ 1 ∷ 2 ∷ []
