-- How long what is printed gets: an answer of the box at most 442 bytes, a router's message at most 344.
--   append-, cons-, none-length          options one after the other; one more; none
--   -most                                at most so long: options of one code, and the levels below the message
--   UpTo, Bare                           an excluded prefix of at most so many bits; an IA Prefix without options
--   offer-, return-, say-, ask-most      the IA_PDs of an answer and of a router's message
--   Addressed                            at most one Client ID and one Server ID, each of at most 130 bytes
--   answer-size, status-size, query-size whole messages
use Rattle.std.specs.Prelude.{◌≡◌, refl, Bool, true, false, cond, ℕ, ◌+◌, ◌*◌, ◌≤◌, eqb, Option, None, Some}
use Rattle.std.proofs.Common.{ap, sym, ◌∙◌, suc-mul, lit≤, length-append}
use mathlib.Core.List.{List, [], ◌∷◌, ◌++◌, map, append_assoc}
use Rattle.std.proofs.Math.Nat.{one-mul, mul-le-mul_right}
use native.Mathlib.Omega.{arith}
use Rattle.std.proofs.Math.ListN.{length}
use Rattle.std.proofs.lemmas.List.{length-map}
use Rattle.rules.specs.Words.{be16, keep}
use Rattle.rules.specs.Prefix.{Prefix, fits, bytes_for, exclude_bytes, encodable, lease_encodable}
use Rattle.rules.specs.Options.{option, Item, item, printed}
use Rattle.rules.specs.Message.{Listed, Ia, Message, name_of, status_item, except_items, listed_bytes, listed_item, ia_bytes, ia_item, asks_items, items, print}
use Rattle.rules.specs.Box.{returned, others}
use Rattle.laws.specs.Tests.{both}
use Rattle.laws.specs.Loops.{keep-few}
use Rattle.laws.specs.Every.{Every, every, every-weaker, every_map}
use Rattle.laws.specs.Exclude.{encodes}
use Rattle.laws.specs.Stands.{option-length}
use Rattle.laws.specs.Round.{status_bytes, exclude-length, listed_items, listed-length, ia_items, ia-length, print-length}

-- ---------------------------------------------------------------- printed options

pub printed-append : (xs ys : List Item) → printed (xs ++ ys) ≡ printed xs ++ printed ys
unfolding printed
printed-append [] ys = refl
printed-append (item c s ∷ xs) ys = ap (λ (l : List ℕ). option c s ++ l) (printed-append xs ys) ∙ sym (append_assoc (option c s) (printed xs) (printed ys))

pub append-length : (xs ys : List Item) → length (printed (xs ++ ys)) ≡ length (printed xs) + length (printed ys)
append-length xs ys = ap length (printed-append xs ys) ∙ length-append (printed xs) (printed ys)

pub cons-length : (c : ℕ) (s : List ℕ) (r : List Item) → length (printed (item c s ∷ r)) ≡ 4 + length s + length (printed r)
unfolding printed
cons-length c s r = omega (arith, length-append (option c s) (printed r), option-length c s)

pub none-length : length (printed []) ≡ 0
unfolding printed
none-length = refl

-- options of one code, each of at most n bytes
pub map-most : {A : Type 0} (c n : ℕ) (g : A → List ℕ) (l : List A) → Every (λ x. length (g x) ≤ n) l
    → length (printed (map (λ x. item c (g x)) l)) ≤ length l * (4 + n)
map-most c n g [] h = omega (arith, none-length)
map-most c n g (x ∷ l) h =
    let r = map-most c n g l h.1 in
    let e = cons-length c (g x) (map (λ x. item c (g x)) l) in
    let m = suc-mul (length l) (4 + n) in
    omega (arith, h.0)

-- ---------------------------------------------------------------- Status Codes, PD Exclude, IA Prefixes

cond-most : (b : Bool) (x y : List ℕ) → length x ≤ 13 → length y ≤ 13 → length (cond b x y) ≤ 13
cond-most true x y h g = h
cond-most false x y h g = g

pub name-most : (k : ℕ) → length (name_of k) ≤ 13
unfolding name_of
name-most k = cond-most (eqb k 0) _ _ (lit≤ tt) (cond-most (eqb k 3) _ _ (lit≤ tt) (cond-most (eqb k 6) _ _ (lit≤ tt) (lit≤ tt)))

pub statuses-most : (l : List ℕ) → length (printed (map status_item l)) ≤ length l * 19
statuses-most l = map-most 13 15 status_bytes l (every (λ k. omega (arith, name-most k)) l)

-- an excluded prefix of at most b bits
abbrev pub UpTo : ℕ → Option Prefix → Type 0
UpTo b None = Unit {0}
UpTo b (Some e) = e.length ≤ b

pub encodable-upto : (p : Prefix) (o : Option Prefix) → lease_encodable p o ≡ true → UpTo 128 o
encodable-upto p None h = tt
encodable-upto p (Some e) h = (encodes p e (both (fits p) (encodable p e) h).1).most

except-most : (a b : ℕ) (o : Option Prefix) → UpTo b o → length (printed (except_items a o)) ≤ 5 + bytes_for a b
except-most a b None h = omega (arith, none-length)
except-most a b (Some e) h = omega (arith, cons-length 67 (exclude_bytes a e) [], none-length, exclude-length a e)

-- an IA Prefix without Status Codes
pub listed-most : (b : ℕ) (x : Listed) → UpTo b x.lease.except → x.statuses ≡ [] → length (listed_bytes x) ≤ 30 + bytes_for x.lease.prefix.length b
unfolding listed_items
listed-most b x h e =
    let a = x.lease.prefix.length in
    let n : length x.statuses ≡ 0 = ap length e in
    omega (
      arith,
      listed-length x,
      append-length (except_items a x.lease.except) (map status_item x.statuses),
      except-most a b x.lease.except h,
      statuses-most x.statuses,
    )

-- an IA Prefix without options, as the box returns it
pub record Bare (x : Listed) : Type 0 where
  pub except : x.lease.except ≡ None
  pub statuses : x.statuses ≡ []

bare-most : (x : Listed) → Bare x → length (listed_bytes x) ≤ 25
unfolding listed_items
bare-most x h =
    let e : length (printed (listed_items x)) ≡ 0 = rw (h.except, h.statuses) none-length in
    omega (arith, listed-length x)

pub returned-bare : (l : List Listed) → Every Bare (map returned l)
returned-bare l = every_map Bare returned l (every (λ x. record { except = refl; statuses = refl }) l)

pub others-bare : (p : Prefix) (l : List Listed) → Every Bare (others p l)
unfolding others
others-bare p l = returned-bare (keep _ l)

pub others-few : (p : Prefix) (l : List Listed) → length (others p l) ≤ length l
unfolding others
others-few p l = rw length-map (keep-few _ l)

-- ---------------------------------------------------------------- an IA_PD

ia-most : (i : Ia) → length (ia_bytes i) ≤ 12 + length (printed (map listed_item i.listed)) + length i.statuses * 19
unfolding ia_items
ia-most i = omega (arith, ia-length i, append-length (map listed_item i.listed) (map status_item i.statuses), statuses-most i.statuses)

module _ (i : Ia) where
  -- a prefix with an excluded /64 or none, in a delegation from /32 on, and at most four returned ones
  pub offer-most : (x : Listed) (xs : List Listed) → i.listed ≡ x ∷ xs → i.statuses ≡ []
      → 32 ≤ x.lease.prefix.length → UpTo 64 x.lease.except → x.statuses ≡ [] → Every Bare xs → length xs ≤ 4 → length (ia_bytes i) ≤ 166
  offer-most x xs e n le up s bare few =
      let l = ap (λ (l : List Listed). length (printed (map listed_item l))) e in
      let k : length i.statuses ≡ 0 = ap length n in
      let r = map-most 26 25 listed_bytes xs (every-weaker bare-most xs bare) in
      omega (arith, ia-most i, cons-length 26 (listed_bytes x) (map listed_item xs), listed-most 64 x up s)

  -- at most four returned prefixes
  pub return-most : i.statuses ≡ [] → Every Bare i.listed → length i.listed ≤ 4 → length (ia_bytes i) ≤ 128
  return-most n bare few =
      let k : length i.statuses ≡ 0 = ap length n in
      omega (arith, ia-most i, map-most 26 25 listed_bytes i.listed (every-weaker bare-most i.listed bare))

  -- at most one status
  pub say-most : i.listed ≡ [] → length i.statuses ≤ 1 → length (ia_bytes i) ≤ 31
  say-most e n =
      let l = ap (λ (l : List Listed). length (printed (map listed_item l))) e ∙ none-length in
      omega (arith, ia-most i)

  -- at most one prefix, with any excluded prefix or none
  pub ask-most : i.statuses ≡ [] → Every (λ x. UpTo 128 x.lease.except × (x.statuses ≡ [])) i.listed → length i.listed ≤ 1 → length (ia_bytes i) ≤ 62
  ask-most n h one =
      let k : length i.statuses ≡ 0 = ap length n in
      let most : (x : Listed) → UpTo 128 x.lease.except × (x.statuses ≡ []) → length (listed_bytes x) ≤ 46 =
      λ x g. omega (arith, listed-most 128 x g.0 g.1) in
      omega (arith, ia-most i, map-most 26 46 listed_bytes i.listed (every-weaker most i.listed h))

-- ---------------------------------------------------------------- a message

pub record Addressed (v : Message) : Type 0 where
  pub client : length v.clients ≤ 1
  pub server : length v.servers ≤ 1
  pub clients : Every (λ d. length d ≤ 130) v.clients
  pub servers : Every (λ d. length d ≤ 130) v.servers

abbrev pub asks_size : Bool → ℕ
asks_size true = 6
asks_size false = 0

asks-length : (b : Bool) → length (printed (asks_items b)) ≡ asks_size b
asks-length true = omega (arith, cons-length 6 (be16 67) [], none-length)
asks-length false = none-length

asks-most : (b : Bool) → asks_size b ≤ 6
asks-most true = lit≤ tt
asks-most false = lit≤ tt

module _ (v : Message) (d : Addressed v) (one : length v.ias ≤ 1) where
  pub print-most : (n : ℕ) → Every (λ i. length (ia_bytes i) ≤ n) v.ias → length (print v) ≤ 276 + n + asks_size v.asks + length v.statuses * 19
  unfolding items
  print-most n h =
      let c = map (item 1) v.clients in
      let s = map (item 2) v.servers in
      let a = asks_items v.asks in
      let t = map status_item v.statuses in
      let p = map ia_item v.ias in
      let m : length v.ias * (4 + n) ≤ 4 + n = omega (arith, mul-le-mul_right (4 + n) one, one-mul (4 + n)) in
      omega (
        arith,
        print-length v,
        append-length c (s ++ (a ++ (t ++ p))),
        append-length s (a ++ (t ++ p)),
        append-length a (t ++ p),
        append-length t p,
        map-most 1 130 (λ l. l) v.clients d.clients,
        map-most 2 130 (λ l. l) v.servers d.servers,
        asks-length v.asks,
        statuses-most v.statuses,
        map-most 25 n ia_bytes v.ias h,
      )

  -- the box's, with prefixes and with statuses
  pub answer-size : v.asks ≡ false → v.statuses ≡ [] → Every (λ i. length (ia_bytes i) ≤ 166) v.ias → length (print v) ≤ 442
  answer-size a n h =
      let b = ap asks_size a in
      let k : length v.statuses ≡ 0 = ap length n in
      omega (arith, print-most 166 h)

  pub status-size : v.asks ≡ false → length v.statuses ≤ 1 → Every (λ i. length (ia_bytes i) ≤ 31) v.ias → length (print v) ≤ 326
  status-size a n h = let b = ap asks_size a in omega (arith, print-most 31 h)

  -- the router's
  pub query-size : v.statuses ≡ [] → Every (λ i. length (ia_bytes i) ≤ 62) v.ias → length (print v) ≤ 344
  query-size n h =
      let k : length v.statuses ≡ 0 = ap length n in
      omega (arith, print-most 62 h, asks-most v.asks)
