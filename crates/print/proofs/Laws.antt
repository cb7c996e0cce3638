-- Laws that only these proofs need: the bytes of a level by the parts that are written, and how long they are.
use mathlib.Core.Path.{◌≡◌, refl, ap, sym, ◌∙◌}
use mathlib.Core.Bool.{Bool, true, false}
use mathlib.Core.List.{List, [], ◌∷◌, ◌++◌, map, append_assoc, append-nil}
use Prim.Native.Nat.{ℕ, zero, suc, ◌+◌, ◌^◌, ◌≤◌, ◌<◌}
use native.Mathlib.Numerals.{add-one}
use native.Mathlib.Omega.{arith}
use borrow.Author.Tests.{eq-eqb, ne_eqb, leb-true}
use lib.Dec.{leb, ltb}
use lib.ListN.{length, get_or, take, drop, length-append, length-take, length-map, drop_of_length-le}
use lib.Seq.{drop-cons}
use Rattle.rules.specs.Words.{all, cons_if, num, be, be16}
use Rattle.rules.specs.Prefix.{Prefix, prefix, fits, bytes_for, exclude_bytes, encodable}
use Rattle.rules.specs.Options.{option, item, printed}
use Rattle.rules.specs.Message.{name_of, status_item, listed_bytes, listed_item, ia_bytes, ia_item, asks_items, items, print}
use Rattle.laws.specs.Tests.{both}
use Rattle.laws.specs.Every.{every-all, every_map, every-weaker}
use Rattle.laws.specs.Exclude.{Encodes, encodes}
use Rattle.laws.specs.Stands.{option-length}
use Rattle.laws.specs.Round.{exclude-length, lease-fits}
use Rattle.laws.specs.Sizes.{printed-append, listed-most, encodable-upto, map-most, statuses-most}
use Rattle.laws.specs.Writes.{Left, left-room}
use Rattle.values.specs.Values.{except_of, lease_of, listed_of, lease_encodes, first_listed, ia_of}
use Rattle.values.specs.declared.IaPrefix.{IaPrefix}
use Rattle.values.specs.declared.Pd.{Pd}
use Rattle.print.specs.Bytes.{fixed_bytes, cut_bytes, prefix_bytes, prefixes_bytes, three_bytes, said_bytes, pd_bytes, server_bytes, ids_bytes}
use Rattle.print.specs.Whole.{message_of}
use Rattle.print.specs.declared.message.Head.{Head}

-- ---------------------------------------------------------------- Status Codes, by their names

pub status-named : (k j : ℕ) → k ≡ j → printed (status_item k ∷ []) ≡ option 13 (be16 k ++ name_of j)
unfolding printed
status-named k j e = append-nil (option 13 (be16 k ++ name_of k)) ∙ ap (λ (i : ℕ). option 13 (be16 k ++ name_of i)) e

pub status-nameless : (k : ℕ) → (k ≡ 0 → ⊥) → (k ≡ 3 → ⊥) → (k ≡ 6 → ⊥) → printed (status_item k ∷ []) ≡ option 13 (be16 k ++ [])
unfolding name_of
status-nameless k a b c =
    let e : name_of k ≡ [] = rw (ne_eqb k 0 a, ne_eqb k 3 b, ne_eqb k 6 c) in
    status-named k k refl ∙ ap (λ (l : List ℕ). option 13 (be16 k ++ l)) e

-- ---------------------------------------------------------------- an IA Prefix

pub exclude-size : (a : ℕ) (e : Prefix) → length (option 67 (exclude_bytes a e)) ≡ 5 + bytes_for a e.length
exclude-size a e = omega (arith, option-length 67 (exclude_bytes a e), exclude-length a e)

module _ (x : IaPrefix) where
  pub cut-none : x.cut ≡ 0 → cut_bytes x ≡ []
  unfolding cut_bytes except_of printed
  cut-none h = rw (eq-eqb x.cut 0 h)

  pub cut-some : (x.cut ≡ 0 → ⊥) → cut_bytes x ≡ option 67 (exclude_bytes x.length (prefix (num x.out) x.cut))
  unfolding cut_bytes except_of printed
  cut-some h = rw (ne_eqb x.cut 0 h) (append-nil (option 67 (exclude_bytes x.length (prefix (num x.out) x.cut))))

  pub listed-split : fixed_bytes x.preferred x.valid x.length x.bits ++ cut_bytes x ≡ listed_bytes (listed_of x [])
  unfolding fixed_bytes cut_bytes listed_bytes listed_of lease_of be
  listed-split = rw append-nil

  pub prefix-size : length (prefix_bytes x) ≡ 29 + length (cut_bytes x)
  unfolding prefix_bytes fixed_bytes be
  prefix-size = option-length 26 (listed_bytes (listed_of x [])) ∙ ap (λ (l : List ℕ). 4 + length l) (sym listed-split) ∙ omega arith

  module _ (e : lease_encodes x ≡ true) where
    pub prefix-length : x.length ≤ 128
    unfolding lease_of
    prefix-length =
        leb-true _ _ (both (leb x.length 128) (ltb (num x.bits) (2 ^ 128)) (lease-fits (lease_of x).prefix (lease_of x).except e)).0

    pub cut-encodable : (x.cut ≡ 0 → ⊥) → Encodes (prefix (num x.bits) x.length) (prefix (num x.out) x.cut)
    unfolding lease_of except_of
    cut-encodable h =
        let p = (lease_of x).prefix in
        let q = prefix (num x.out) x.cut in
        encodes p q (both (fits p) (encodable p q) (rw (ne_eqb x.cut 0 h) at e)).1

    pub listed-few : length (listed_bytes (listed_of x [])) ≤ 46
    unfolding listed_of
    listed-few = omega (arith, listed-most 128 (listed_of x []) (encodable-upto (lease_of x).prefix (lease_of x).except e) refl)

    pub cut-few : length (cut_bytes x) ≤ 21
    unfolding prefix_bytes
    cut-few = omega (arith, listed-few, option-length 26 (listed_bytes (listed_of x [])), prefix-size)

-- ---------------------------------------------------------------- IA Prefixes, one after the other

-- what no place past the end has
abbrev pub blank : IaPrefix
blank = record { preferred = 0; valid = 0; length = 0; bits = []; cut = 0; out = [] }

-- those from place i on
module _ (i : ℕ) (xs : List IaPrefix) where
  pub rest-first : i < length xs → prefixes_bytes (drop i xs) ≡ prefix_bytes (get_or xs i blank) ++ prefixes_bytes (drop (i + 1) xs)
  unfolding prefixes_bytes prefix_bytes printed
  rest-first l = let e : drop i xs ≡ get_or xs i blank ∷ drop (i + 1) xs = rw (drop-cons xs i blank l, add-one) in rw e

  pub rest-none : length xs ≤ i → prefixes_bytes (drop i xs) ≡ []
  unfolding prefixes_bytes printed
  rest-none l = rw (drop_of_length-le xs {i = i} l)

  -- what is left has room for the first of it
  pub rest-room : {p at : ℕ} {s t d : List ℕ} → i < length xs → Left p (prefixes_bytes (drop i xs)) t at s d → at + length s ≤ length d → length t ≡ length d
      → p + length (prefix_bytes (get_or xs i blank)) ≤ length t
  rest-room l k r e = left-room k (prefix_bytes (get_or xs i blank)) (prefixes_bytes (drop (i + 1) xs)) (rest-first l) r e

-- one of those that all pass a test
pub all-one : {A : Type 0} (f : A → Bool) (d : A) (i : ℕ) (xs : List A) → all f xs ≡ true → i < length xs → f (get_or xs i d) ≡ true
all-one f d i [] e l = absurd (omega arith)
all-one f d zero (x ∷ xs) e l = (both (f x) (all f xs) e).0
all-one f d (suc i) (x ∷ xs) e l = all-one f d i xs (both (f x) (all f xs) e).1 (omega arith)

-- ---------------------------------------------------------------- an IA_PD

pub said-few : (b : Bool) (k : ℕ) → length (said_bytes b k) ≤ 19
unfolding said_bytes
said-few true k = statuses-most (k ∷ [])
said-few false k = omega (arith, statuses-most [])

pub first-few : (n : ℕ) (xs : List IaPrefix) → all lease_encodes (take n xs) ≡ true → n ≤ 5 → length (prefixes_bytes (take n xs)) ≤ 250
unfolding prefixes_bytes
first-few n xs e h =
    let few : (x : IaPrefix) → lease_encodes x ≡ true → length (listed_bytes (listed_of x [])) ≤ 46 = λ x g. listed-few x g in
    let l : length (first_listed n xs) ≡ length (take n xs) = length-map (take n xs) (λ x. listed_of x []) in
    omega (
      arith,
      map-most 26 46 listed_bytes (first_listed n xs) (every_map _ (λ x. listed_of x []) (take n xs) (every-weaker few (take n xs) (every-all lease_encodes (take n xs) e))),
      length-take n xs,
    )

module _ (d : Pd) where
  pub ia-split : three_bytes d.iaid d.t1 d.t2 ++ (prefixes_bytes (take d.count d.prefixes) ++ said_bytes d.says d.status) ≡ ia_bytes (ia_of d)
  unfolding three_bytes prefixes_bytes said_bytes ia_bytes ia_of be
  ia-split = rw (printed-append (map listed_item (first_listed d.count d.prefixes)) (map status_item (cons_if d.says d.status [])))

  pub ia-size : length (option 25 (ia_bytes (ia_of d))) ≡ 16 + (length (prefixes_bytes (take d.count d.prefixes)) + length (said_bytes d.says d.status))
  unfolding three_bytes be
  ia-size =
      option-length 25 (ia_bytes (ia_of d)) ∙ ap (λ (l : List ℕ). 4 + length l) (sym ia-split)
      ∙ omega (arith, length-append (prefixes_bytes (take d.count d.prefixes)) (said_bytes d.says d.status))

  pub pd-yes : {b : Bool} → b ≡ true → pd_bytes b d ≡ option 25 (ia_bytes (ia_of d))
  unfolding pd_bytes printed
  pd-yes e = rw e (append-nil (option 25 (ia_bytes (ia_of d))))

  pub pd-no : {b : Bool} → b ≡ false → pd_bytes b d ≡ []
  unfolding pd_bytes printed
  pd-no e = rw e

-- ---------------------------------------------------------------- a message

pub server-yes : {b : Bool} (s : List ℕ) → b ≡ true → server_bytes b s ≡ option 2 s
unfolding server_bytes printed
server-yes s e = rw e (append-nil (option 2 s))

pub server-no : {b : Bool} (s : List ℕ) → b ≡ false → server_bytes b s ≡ []
unfolding server_bytes printed
server-no s e = rw e

pub asks-yes : {b : Bool} → b ≡ true → printed (asks_items b) ≡ option 6 (be16 67)
unfolding printed
asks-yes e = rw e (append-nil (option 6 (be16 67)))

pub asks-no : {b : Bool} → b ≡ false → printed (asks_items b) ≡ []
unfolding printed
asks-no e = rw e

pub ids-size : (k n : ℕ) (c : List ℕ) (b : Bool) (s : List ℕ) → length (ids_bytes k n c b s) ≡ 4 + (length (option 1 c) + length (server_bytes b s))
unfolding ids_bytes be
ids-size k n c b s = omega (arith, length-append (option 1 c) (server_bytes b s))

module _ (h : Head) (client server : List ℕ) (d : Pd) where
  abbrev ids : List ℕ
  ids = ids_bytes h.kind h.number client h.server server

  pub message-split : ids ++ (printed (asks_items h.asks) ++ (said_bytes h.says h.status ++ pd_bytes h.pd d)) ≡ print (message_of h client server d)
  unfolding ids_bytes server_bytes said_bytes pd_bytes print items message_of printed be
  message-split =
      let s = map (item 2) (cons_if h.server server []) in
      let a = asks_items h.asks in
      let t = map status_item (cons_if h.says h.status []) in
      let p = map ia_item (cons_if h.pd (ia_of d) []) in
      rw (append_assoc (option 1 client) (printed s) (printed a ++ (printed t ++ printed p)), printed-append s (a ++ (t ++ p)), printed-append a (t ++ p), printed-append t p)

  pub message-size : length (print (message_of h client server d))
      ≡ length ids + (length (printed (asks_items h.asks)) + (length (said_bytes h.says h.status) + length (pd_bytes h.pd d)))
  message-size =
      let x = printed (asks_items h.asks) in
      let y = said_bytes h.says h.status in
      let z = pd_bytes h.pd d in
      ap length (sym message-split) ∙ omega (arith, length-append ids (x ++ (y ++ z)), length-append x (y ++ z), length-append y z)
