-- One result only: two results that a public operation's promise allows are equal. Every public operation has its line, in the order of
-- docs/INTERFACE.md; each promise stands here as in the operation's contract. r is what an operation leaves: its word with each lent
-- array that it may write, or its answer. Where an operation in code gives a Result in place of the word, its contract says the number of
-- the refusal too, and its line with that allows one Result and one content of what is lent (`in-code`; of `live`, which writes nothing,
-- `given`).
use Rattle.std.specs.Prelude.{ℕ, ◌≡◌, List, [], Result, IfOk}
use Rattle.rules.specs.Refusals.{outcome}
use Rattle.std.proofs.Common.{sym, ◌∙◌}
use Rattle.rules.specs.declared.Refusal.{Refusal}
use Rattle.laws.specs.Refusals.{refused_by}
use Rattle.values.specs.declared.IaPrefix.{IaPrefix}
use Rattle.rules.specs.Prefix.{Prefix}
use Rattle.rules.specs.Message.{Listed, Ia, listed_at}
use Rattle.rules.specs.Lone.{only, read_id, read_request, read_status, read_pd, read_prefix, read_exclude, read_message, write_id, write_request, write_status, write_exclude, write_prefix, write_pd}
use Rattle.rules.specs.Clock.{Moment}
use Rattle.rules.specs.Identity.{Identity}
use Rattle.rules.specs.Settings.{Settings}
use Rattle.rules.specs.Lent.{ended, word_of, written, box_started, box_handled, box_counted, box_shown, router_started, router_sent, router_resent, router_abandoned, router_received, router_shown}
use Rattle.rules.specs.declared.Kind.TheVariants.{Solicit, Request, Renew, Rebind, Release}
use Rattle.wire.specs.Client.{client_stretch}
use Rattle.lone.specs.Answers.{id_value, Fills, exclude_value, prefix_value, pd_head, projected, message_value}
use Rattle.narrow.specs.Single.{Single, ExcludeBeside, PrefixBeside, SameRead}
use Rattle.narrow.specs.Faithful.{one-result, one-result-beside, lent-faithful, room-faithful, all-faithful, plain-faithful, outcome-faithful, given-same, same-in-code, message-faithful, id-faithful, exclude-faithful, prefix-faithful}

-- the word and the state; the word and the room; the word, the state and the room
abbrev Two : Type 0
Two = ℕ × List ℕ

abbrev Three : Type 0
Three = ℕ × List ℕ × List ℕ

pub record OneResult : Type 0 where
  -- the box
  pub box-start : (b : List ℕ) (s : Settings) (now : Moment) → Single (λ (r : Two). ended r.0 r.1 [] ≡ box_started b s now)
  pub box-handle : (b : List ℕ) (now : Moment) (m out : List ℕ) → Single (λ (r : Three). ended r.0 r.1 r.2 ≡ box_handled b now m out)
  pub box-live : (b : List ℕ) (now : Moment) → Single (λ r. r ≡ box_counted b now)
  pub box-record : (b : List ℕ) (i : ℕ) (out : List ℕ) → Single (λ (r : Two). ended r.0 b r.1 ≡ box_shown b i out)
  -- the router
  pub router-start : (b : List ℕ) (i : Identity) (n : ℕ) (now : Moment) → Single (λ (r : Two). ended r.0 r.1 [] ≡ router_started b i n now)
  pub router-solicit : (b : List ℕ) (now : Moment) (out : List ℕ) → Single (λ (r : Three). ended r.0 r.1 r.2 ≡ router_sent Solicit b now out)
  pub router-request : (b : List ℕ) (now : Moment) (out : List ℕ) → Single (λ (r : Three). ended r.0 r.1 r.2 ≡ router_sent Request b now out)
  pub router-renew : (b : List ℕ) (now : Moment) (out : List ℕ) → Single (λ (r : Three). ended r.0 r.1 r.2 ≡ router_sent Renew b now out)
  pub router-rebind : (b : List ℕ) (now : Moment) (out : List ℕ) → Single (λ (r : Three). ended r.0 r.1 r.2 ≡ router_sent Rebind b now out)
  pub router-release : (b : List ℕ) (now : Moment) (out : List ℕ) → Single (λ (r : Three). ended r.0 r.1 r.2 ≡ router_sent Release b now out)
  pub router-resend : (b : List ℕ) (now : Moment) (out : List ℕ) → Single (λ (r : Three). ended r.0 r.1 r.2 ≡ router_resent b now out)
  pub router-abandon : (b : List ℕ) (now : Moment) → Single (λ (r : Two). ended r.0 r.1 [] ≡ router_abandoned b now)
  pub router-receive : (b : List ℕ) (now : Moment) (m : List ℕ) → Single (λ (r : Two). ended r.0 r.1 [] ≡ router_received b now m)
  pub router-held : (b : List ℕ) (now : Moment) (out : List ℕ) → Single (λ (r : Two). ended r.0 b r.1 ≡ router_shown b now out)
  -- what any of these gives in code, where its contract names the word w and the number n of the refusal
  pub given : (w n : ℕ) → Single (λ (r : Result ℕ Refusal). (word_of r ≡ w) × (refused_by r ≡ n))
  -- readers
  pub client-id : (m : List ℕ) → Single (λ r. r ≡ client_stretch m)
  pub read-message : (m : List ℕ) → Single (λ r. message_value r ≡ read_message m)
  pub read-id : (m : List ℕ) (w : ℕ) → Single (λ r. (id_value m r ≡ read_id w m) × IfOk r (Fills m))
  pub read-request : (m : List ℕ) → Single (λ r. outcome r ≡ read_request m)
  pub read-status : (m : List ℕ) → Single (λ r. outcome r ≡ read_status m)
  pub read-pd : (m : List ℕ) → Single (λ r. outcome r ≡ projected (pd_head m) (read_pd m))
  pub read-exclude : (p : Prefix) (m : List ℕ) → Single (λ r. (exclude_value r ≡ read_exclude p m) × ExcludeBeside r)
  -- the exception: beside a cut of 0 the bytes of `out` are open
  pub read-prefix : (m : List ℕ) (r r' : Result IaPrefix Refusal)
      → (prefix_value (listed_at m (only m)).statuses r ≡ read_prefix m) × PrefixBeside r
      → (prefix_value (listed_at m (only m)).statuses r' ≡ read_prefix m) × PrefixBeside r'
      → SameRead r r'
  -- writers
  pub write-id : (out : List ℕ) (w : ℕ) (d : List ℕ) → Single (λ (r : Two). ended r.0 [] r.1 ≡ written out (write_id w d))
  pub write-request : (out : List ℕ) → Single (λ (r : Two). ended r.0 [] r.1 ≡ written out write_request)
  pub write-status : (out : List ℕ) (k : ℕ) → Single (λ (r : Two). ended r.0 [] r.1 ≡ written out (write_status k))
  pub write-exclude : (out : List ℕ) (p e : Prefix) → Single (λ (r : Two). ended r.0 [] r.1 ≡ written out (write_exclude p e))
  pub write-prefix : (out : List ℕ) (x : Listed) → Single (λ (r : Two). ended r.0 [] r.1 ≡ written out (write_prefix x))
  pub write-pd : (out : List ℕ) (i : Ia) → Single (λ (r : Two). ended r.0 [] r.1 ≡ written out (write_pd i))

pub one-result-only : OneResult
one-result-only = record {
  box-start = λ b s now. one-result lent-faithful _;
  box-handle = λ b now m out. one-result all-faithful _;
  box-live = λ b now. one-result plain-faithful _;
  box-record = λ b i out. one-result (room-faithful b) _;
  router-start = λ b i n now. one-result lent-faithful _;
  router-solicit = λ b now out. one-result all-faithful _;
  router-request = λ b now out. one-result all-faithful _;
  router-renew = λ b now out. one-result all-faithful _;
  router-rebind = λ b now out. one-result all-faithful _;
  router-release = λ b now out. one-result all-faithful _;
  router-resend = λ b now out. one-result all-faithful _;
  router-abandon = λ b now. one-result lent-faithful _;
  router-receive = λ b now m. one-result lent-faithful _;
  router-held = λ b now out. one-result (room-faithful b) _;
  given = λ w n r r' p q. given-same r r' (p.0 ∙ sym q.0) (p.1 ∙ sym q.1);
  client-id = λ m. one-result plain-faithful _;
  read-message = λ m. one-result message-faithful _;
  read-id = λ m w. one-result-beside (id-faithful m) _;
  read-request = λ m. one-result outcome-faithful _;
  read-status = λ m. one-result outcome-faithful _;
  read-pd = λ m. one-result outcome-faithful _;
  read-exclude = λ p m. one-result-beside exclude-faithful _;
  read-prefix = λ m. one-result-beside (prefix-faithful _) _;
  write-id = λ out w d. one-result (room-faithful []) _;
  write-request = λ out. one-result (room-faithful []) _;
  write-status = λ out k. one-result (room-faithful []) _;
  write-exclude = λ out p e. one-result (room-faithful []) _;
  write-prefix = λ out x. one-result (room-faithful []) _;
  write-pd = λ out i. one-result (room-faithful []) _;
}

-- Where a line above allows one word with what is left, that line and the number of the refusal allow one Result with what is left.
pub in-code : {X : Type 0} {P : ℕ × X → Type 0} → Single P → (n : ℕ) → Single (λ (r : Result ℕ Refusal × X). P (word_of r.0, r.1) × (refused_by r.0 ≡ n))
in-code one n r r' p q = same-in-code r r' (one (word_of r.0, r.1) (word_of r'.0, r'.1) p.0 q.0) (p.1 ∙ sym q.1)

-- the writers, which no one calls but in code
module _ (n : ℕ) (out : List ℕ) where
  abbrev Gives : Type 0
  Gives = Result ℕ Refusal × List ℕ

  pub id-in-code : (w : ℕ) (d : List ℕ) → Single (λ (r : Gives). (ended (word_of r.0) [] r.1 ≡ written out (write_id w d)) × (refused_by r.0 ≡ n))
  id-in-code w d = in-code (one-result (room-faithful []) (written out (write_id w d))) n

  pub request-in-code : Single (λ (r : Gives). (ended (word_of r.0) [] r.1 ≡ written out write_request) × (refused_by r.0 ≡ n))
  request-in-code = in-code (one-result (room-faithful []) (written out write_request)) n

  pub status-in-code : (k : ℕ) → Single (λ (r : Gives). (ended (word_of r.0) [] r.1 ≡ written out (write_status k)) × (refused_by r.0 ≡ n))
  status-in-code k = in-code (one-result (room-faithful []) (written out (write_status k))) n

  pub exclude-in-code : (p e : Prefix) → Single (λ (r : Gives). (ended (word_of r.0) [] r.1 ≡ written out (write_exclude p e)) × (refused_by r.0 ≡ n))
  exclude-in-code p e = in-code (one-result (room-faithful []) (written out (write_exclude p e))) n

  pub prefix-in-code : (x : Listed) → Single (λ (r : Gives). (ended (word_of r.0) [] r.1 ≡ written out (write_prefix x)) × (refused_by r.0 ≡ n))
  prefix-in-code x = in-code (one-result (room-faithful []) (written out (write_prefix x))) n

  pub pd-in-code : (i : Ia) → Single (λ (r : Gives). (ended (word_of r.0) [] r.1 ≡ written out (write_pd i)) × (refused_by r.0 ≡ n))
  pd-in-code i = in-code (one-result (room-faithful []) (written out (write_pd i))) n
