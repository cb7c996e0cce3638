-- The values of rules/Lone that the readers' answers stand for; a refusal stands for its number (rules/Refusals, outcome).
--   projected          a result with its value made another
--   id_value, ..       an answer as the result that rules/Lone gives
--   Fills              where the stretch that is answered lies
--   pd_head            what is answered of an IA_PD
use Rattle.std.specs.Prelude.{ℕ, ◌+◌, ◌≡◌, List, length, Result}
use Rattle.rules.specs.Words.{part, num}
use Rattle.rules.specs.Refusals.{Res, refuse, done, outcome}
use Rattle.rules.specs.Prefix.{Prefix, prefix}
use Rattle.rules.specs.Options.{area_of, nth}
use Rattle.rules.specs.Message.{Listed, Ia}
use Rattle.rules.specs.Lone.{Summary}
use Rattle.rules.specs.declared.Refusal.{Refusal}
use Rattle.values.specs.Values.{listed_of}
use Rattle.values.specs.declared.IaPrefix.{IaPrefix}
use Rattle.lone.specs.declared.Stretch.{Stretch}
use Rattle.lone.specs.declared.Excluded.{Excluded}
use Rattle.lone.specs.declared.PdRead.{PdRead}
use Rattle.lone.specs.declared.MessageRead.{MessageRead}

abbrev pub projected : {A B : Type 0} → (A → B) → Res A → Res B
projected f (refuse n) = refuse n
projected f (done x) = done (f x)

abbrev pub id_value : List ℕ → Result Stretch Refusal → Res (List ℕ)
id_value m r = projected (λ (s : Stretch). part s.start s.len m) (outcome r)

-- the stretch is all of the text after the header
abbrev pub Fills : List ℕ → Stretch → Type 0
Fills m s = (s.start ≡ 4) × (4 + s.len ≡ length m)

abbrev pub exclude_value : Result Excluded Refusal → Res Prefix
exclude_value r = projected (λ (e : Excluded). prefix (num e.bits) e.length) (outcome r)

-- an IA Prefix, with its Status Codes beside it
abbrev pub prefix_value : List ℕ → Result IaPrefix Refusal → Res Listed
prefix_value ks r = projected (λ (x : IaPrefix). listed_of x ks) (outcome r)

-- of an IA_PD: its numbers, how many IA Prefixes it has, and where in the text the first is
abbrev pub pd_head : List ℕ → Ia → PdRead
pd_head m i = record { iaid = i.iaid; t1 = i.t1; t2 = i.t2; prefixes = length i.listed; first = nth 26 0 (area_of m 16 (length m)) }

abbrev pub summary_of : MessageRead → Summary
summary_of r = record {
  kind = r.kind;
  number = r.number;
  clients = r.clients;
  client = r.client;
  servers = r.servers;
  server = r.server;
  pds = r.pds;
  pd = r.pd;
}

abbrev pub message_value : Result MessageRead Refusal → Res Summary
message_value r = projected summary_of (outcome r)
