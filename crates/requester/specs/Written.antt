-- The message of the open exchange in the parts in which it is written.
--   Open              the state is sound, and an exchange is open
--   HeadOf            its type and number, and what stands in it
--   first_for, ia_asked the prefix in its IA_PD, where one stands; its IA_PD
--   query_of, Put      the message; a text put at the front of the room
use Rattle.std.specs.Prelude.{◌≡◌, true, false, not, List, [], ℕ, length, Option, None, Some}
use Rattle.rules.specs.Words.{splice}
use Rattle.rules.specs.Prefix.{prefix, Lease, lease}
use Rattle.rules.specs.Message.{Listed, Ia, print}
use Rattle.rules.specs.Identity.{type_of, is_release}
use Rattle.rules.specs.Router.{Exchange, Router, wants_server, number_before, lists, query, is_open, open_of}
use Rattle.rules.specs.RouterBytes.{router_of, sound_router_bytes}
use Rattle.print.specs.declared.message.Head.{Head}

pub record Open (b : List ℕ) : Type 0 where
  pub sound : sound_router_bytes b ≡ true
  pub has : is_open (router_of b).exchange ≡ true

abbrev pub exchange_in : Router → Exchange
exchange_in r = open_of r.exchange

pub record HeadOf (r : Router) (h : Head) : Type 0 where
  pub kind : h.kind ≡ type_of (exchange_in r).kind
  pub number : h.number ≡ number_before r.next
  pub server : h.server ≡ wants_server (exchange_in r).kind
  pub asks : h.asks ≡ not (is_release (exchange_in r).kind)
  pub says : h.says ≡ false
  pub status : h.status ≡ 0
  pub pd : h.pd ≡ true

-- a zero prefix with the wanted length, or the one that is sent
abbrev pub first_for : ℕ → Option Lease → Listed
first_for n None = record { preferred = 0; valid = 0; lease = lease (prefix 0 n) None; statuses = [] }
first_for n (Some l) = record { preferred = 0; valid = 0; lease = l; statuses = [] }

abbrev pub ia_asked : Router → Ia
ia_asked r = record { iaid = r.me.iaid; t1 = 0; t2 = 0; listed = lists r.wanted (exchange_in r).sent; statuses = [] }

unfoldable pub query_of : List ℕ → List ℕ
query_of b = print (query (router_of b) (exchange_in (router_of b)))

-- r is its length
pub record Put (text : List ℕ) (r : ℕ) (before after : List ℕ) : Type 0 where
  pub size : r ≡ length text
  pub is : after ≡ splice 0 text before
