-- A router's state in the bytes that are lent: one representation, and how it is read.
--   a delegation, 34 bytes: prefix 16, length 1, excluded prefix 16, its length 1 (0: none)
--   a hold, 42 bytes: the delegation, end 8 (all ones: never)
--   the state, 384 bytes: last time 8, start 8, latest beginning 8, last sending of a Release 8, next number 4, wanted length 1,
--     IAID 4, DUID length 1, DUID 130, server's DUID length 1 (0: none), server's DUID 130, held 1 (0 or 1), the hold 42,
--     open exchange 1 (its message type, 0: none), the delegation that it sends 34, 3 that are zero
use Rattle.std.specs.Prelude.{ℕ, ◌+◌, Bool, cond, ◌&&◌, List, ◌∷◌, ◌++◌, eqb, length, replicate, Option, None, Some}
use Rattle.rules.specs.Words.{part, same_bytes, filled, be, num_at}
use Rattle.rules.specs.Prefix.{Prefix, prefix, Lease, lease}
use Rattle.rules.specs.Identity.{Duid, identity, kind_of, type_of}
use Rattle.rules.specs.Router.{Hold, Exchange, Router, sound_router, carries}
use Rattle.rules.specs.declared.Kind.{Kind}

abbrev pub router_size : ℕ
router_size = 384

abbrev pub lease_size : ℕ
lease_size = 34

abbrev pub hold_size : ℕ
hold_size = 42

-- ---------------------------------------------------------------- written

abbrev pub except_bytes : Option Prefix → List ℕ
except_bytes None = replicate 17 0
except_bytes (Some e) = be 16 e.bits ++ be 1 e.length

unfoldable pub lease_bytes : Lease → List ℕ
lease_bytes l = be 16 l.prefix.bits ++ (be 1 l.prefix.length ++ except_bytes l.except)

unfoldable pub hold_bytes : Hold → List ℕ
hold_bytes h = lease_bytes h.lease ++ be 8 h.end

abbrev pub duid_bytes : Duid → List ℕ
duid_bytes d = be 1 (length d) ++ filled 130 d

abbrev pub server_bytes : Option Duid → List ℕ
server_bytes None = replicate 131 0
server_bytes (Some d) = duid_bytes d

abbrev pub held_bytes : Option Hold → List ℕ
held_bytes None = replicate (1 + hold_size) 0
held_bytes (Some h) = 1 ∷ hold_bytes h

abbrev pub sent_bytes : Option Lease → List ℕ
sent_bytes None = replicate lease_size 0
sent_bytes (Some l) = lease_bytes l

abbrev pub exchange_bytes : Option Exchange → List ℕ
exchange_bytes None = replicate (1 + lease_size) 0
exchange_bytes (Some x) = type_of x.kind ∷ sent_bytes x.sent

unfoldable pub router_bytes : Router → List ℕ
router_bytes r =
    be 8 r.last ++ (be 8 r.started ++ (be 8 r.began ++ (be 8 r.freed ++ (be 4 r.next ++ (be 1 r.wanted
    ++ (be 4 r.me.iaid ++ (duid_bytes r.me.duid ++ (server_bytes r.server ++ (held_bytes r.held
    ++ (exchange_bytes r.exchange ++ replicate 3 0))))))))))

-- ---------------------------------------------------------------- read

-- something stands where the number isn't 0
abbrev pub some_if : {A : Type 0} → ℕ → A → Option A
some_if n a = cond (eqb n 0) None (Some a)

unfoldable pub lease_of : List ℕ → Lease
lease_of b = lease (prefix (num_at b 0 16) (num_at b 16 1)) (some_if (num_at b 33 1) (prefix (num_at b 17 16) (num_at b 33 1)))

unfoldable pub hold_of : List ℕ → Hold
hold_of b = record { lease = lease_of b; end = num_at b 34 8 }

-- a DUID behind its length
abbrev pub duid_at : List ℕ → ℕ → Duid
duid_at b at = part (at + 1) (num_at b at 1) b

abbrev pub exchange_of : Kind → Lease → Exchange
exchange_of k l = record { kind = k; sent = carries k (Some l) }

unfoldable pub router_of : List ℕ → Router
router_of b = record {
  me = identity (duid_at b 41) (num_at b 37 4);
  wanted = num_at b 36 1;
  started = num_at b 8 8;
  began = num_at b 16 8;
  freed = num_at b 24 8;
  last = num_at b 0 8;
  next = num_at b 32 4;
  server = some_if (num_at b 172 1) (duid_at b 172);
  held = some_if (num_at b 303 1) (hold_of (part 304 hold_size b));
  exchange = some_if (num_at b 346 1) (exchange_of (kind_of (num_at b 346 1)) (lease_of (part 347 lease_size b)));
}

-- a lent array that is the representation of a sound state
unfoldable pub sound_router_bytes : List ℕ → Bool
sound_router_bytes b = sound_router (router_of b) && same_bytes (router_bytes (router_of b)) b
