-- The parts of a message, one after another.
use Rattle.std.proofs.Common.{◌≡◌, ◌+◌, length}
use borrow.Author.Rules.{rules}
use Rattle.rules.specs.Options.{printed}
use Rattle.laws.specs.Writes.{wrote-whole, wrote_as, wrote_then}
use Rattle.rules.specs.Message.{asks_items, print}
use Rattle.print.specs.Bytes.{said_bytes, pd_bytes, ids_bytes}
use Rattle.print.specs.Whole.{message_of}
use Rattle.print.proofs.Laws.{message-split, message-size}
use Rattle.print.proofs.message.write_message.Goals as goal

pub put_ids-p-requires : goal.put_ids-p-requires
put_ids-p-requires c =
    let size : length (print (message_of c.args.h c.args.client.now c.args.server.now c.args.d)) ≡ length (ids_bytes c.args.h.kind c.args.h.number c.args.client.now c.args.h.server c.args.server.now) + (length (printed (asks_items c.args.h.asks)) + (length (said_bytes c.args.h.says c.args.h.status) + length (pd_bytes c.args.h.pd c.args.d))) = message-size _ _ _ _ in
    let m = size in search rules

pub put_asks-q-requires : goal.put_asks-q-requires
put_asks-q-requires c =
    let size : length (print (message_of c.args.h c.args.client.now c.args.server.now c.args.d)) ≡ length (ids_bytes c.args.h.kind c.args.h.number c.args.client.now c.args.h.server c.args.server.now) + (length (printed (asks_items c.args.h.asks)) + (length (said_bytes c.args.h.says c.args.h.status) + length (pd_bytes c.args.h.pd c.args.d))) = message-size _ _ _ _ in
    let m = size in search rules

pub put_said-r-requires : goal.put_said-r-requires
put_said-r-requires c =
    let size : length (print (message_of c.args.h c.args.client.now c.args.server.now c.args.d)) ≡ length (ids_bytes c.args.h.kind c.args.h.number c.args.client.now c.args.h.server c.args.server.now) + (length (printed (asks_items c.args.h.asks)) + (length (said_bytes c.args.h.says c.args.h.status) + length (pd_bytes c.args.h.pd c.args.d))) = message-size _ _ _ _ in
    let m = size in
    search rules

pub put_pds-requires : goal.put_pds-requires
put_pds-requires c =
    let size : length (print (message_of c.args.h c.args.client.now c.args.server.now c.args.d)) ≡ length (ids_bytes c.args.h.kind c.args.h.number c.args.client.now c.args.h.server c.args.server.now) + (length (printed (asks_items c.args.h.asks)) + (length (said_bytes c.args.h.says c.args.h.status) + length (pd_bytes c.args.h.pd c.args.d))) = message-size _ _ _ _ in
    let m = size in (
      c.requires.3,
      search rules,
    )

pub returns : goal.returns
returns c =
    let size : length (print (message_of c.args.h c.args.client.now c.args.server.now c.args.d)) ≡ length (ids_bytes c.args.h.kind c.args.h.number c.args.client.now c.args.h.server c.args.server.now) + (length (printed (asks_items c.args.h.asks)) + (length (said_bytes c.args.h.says c.args.h.status) + length (pd_bytes c.args.h.pd c.args.d))) = message-size _ _ _ _ in
    let m = size in
    wrote-whole (wrote_as (message-split _ _ _ _)
    (wrote_then (search rules) c.put_ids-p.ensures
    (wrote_then (search rules) c.put_asks-q.ensures
    (wrote_then (search rules) c.put_said-r.ensures c.put_pds.ensures))))
