-- The type and the number, the Client ID, the Server ID.
use Rattle.std.proofs.Common.{◌≡◌, ◌+◌, length}
use borrow.Author.Rules.{rules}
use Rattle.rules.specs.Words.{be}
use Rattle.rules.specs.Options.{option}
use Rattle.laws.specs.Writes.{wrote_then}
use Rattle.print.specs.Bytes.{server_bytes, ids_bytes}
use Rattle.print.proofs.Laws.{ids-size}
use Rattle.print.proofs.message.put_ids.Goals as goal

pub put_start-p-requires : goal.put_start-p-requires
put_start-p-requires c =
    let size : length (ids_bytes c.args.kind c.args.number c.args.client.now c.args.has c.args.server.now) ≡ 4 + (length (option 1 c.args.client.now) + length (server_bytes c.args.has c.args.server.now)) = ids-size _ _ _ _ _ in
    let l = size in search rules

pub put_option-q-requires : goal.put_option-q-requires
unfolding be
put_option-q-requires c =
    let size : length (ids_bytes c.args.kind c.args.number c.args.client.now c.args.has c.args.server.now) ≡ 4 + (length (option 1 c.args.client.now) + length (server_bytes c.args.has c.args.server.now)) = ids-size _ _ _ _ _ in
    let l = size in search rules

pub put_server-requires : goal.put_server-requires
unfolding be
put_server-requires c =
    let size : length (ids_bytes c.args.kind c.args.number c.args.client.now c.args.has c.args.server.now) ≡ 4 + (length (option 1 c.args.client.now) + length (server_bytes c.args.has c.args.server.now)) = ids-size _ _ _ _ _ in
    let l = size in
    search rules

pub returns : goal.returns
unfolding ids_bytes be
returns c =
    let size : length (ids_bytes c.args.kind c.args.number c.args.client.now c.args.has c.args.server.now) ≡ 4 + (length (option 1 c.args.client.now) + length (server_bytes c.args.has c.args.server.now)) = ids-size c.args.kind c.args.number c.args.client.now c.args.has c.args.server.now in
    wrote_then (search rules) c.put_start-p.ensures
    (wrote_then (let l = size in search rules) c.put_option-q.ensures c.put_server.ensures)
