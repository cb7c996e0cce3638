-- `put_exclude` leaves the head, then the excluded length and its bits.
use Rattle.std.proofs.Common.{◌≡◌, sym, ◌+◌, length}
use borrow.Author.Rules.{rules}
use Rattle.rules.specs.Words.{num}
use Rattle.rules.specs.Prefix.{prefix, bytes_for, exclude_bytes}
use Rattle.rules.specs.Options.{option}
use Rattle.laws.specs.Round.{exclude-length}
use Rattle.laws.specs.Writes.{wrote-all, wrote-option}
use Rattle.print.proofs.Laws.{exclude-size}
use Rattle.print.proofs.pd.put_exclude.Goals as goal

pub put_head-p-requires : goal.put_head-p-requires
put_head-p-requires c =
    let size : length (option 67 (exclude_bytes c.args.a (prefix (num c.args.e) c.args.b))) ≡ 5 + bytes_for c.args.a c.args.b = exclude-size c.args.a (prefix (num c.args.e) c.args.b) in
    let l = size in search rules

pub put_exclude-requires : goal.put_exclude-requires
put_exclude-requires c =
    let size : length (option 67 (exclude_bytes c.args.a (prefix (num c.args.e) c.args.b))) ≡ 5 + bytes_for c.args.a c.args.b = exclude-size c.args.a (prefix (num c.args.e) c.args.b) in
    let l = size in search rules

pub returns : goal.returns
returns c = wrote-option 67 _ (search rules) (sym (exclude-length _ _)) c.put_head-p.ensures
    (wrote-all (exclude-length _ _) c.put_exclude.ensures)
