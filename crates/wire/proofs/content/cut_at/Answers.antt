-- The content is a part of the message, and what it unpacks to is read.
use Rattle.std.proofs.Common.{◌∙◌, ◌≡◌, ◌<◌, arith, get_or, length}
use mir.Syntax.{w8}
use mir.Val.{Fits}
use borrow.Author.Rules.{rules}
use Rattle.laws.specs.Numbers.{Bytes}
use Rattle.wire.proofs.Laws.{cut-read, exclude-some, tail-ok}
use Rattle.wire.proofs.content.cut_at.Goals as goal

pub slice_bounds-unpack-count : goal.slice_bounds-unpack-count
slice_bounds-unpack-count c =
    -- the content has a first byte, and the prefix is sixteen bytes
    let full : 0 < c.args.len = exclude-some c.args.msg.now c.args.a c.args.start c.args.len c.requires.1 in
    omega (arith, full)

pub slice_bounds-unpack-start : goal.slice_bounds-unpack-start
slice_bounds-unpack-start c =
    let full : 0 < c.args.len = exclude-some c.args.msg.now c.args.a c.args.start c.args.len c.requires.1 in
    omega (arith, full)

pub unpack-out-requires : goal.unpack-out-requires
unpack-out-requires c =
    let full : 0 < c.args.len = exclude-some c.args.msg.now c.args.a c.args.start c.args.len c.requires.1 in
    tail-ok c.args.msg.now c.args.a c.args.start c.args.len full c.u8_at-b.ensures.0 ∙ c.requires.1

pub returns : goal.returns
returns c =
    let long : length c.args.p ≡ 16 = search rules in
    let small : Bytes c.args.p = λ i. let f : Fits w8 (get_or c.args.p i 0) = search rules in f.fits in
    cut-read c.args.msg.now c.args.p c.args.a c.args.start c.args.len (λ i. (c.type_inv.msg i).fits) small long
    c.requires.0 c.requires.1 c.u8_at-b.ensures.0 c.unpack-out.result c.unpack-out.ensures
