-- By what is the first to be taken.
use Rattle.std.specs.Prelude.{Some}
use Rattle.std.proofs.Common.{◌∙◌, ◌≡◌, sym}
use Rattle.laws.specs.Formed.{PrefixFormed}
use Rattle.receiving.proofs.Laws.{prefix-encodes, taken-formed, taken_none, taken-some}
use Rattle.receiving.specs.Received.{taken_in}
use Rattle.receiving.proofs.taken.Goals as goal

pub prefix_at-requires : goal.prefix_at-requires
prefix_at-requires c =
    -- where it was found
    let was : taken_in c.args.msg.now c.args.o.start c.args.o.len ≡ Some c.in-Some.p = sym c.first_taken.ensures ∙ c.in-Some.is in
    let formed : PrefixFormed c.args.msg.now c.in-Some.p.start c.in-Some.p.len = taken-formed c.args.msg.now c.args.o c.args.began c.args.time c.requires.0 was in
    formed

pub hold_of-requires : goal.hold_of-requires
hold_of-requires c =
    let was : taken_in c.args.msg.now c.args.o.start c.args.o.len ≡ Some c.in-Some.p = sym c.first_taken.ensures ∙ c.in-Some.is in
    let formed : PrefixFormed c.args.msg.now c.in-Some.p.start c.in-Some.p.len = taken-formed c.args.msg.now c.args.o c.args.began c.args.time c.requires.0 was in
    (c.requires.1, prefix-encodes _ formed c.prefix_at.result c.prefix_at.ensures)

pub returns-in-Some : goal.returns-in-Some
returns-in-Some c =
    let was : taken_in c.args.msg.now c.args.o.start c.args.o.len ≡ Some c.in-Some.p = sym c.first_taken.ensures ∙ c.in-Some.is in
    taken-some c.args.msg.now c.args.o _ _ c.prefix_at.result was c.prefix_at.ensures c.hold_of.ensures

pub returns-in-None : goal.returns-in-None
returns-in-None c = taken_none c.args.msg.now c.args.o c.args.began c.args.time (sym c.first_taken.ensures ∙ c.in-None.is)
