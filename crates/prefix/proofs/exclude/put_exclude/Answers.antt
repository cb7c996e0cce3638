use Rattle.std.proofs.Common.{refl, ◌∙◌, get_or, add-zero}
use borrow.Author.Rules.{rules}
use lib.ListN.{length-set}
use mir.Syntax.{w8}
use mir.Val.{Fits}
use Rattle.rules.specs.Prefix.{exclude_bytes}
use Rattle.laws.specs.Parts.{step, turn, done}
use Rattle.laws.specs.Bits.{Sixteen}
use Rattle.laws.specs.Exclude.{left-packed, none-packed}
use Rattle.prefix.proofs.exclude.put_exclude.Goals as goal

pub loop-j-init : goal.loop-j-init
loop-j-init c = (refl, search rules, refl, rw add-zero)

pub loop-j-preserved : goal.loop-j-preserved
loop-j-preserved c =
    let sixteen : Sixteen c.args.e = record { long = search rules; bytes = λ i. (let f : Fits w8 (get_or c.args.e i 0) = search rules in f.fits) } in
    (refl, search rules, search rules, turn _ _ _ _ _ _ _ (search rules) (search rules) (left-packed _ _ _ sixteen c.requires.0 c.requires.1 c.requires.3 _ _ (search rules) c.bits.ensures) c.loop-j.invariant.3)

pub shape_of-out : goal.shape_of-out
shape_of-out c = c.loop-j.invariant.2 ∙ simp length-set

pub returns : goal.returns
unfolding exclude_bytes
returns c = done _ _ _ _ (none-packed _ _ _ c.loop-j-test.false) c.loop-j.invariant.3 ∙ step _ _ _ _ _ _ (search rules) refl refl
