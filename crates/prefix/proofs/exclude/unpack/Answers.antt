use Rattle.std.proofs.Common.{refl, arith}
use borrow.Author.Rules.{rules}
use Rattle.rules.specs.Words.{be}
use Rattle.laws.specs.Parts.{turn, done, none_left, splice_all}
use Rattle.laws.specs.Numbers.{length-be}
use Rattle.laws.specs.Exclude.{content, left-unpacked}
use Rattle.prefix.proofs.exclude.unpack.Goals as goal

pub copy-requires : goal.copy-requires
copy-requires c = let s = content _ _ _ c.requires in omega arith

pub loop-k-init : goal.loop-k-init
loop-k-init c = (refl, splice_all _ _ (length-be _ _))

pub joined_byte-requires : goal.joined_byte-requires
joined_byte-requires c = let s = content _ _ _ c.requires in (omega arith, c.loop-k-test.true)

pub loop-k-preserved : goal.loop-k-preserved
loop-k-preserved c = (search rules, turn _ _ _ _ _ _ _ (search rules) refl (left-unpacked _ _ _ _ _ _ _ c.requires c.loop-k-test.true c.copy.ensures c.joined_byte.ensures) c.loop-k.invariant.1)

pub returns : goal.returns
unfolding be
returns c = done _ _ _ _ (rw (none_left _ _ c.loop-k-test.false)) c.loop-k.invariant.1
