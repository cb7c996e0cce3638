-- Each field is read at its place.
use Rattle.std.specs.Prelude.{Ok}
use Rattle.std.proofs.Common.{◌≡◌, subst, sym, ◌+◌, ℕ, arith}
use Rattle.rules.specs.Options.{check_prefix}
use Rattle.wire.proofs.Laws.{listed-read}
use Rattle.wire.proofs.content.prefix_at.Goals as goal

pub cut_in-c-requires : goal.cut_in-c-requires
cut_in-c-requires c = (c.requires.within, subst (λ (k : ℕ). check_prefix c.args.msg.now k (c.args.start + 25) (c.args.start + c.args.len) ≡ Ok tt) (sym c.u8_at-length.ensures.0) c.requires.inner)

pub returns : goal.returns
returns c = listed-read c.args.msg.now c.args.start c.args.len _ (λ i. (c.type_inv.msg i).fits) (omega (arith, c.requires.within, c.requires.long))
    c.u32_at-preferred.ensures c.u32_at-valid.ensures c.u8_at-length.ensures.0 c.bytes_at-bits.ensures c.cut_in-c.ensures
