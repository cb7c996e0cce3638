-- The prefix of length a whose upper 64 bits are p, and whose lower ones are zero.
use Rattle.std.specs.Prelude.{ℕ, ◌*◌, ◌^◌}
use Rattle.rules.specs.Prefix.{Prefix, prefix}
use Rattle.prefix.specs.declared.half.Half.{Half}

abbrev pub upper : ℕ → ℕ → Prefix
upper p a = prefix (p * 2 ^ 64) a

-- what a half stands for
abbrev pub half_of : Half → Prefix
half_of h = upper h.upper h.length
