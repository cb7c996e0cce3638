-- What is printed of bytes: two hexadecimal digits for each, in the words of the library's definitions of formats.
use Rattle.std.specs.Prelude.{◌≡◌, refl, codes, ℕ, ◌^◌, ◌-◌, false, List, [], flat_map}
use Rattle.std.specs.Fmt.{padded_integral, format_spec, radix_digits, digits, char_count}

-- a byte as two digits in hexadecimal, the library's `{:02x}`
abbrev pub pair_text : ℕ → List ℕ
pair_text b = padded_integral (format_spec 32 0 4 2 (2 ^ 64 - 1)) false [] (radix_digits 16 false b)

-- each byte of a list
abbrev pub hex_text : List ℕ → List ℕ
hex_text bytes = flat_map pair_text bytes

-- Ten is 0a.
pub pair_of_ten : pair_text 10 ≡ codes "0a"
unfolding padded_integral digits char_count
pair_of_ten = refl

-- 254 is fe.
pub pair_of_254 : pair_text 254 ≡ codes "fe"
unfolding padded_integral digits char_count
pair_of_254 = refl
