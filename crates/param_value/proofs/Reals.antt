-- Floats: a pattern that is no NaN's is kept.
use Prim.Native.Nat.{ℕ, ◌*◌, ◌<◌}
use mathlib.Core.Path.{◌≡◌, sym, ap, ◌∙◌, subst}
use mathlib.Core.Bool.{Bool, false, not}
use lib.Dec.{T}
use lib.Ieee.{Float, Format, top, is_nan, fits, of_bits, to_bits, nan_bits}
use lib.Ieee.Bits.{of_bits-to_bits, to_bits-of_bits, nan_bits_is}

pub not_yet : (b : Bool) → b ≡ false → T (not b)
not_yet b e = subst (λ (x : Bool). T (not x)) (sym e) tt

-- the pattern of a number, and the number of a pattern
pub number-kept : (f : Format) (x : Float) → T (fits f x) → of_bits f (to_bits f x) ≡ x
number-kept = of_bits-to_bits

pub pattern-kept : (f : Format) (n : ℕ) → n < 2 * top f → nan_bits f n ≡ false → to_bits f (of_bits f n) ≡ n
pattern-kept f n h e = to_bits-of_bits f n h (not_yet _ (sym (nan_bits_is f n) ∙ e))

-- a number's pattern is no NaN's
pub number-pattern : (f : Format) (x : Float) → T (fits f x) → is_nan x ≡ false → nan_bits f (to_bits f x) ≡ false
number-pattern f x h e = nan_bits_is f (to_bits f x) ∙ ap is_nan (of_bits-to_bits f x h) ∙ e

pub pattern_number : (f : Format) (n : ℕ) → nan_bits f n ≡ false → is_nan (of_bits f n) ≡ false
pattern_number f n e = sym (nan_bits_is f n) ∙ e
