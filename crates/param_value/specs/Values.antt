-- Parameter values and their patterns, by type code. ECSS-E-ST-70-41C, 7.3: PTC 3 unsigned, 4 signed, 5 real.
use Rattle.std.specs.Prelude.{ℕ, suc, ◌-◌, ◌/◌, ◌^◌, ◌<◌, Bool, not, ◌&&◌, List, [], ◌∷◌, length, take, T, eqb, ltb, ℤ, pos, negsuc}
use Rattle.std.specs.Float.{binary32, binary64}
use Rattle.std.specs.Float.Ieee.{of_bits, to_bits, nan_bits, is_nan, fits}
use Rattle.space_packet.specs.Bits.{pick}
use Rattle.space_packet.specs.Answer.{Answer, gives, refusal, refuse_if, ◌then◌}
use Rattle.param_value.specs.declared.Value.{Value}
use Rattle.param_value.specs.declared.Value.TheVariants.{Unsigned, Signed, Single, SingleNan, Double, DoubleNan}
use Rattle.param_value.specs.Octets.{number_of, octets_of, size_in}

-- the octets of an integer: PFC 4, 12, 13, 14, 15, 16; 0 where no type is named here
abbrev pub int_octets : ℕ → ℕ
int_octets pfc =
    pick (eqb pfc 4) 1 (pick (eqb pfc 12) 2 (pick (eqb pfc 13) 3 (pick (eqb pfc 14) 4 (pick (eqb pfc 15) 6 (pick (eqb pfc 16) 8 0)))))

-- of a real: PFC 1 single, 2 double
abbrev pub real_octets : ℕ → ℕ
real_octets pfc = pick (eqb pfc 1) 4 (pick (eqb pfc 2) 8 0)

unfoldable pub octets_for : ℕ → ℕ → ℕ
octets_for ptc pfc = pick (eqb ptc 3) (int_octets pfc) (pick (eqb ptc 4) (int_octets pfc) (pick (eqb ptc 5) (real_octets pfc) 0))

-- two's complement of k octets
unfoldable pub signed_of : ℕ → ℕ → ℤ
signed_of k n = pick (ltb n (256 ^ k / 2)) (pos n) (negsuc (256 ^ k - suc n))

unfoldable pub signed_bits : ℕ → ℤ → Answer ℕ
signed_bits k (pos n) = refuse_if (not (ltb n (256 ^ k / 2))) (refusal 24 []) (gives n)
signed_bits k (negsuc n) = refuse_if (not (ltb n (256 ^ k / 2))) (refusal 24 []) (gives (256 ^ k - suc n))

-- a real's pattern: the number, or the NaN with its bits
abbrev pub single_of : ℕ → Value
single_of n = pick (nan_bits binary32 n) (SingleNan n) (Single (of_bits binary32 n))

abbrev pub double_of : ℕ → Value
double_of n = pick (nan_bits binary64 n) (DoubleNan n) (Double (of_bits binary64 n))

abbrev pub real_of : ℕ → ℕ → Value
real_of pfc n = pick (eqb pfc 1) (single_of n) (double_of n)

-- the value that a pattern stands for
unfoldable pub value_of : ℕ → ℕ → ℕ → Value
value_of ptc pfc n =
    pick (eqb ptc 3) (Unsigned n) (pick (eqb ptc 4) (Signed (signed_of (octets_for ptc pfc) n)) (real_of pfc n))

abbrev pub kind_is : ℕ → ℕ → Value → Bool
kind_is ptc pfc (Unsigned n) = eqb ptc 3
kind_is ptc pfc (Signed z) = eqb ptc 4
kind_is ptc pfc (Single x) = eqb ptc 5 && eqb pfc 1
kind_is ptc pfc (SingleNan b) = eqb ptc 5 && eqb pfc 1
kind_is ptc pfc (Double x) = eqb ptc 5 && eqb pfc 2
kind_is ptc pfc (DoubleNan b) = eqb ptc 5 && eqb pfc 2

-- a value's bits in k octets, where it has its one form and is within its width
abbrev pub bits_in : ℕ → Value → Answer ℕ
bits_in k (Unsigned n) = refuse_if (not (ltb n (256 ^ k))) (refusal 24 []) (gives n)
bits_in k (Signed z) = signed_bits k z
bits_in k (Single x) = refuse_if (is_nan x) (refusal 24 []) (gives (to_bits binary32 x))
bits_in k (SingleNan b) = refuse_if (not (nan_bits binary32 b)) (refusal 24 []) (gives b)
bits_in k (Double x) = refuse_if (is_nan x) (refusal 24 []) (gives (to_bits binary64 x))
bits_in k (DoubleNan b) = refuse_if (not (nan_bits binary64 b)) (refusal 24 []) (gives b)

-- the pattern of a value: 21, a type that is not named; 24, a value of another kind or over its width
unfoldable pub pattern_of : ℕ → ℕ → Value → Answer ℕ
pattern_of ptc pfc v =
    refuse_if (eqb (octets_for ptc pfc) 0) (refusal 21 [])
    (refuse_if (not (kind_is ptc pfc v)) (refusal 24 []) (bits_in (octets_for ptc pfc) v))

-- ---- a value by the number of its kind and its bits

-- a value of no type: no NaN has this pattern
abbrev pub no_value : Value
no_value = SingleNan 0

-- a single has a pattern of 32 bits
abbrev pub single_from : ℕ → Value
single_from bits = pick (ltb bits (256 ^ 4)) (single_of bits) no_value

-- 1 an unsigned integer, 2 a signed one in two's complement of 64 bits, 3 a single, 4 a double
unfoldable pub value_from : ℕ → ℕ → Value
value_from kind bits =
    pick (eqb kind 1) (Unsigned bits)
    (pick (eqb kind 2) (Signed (signed_of 8 bits)) (pick (eqb kind 3) (single_from bits) (pick (eqb kind 4) (double_of bits) no_value)))

-- ---- a value in octets

-- the value that octets begin with: 21, then 2
unfoldable pub read_value : ℕ → ℕ → List ℕ → Answer Value
read_value ptc pfc s =
    refuse_if (eqb (octets_for ptc pfc) 0) (refusal 21 [])
    (refuse_if (ltb (length s) (octets_for ptc pfc)) (refusal 2 (length s ∷ octets_for ptc pfc ∷ []))
    (gives (value_of ptc pfc (number_of (take (octets_for ptc pfc) s)))))

-- the octets of a value: 21, 24
unfoldable pub value_octets : ℕ → ℕ → Value → Answer (List ℕ)
value_octets ptc pfc v = pattern_of ptc pfc v then λ n. gives (octets_of (octets_for ptc pfc) n)

-- and written into a buffer of m octets: 21, 24, then 1
abbrev pub write_value : ℕ → ℕ → Value → ℕ → Answer ℕ
write_value ptc pfc v m = size_in (value_octets ptc pfc v) m

-- what each case of a value holds: a number of its format, a pattern of its width
abbrev pub Held : Value → Type 0
Held (Unsigned n) = Unit {0}
Held (Signed z) = Unit {0}
Held (Single x) = T (fits binary32 x)
Held (SingleNan b) = b < 4294967296
Held (Double x) = T (fits binary64 x)
Held (DoubleNan b) = b < 18446744073709551616
