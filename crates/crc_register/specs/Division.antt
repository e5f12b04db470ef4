-- The same number as ECSS-E-ST-70-41C, annex B, states it (CRC, encoding procedure): with M(x) the message of n bits, its
-- checksum not among them, L(x) = x^15 + x^14 + .. + 1 and G(x) = x^16 + x^12 + x^5 + 1,
--
--     CRC = [x^16 M(x) + x^n L(x)] modulo G(x).
--
-- A polynomial over the field of two elements is the row of its coefficients, the highest first, or the number that
-- has them for its digits.
use Rattle.std.specs.Prelude.{Bool, true, false, ◌≡◌, List, [], ◌∷◌, ◌++◌, ℕ, ◌+◌, ◌*◌, ◌/◌, ◌^◌, ◌<◌, length, replicate}
use Rattle.crc_register.specs.Crc.{◌⊕◌, bit}
use Rattle.crc_register.specs.Added.{add_bits}

abbrev pub digit : Bool → ℕ
digit true = 1
digit false = 0

-- G(x), or 0
abbrev pub generator : Bool → ℕ
generator true = 2 ^ 16 + 2 ^ 12 + 2 ^ 5 + 2 ^ 0
generator false = 0

-- x^16 M(x) + x^n L(x): the second term presets the register to all ones
unfoldable pub preset : List Bool → List Bool
preset m = add_bits (m ++ replicate 16 false) (replicate 16 true ++ replicate (length m) false)

-- ---- long division

-- where there is an x^16, G(x) is taken off
unfoldable pub reduce : ℕ → ℕ
reduce n = n ⊕ generator (bit (n / 65536))

-- the next coefficient is brought down, and G(x) taken off
unfoldable pub divide : ℕ → List Bool → ℕ
divide r [] = r
divide r (b ∷ bs) = divide (reduce (r * 2 + digit b)) bs

unfoldable pub remainder : List Bool → ℕ
remainder p = divide 0 p

-- ---- what a remainder is: p(x) = q(x) G(x) + r(x), with r(x) of degree below 16

-- p(x)
unfoldable pub number : ℕ → List Bool → ℕ
number v [] = v
number v (b ∷ bs) = number (v * 2 + digit b) bs

-- q(x) G(x)
unfoldable pub product : ℕ → List Bool → ℕ
product m [] = m
product m (b ∷ bs) = product (m * 2 ⊕ generator b) bs

pub record Remainder (p : List Bool) (r : ℕ) : Type 0 where
  pub quotient : List Bool
  pub as_long : length quotient ≡ length p
  pub low : r < 65536
  pub divides : number 0 p ≡ product 0 quotient ⊕ r
