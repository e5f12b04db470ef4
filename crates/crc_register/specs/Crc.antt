-- The packet error control of ECSS-E-ST-70-41C, annex B (CRC), as the shift register that computes it: generator
-- x^16 + x^12 + x^5 + 1, preset to all ones, most significant bit first, with no reflection and no final inversion.
-- The division that the annex states it by is in Division.antt.
use Rattle.std.specs.Prelude.{Bool, true, false, not, List, [], ◌∷◌, ◌++◌, ℕ, ◌+◌, ◌*◌, ◌/◌, ◌%◌, ◌^◌, eqb}
use Rattle.std.specs.Int.Bits.{bit_xor}

infixl 60 ◌⊕◌
-- addition modulo 2 at each bit of two numbers, with no carry: what `^` computes
unfoldable pub ◌⊕◌ : ℕ → ℕ → ℕ
a ⊕ b = bit_xor a b

-- addition modulo 2 of two bits
abbrev pub differs : Bool → Bool → Bool
differs true b = not b
differs false b = b

-- the least significant bit of a number
unfoldable pub bit : ℕ → Bool
bit n = eqb (n % 2) 1

-- the register's feedback, where there is any: the generator below x^16
abbrev pub feedback : Bool → ℕ
feedback true = 2 ^ 12 + 2 ^ 5 + 2 ^ 0
feedback false = 0

-- the register of 16 bits takes in one bit: it shifts up by one place, and where the bit that leaves it differs from
-- the bit that comes in, the feedback is added
unfoldable pub shift_in : ℕ → Bool → ℕ
shift_in r b = (r * 2) % 65536 ⊕ feedback (differs (bit (r / 32768)) b)

-- the register after a row of bits
unfoldable pub run : ℕ → List Bool → ℕ
run r [] = r
run r (b ∷ bs) = run (shift_in r b) bs

-- the bits of an octet, the most significant first
unfoldable pub octet_bits : ℕ → List Bool
octet_bits o =
    bit (o / 128) ∷ bit (o / 64) ∷ bit (o / 32) ∷ bit (o / 16) ∷ bit (o / 8) ∷ bit (o / 4) ∷ bit (o / 2) ∷ bit o ∷ []

-- the bits of some octets, in the order of transmission
unfoldable pub bits_of : List ℕ → List Bool
bits_of [] = []
bits_of (o ∷ s) = octet_bits o ++ bits_of s

-- the register after some octets
unfoldable pub crc_from : ℕ → List ℕ → ℕ
crc_from r s = run r (bits_of s)

-- the checksum of some octets: the register is preset to all ones, and is not inverted at the end
abbrev pub crc_of : List ℕ → ℕ
crc_of s = crc_from 0xFFFF s
