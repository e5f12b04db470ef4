-- The row of bits in which the layout of the headers is said, and the row over which the checksum runs, are one row.
use Prim.Native.Nat.{ℕ, ◌/◌}
use mathlib.Core.Path.{◌≡◌, refl, ap₂}
use mathlib.Core.List.{List, [], ◌∷◌, ◌++◌}
use native.Mathlib.Omega.{arith}
use Rattle.crc_register.specs.Crc.{bit, octet_bits, bits_of}
use Rattle.space_packet.specs.Bits.{bits, row}

octet-bits : (o : ℕ) → bits 8 o ≡ octet_bits o
unfolding bits octet_bits bit
octet-bits o =
    let e : o / 1 ≡ o = omega arith in
    λ i. bit (o / 128) ∷ bit (o / 64) ∷ bit (o / 32) ∷ bit (o / 16) ∷ bit (o / 8) ∷ bit (o / 4) ∷ bit (o / 2) ∷ bit (e i) ∷ []

pub one-row : (s : List ℕ) → row s ≡ bits_of s
unfolding row bits_of
one-row [] = refl
one-row (o ∷ s) = ap₂ ◌++◌ (octet-bits o) (one-row s)
