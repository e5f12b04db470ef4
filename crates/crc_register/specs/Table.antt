-- The table of 16 entries, by its rule. Only private contracts cite it: a reader of the public ones can pass it by.
use Rattle.std.specs.Prelude.{Bool, List, [], ◌∷◌, ℕ, ◌*◌, ◌/◌}
use Rattle.crc_register.specs.Crc.{bit, run}

-- the bits of half an octet, the most significant first
unfoldable pub half_bits : ℕ → List Bool
half_bits h = bit (h / 8) ∷ bit (h / 4) ∷ bit (h / 2) ∷ bit h ∷ []

-- entry k: what four zero bits make of a register whose highest four bits are k and whose others are 0
unfoldable pub entry : ℕ → ℕ
entry k = run (k * 4096) (half_bits 0)
