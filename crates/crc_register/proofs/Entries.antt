-- The table's entries.
use mathlib.Core.Path.{◌≡◌}
use Prim.Native.Nat.{ℕ, ◌*◌, ◌<◌}
use Rattle.crc_register.specs.Crc.{◌⊕◌, bit, shift_in, run}
use Rattle.crc_register.specs.Table.{half_bits, entry}
use Rattle.crc_register.proofs.Below.{same-below}

-- an entry's four bits stand in three places that do not meet: it is a product, and a test that antt computes shows it
pub entry_product : (k : ℕ) → k < 16 → entry k ≡ k * 4129
unfolding ◌⊕◌ bit shift_in run half_bits entry
entry_product = same-below entry (λ k. k * 4129) 16 tt
