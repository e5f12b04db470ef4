-- What the checksum detects: octets that verify do not verify once an error whose bits are `Detected` is added to them. That adding
-- an error changes the bits that it sets, and no other, is `bits_of-⊕` of the checksum's laws.
use mathlib.Core.Path.{◌≡◌, sym, ap, ◌∙◌}
use mathlib.Core.List.{List}
use Prim.Native.Nat.{ℕ}
use native.Mathlib.Omega.{arith}
use lib.ListN.{length}
use Rattle.crc_register.specs.Crc.{◌⊕◌, run, bits_of, crc_from, crc_of}
use Rattle.crc_register.specs.Added.{add_octets}
use Rattle.detect.specs.Errors.{Detected, odd, burst, pair}
use Rattle.crc_register.proofs.Xor.{zero-⊕}
use Rattle.crc_register.proofs.Linear.{crc_of-⊕}
use Rattle.detect.proofs.Parity.{odd-leaves}
use Rattle.detect.proofs.Burst.{burst-leaves}
use Rattle.detect.proofs.Pair.{pair-leaves}

-- an error that is not detected leaves an empty register empty
pub undetected : (s e : List ℕ) → length s ≡ length e → crc_of s ≡ 0 → crc_of (add_octets s e) ≡ 0 → run 0 (bits_of e) ≡ 0
unfolding crc_from
undetected s e h z u =
    sym (zero-⊕ (crc_from 0 e)) ∙ ap (λ (x : ℕ). x ⊕ crc_from 0 e) (sym z) ∙ sym (crc_of-⊕ s e h) ∙ u

pub detects : (s e : List ℕ) → length s ≡ length e → crc_of s ≡ 0 → Detected (bits_of e) → crc_of (add_octets s e) ≡ 0 → ⊥
detects s e h z (odd o) u = odd-leaves (bits_of e) (omega (arith, o)) (undetected s e h z u)
detects s e h z (burst b) u = burst-leaves (bits_of e) b (undetected s e h z u)
detects s e h z (pair p) u = pair-leaves (bits_of e) p (undetected s e h z u)
