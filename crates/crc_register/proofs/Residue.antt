-- The residue: octets followed by two more have the checksum 0 exactly when the two are the
-- checksum of the rest, the high octet first.
use mathlib.Core.Path.{◌≡◌, sym, ap, ap₂, ◌∙◌}
use mathlib.Core.Logic.{◌↔◌}
use mathlib.Core.List.{List, [], ◌∷◌, ◌++◌}
use Prim.Native.Nat.{ℕ, ◌+◌, ◌*◌, ◌<◌}
use native.Mathlib.Omega.{arith}
use Rattle.crc_register.specs.Crc.{◌⊕◌, bit, run, octet_bits, crc_from, crc_of}
use Rattle.crc_register.proofs.Xor.{⊕-assoc, ⊕-cancel, ⊕-join, ⊕-lt, ⊕-self}
use Rattle.crc_register.proofs.Linear.{crc_from-cons, crc_from-nil, crc_from-++}
use Rattle.crc_register.proofs.Octet.{zeros-⊕, low_half, octet-in}
use Rattle.crc_register.proofs.Zeros.{Clear, none, next, run-clear, run-clear-zero, run-lt, crc_of-lt}

-- two octets are added to the whole register
pub two_in : (r hi lo : ℕ) → hi < 256 → lo < 256 →
    run (run r (octet_bits hi)) (octet_bits lo) ≡ run (run (r ⊕ (hi * 256 + lo)) (octet_bits 0)) (octet_bits 0)
two_in r hi lo hh hl =
    octet-in (run r (octet_bits hi)) lo hl
    ∙ ap (λ (x : ℕ). run x (octet_bits 0))
    (ap₂ ◌⊕◌ (octet-in r hi hh) (sym (low_half lo hl))
    ∙ sym (zeros-⊕ (r ⊕ hi * 256) lo)
    ∙ ap (λ (x : ℕ). run x (octet_bits 0)) (⊕-assoc r (hi * 256) lo ∙ ap (λ (x : ℕ). r ⊕ x) (⊕-join hi 8 lo hl)))

clear8 : Clear (octet_bits 0)
unfolding octet_bits bit
clear8 = next (next (next (next (next (next (next (next none)))))))

pub two-octets : (r hi lo : ℕ) → crc_from r (hi ∷ lo ∷ []) ≡ run (run r (octet_bits hi)) (octet_bits lo)
two-octets r hi lo =
    crc_from-cons r hi (lo ∷ []) ∙ crc_from-cons (run r (octet_bits hi)) lo [] ∙ crc_from-nil (run (run r (octet_bits hi)) (octet_bits lo))

pub residue : (s : List ℕ) (hi lo : ℕ) → hi < 256 → lo < 256 → (crc_of (s ++ hi ∷ lo ∷ []) ≡ 0) ↔ (crc_of s ≡ hi * 256 + lo)
residue s hi lo hh hl = (to, fro)
  where
    whole : crc_of (s ++ hi ∷ lo ∷ []) ≡ run (run (crc_of s ⊕ (hi * 256 + lo)) (octet_bits 0)) (octet_bits 0)
    whole = crc_from-++ 65535 s (hi ∷ lo ∷ []) ∙ two-octets (crc_of s) hi lo ∙ two_in (crc_of s) hi lo hh hl

    small : crc_of s ⊕ (hi * 256 + lo) < 65536
    small = ⊕-lt 16 (crc_of-lt s) (omega arith)

    to : crc_of (s ++ hi ∷ lo ∷ []) ≡ 0 → crc_of s ≡ hi * 256 + lo
    to e =
        ⊕-cancel (crc_of s) (hi * 256 + lo)
        (run-clear clear8 (crc_of s ⊕ (hi * 256 + lo)) small
        (run-clear clear8 (run (crc_of s ⊕ (hi * 256 + lo)) (octet_bits 0))
        (run-lt (crc_of s ⊕ (hi * 256 + lo)) (octet_bits 0) small) (sym whole ∙ e)))

    fro : crc_of s ≡ hi * 256 + lo → crc_of (s ++ hi ∷ lo ∷ []) ≡ 0
    fro e =
        whole
        ∙ ap (λ (x : ℕ). run (run x (octet_bits 0)) (octet_bits 0)) (ap (λ (x : ℕ). x ⊕ (hi * 256 + lo)) e ∙ ⊕-self (hi * 256 + lo))
        ∙ ap (λ (x : ℕ). run x (octet_bits 0)) (run-clear-zero clear8) ∙ run-clear-zero clear8
