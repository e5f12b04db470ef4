-- Where the bits that differ stand: in the row of differences, bit 8 * i + k is that of octet i with the value 2 ^ (7 - k).
use Prim.Native.Nat.{ℕ, zero, suc, ◌+◌, ◌-◌, ◌*◌, ◌/◌, ◌^◌, ◌<◌}
use mathlib.Core.Path.{◌≡◌, refl, sym, ap, ◌∙◌}
use mathlib.Core.Bool.{Bool, false}
use mathlib.Core.List.{List, [], ◌∷◌, ◌++◌}
use native.Mathlib.Omega.{arith}
use native.Mathlib.Nat.{suc_inj, zero-add}
use lib.ListN.{length, get_or, get_or-append}
use lib.Seq.{get_or-append-add}
use Rattle.crc_register.specs.Crc.{◌⊕◌, differs, bit, octet_bits, bits_of}
use Rattle.crc_register.specs.Added.{add_octets}
use Rattle.crc_register.proofs.Below.{same-below}
use Rattle.crc_register.proofs.Xor.{⊕-zero, bit-shr}
use Rattle.crc_register.proofs.Linear.{bits_of-⊕}
use Rattle.exactness.specs.Changed.{differences}

octet-place : (o k : ℕ) → k < 8 → get_or (octet_bits o) k false ≡ bit (o / 2 ^ (7 - k))
unfolding octet_bits
octet-place o zero h = refl
octet-place o (suc zero) h = refl
octet-place o (suc (suc zero)) h = refl
octet-place o (suc (suc (suc zero))) h = refl
octet-place o (suc (suc (suc (suc zero)))) h = refl
octet-place o (suc (suc (suc (suc (suc zero))))) h = refl
octet-place o (suc (suc (suc (suc (suc (suc zero)))))) h = refl
octet-place o (suc (suc (suc (suc (suc (suc (suc zero))))))) h = ap bit (omega arith)
octet-place o (suc (suc (suc (suc (suc (suc (suc (suc k)))))))) h = absurd (omega arith)

bit-place : (s : List ℕ) (i k : ℕ) → k < 8 → get_or (bits_of s) (8 * i + k) false ≡ bit (get_or s i 0 / 2 ^ (7 - k))
unfolding bits_of octet_bits bit
bit-place [] i k h = sym (ap bit (same-below (λ n. 0 / 2 ^ (7 - n)) (λ n. 0) 8 tt k h))
bit-place (o ∷ s) zero k h =
    ap (λ (n : ℕ). get_or (octet_bits o ++ bits_of s) n false) (zero-add k) ∙ get_or-append (octet_bits o) (bits_of s) false k h ∙ octet-place o k h
bit-place (o ∷ s) (suc i) k h =
    let e : 8 * suc i + k ≡ 8 + (8 * i + k) = omega arith in
    ap (λ (n : ℕ). get_or (octet_bits o ++ bits_of s) n false) e ∙ get_or-append-add (octet_bits o) (bits_of s) (8 * i + k) false ∙ bit-place s i k h

added-at : (s s' : List ℕ) (i : ℕ) → length s ≡ length s' → get_or (add_octets s s') i 0 ≡ get_or s i 0 ⊕ get_or s' i 0
unfolding add_octets
added-at [] [] i h = sym (⊕-zero 0)
added-at [] (y ∷ s') i h = absurd (omega arith)
added-at (x ∷ s) [] i h = absurd (omega arith)
added-at (x ∷ s) (y ∷ s') zero h = refl
added-at (x ∷ s) (y ∷ s') (suc i) h = added-at s s' i (suc_inj h)

pub difference-at : (s s' : List ℕ) (i k : ℕ) → length s ≡ length s' → k < 8
    → get_or (differences s s') (8 * i + k) false ≡ differs (bit (get_or s i 0 / 2 ^ (7 - k))) (bit (get_or s' i 0 / 2 ^ (7 - k)))
difference-at s s' i k h l =
    ap (λ (bs : List Bool). get_or bs (8 * i + k) false) (sym (bits_of-⊕ s s' h))
    ∙ bit-place (add_octets s s') i k l
    ∙ ap (λ (o : ℕ). bit (o / 2 ^ (7 - k))) (added-at s s' i h)
    ∙ bit-shr (7 - k) (get_or s i 0) (get_or s' i 0)
