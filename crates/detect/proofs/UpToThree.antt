-- One, two or three bits of at most 4,095 octets are detected: one and three are odd in number, and two are near enough.
use mathlib.Core.Path.{◌≡◌, refl, sym, ◌∙◌}
use mathlib.Core.Bool.{Bool, false, false≢true}
use mathlib.Core.List.{List, [], ◌∷◌}
use Prim.Native.Nat.{ℕ, zero, suc, ◌*◌, ◌≤◌, ◌<◌, zero-le}
use native.Mathlib.Nat.{lt_of_not-le}
use native.Mathlib.Omega.{arith}
use lib.ListN.{length, get_or-eq_default}
use Rattle.crc_register.specs.Crc.{octet_bits, bits_of}
use Rattle.detect.specs.Errors.{ones, Within, reach, Detected, odd, pair, UpToThree, near_octets}
use Rattle.detect.specs.ThreeBits.{ThreeBits}
use Rattle.detect.proofs.Detect.{detects}

-- no two bits are as far apart as the order
near : (bs : List Bool) → length bs ≤ 8 * near_octets → Within reach 0 bs
near bs h k e =
    let l : k < length bs = lt_of_not-le (λ g. false≢true (sym (get_or-eq_default bs false g) ∙ e)) in
    (zero-le, omega arith)

module _ (bs : List Bool) (h : length bs ≤ 8 * near_octets) (f : UpToThree bs) where
  by_number : (n : ℕ) → ones bs ≡ n → Detected bs
  by_number zero e = absurd (omega (arith, e, f.one))
  by_number (suc zero) e = odd (omega arith)
  by_number (suc (suc zero)) e = pair (record { two = e; first = 0; within = near bs h })
  by_number (suc (suc (suc zero))) e = odd (omega arith)
  by_number (suc (suc (suc (suc n)))) e = absurd (omega (arith, e, f.three))

  pub up-to-three-detected : Detected bs
  up-to-three-detected = by_number (ones bs) refl

bits-length : (s : List ℕ) → length (bits_of s) ≡ 8 * length s
unfolding bits_of octet_bits
bits-length [] = refl
bits-length (o ∷ s) = let e = bits-length s in omega arith

pub three-bits : ThreeBits
three-bits s e h z n f = let l = bits-length e in detects s e h z (up-to-three-detected (bits_of e) (omega (arith, l, h, n)) f)
