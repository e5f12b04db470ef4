-- A flag that is set reads as it was set, and the others as they did: over the bit k of the flag, whose weight is 2 ^ k.
-- Acceptance is bit 3, start 2, progress 1, completion 0.
use Prim.Native.Nat.{ℕ, zero, suc, ◌+◌, ◌*◌, ◌/◌, ◌%◌, ◌^◌}
use mathlib.Core.Path.{◌≡◌, sym, ap, ◌∙◌}
use mathlib.Core.Bool.{Bool}
use native.Mathlib.Omega.{arith}
use native.Mathlib.Nat.{mul_comm, mul_left_comm, pow-succ', one-le-pow, div-div-eq-div-mul}
use lib.Arith.{mod-mul}
use lib.Dec.{eqb, eqb-zero-suc, eqb-suc-zero, eqb-suc-suc}
use Rattle.space_packet.specs.Bits.{pick, lowest, flag_number}
use Rattle.space_packet.proofs.Numbers.{flag-back, flag-le}
use Rattle.tc_header.specs.Header.{ack_of, with_flag}
use Rattle.tc_header.specs.declared.AckFlags.{AckFlags}

-- setting a bit above the lowest sets one in the half
set-half : (k : ℕ) (a : AckFlags) (v : Bool) → (with_flag (2 ^ suc k) a v).0 ≡ 2 * (with_flag (2 ^ k) (ack_of (a.0 / 2)) v).0 + a.0 % 2
set-half k a v =
    let n = a.0 in
    let w = 2 ^ k in
    let f = flag_number v in
    let above : n / (2 * (2 * w)) * (2 * (2 * w)) ≡ 2 * (n / 2 / (2 * w) * (2 * w)) = ap (λ (q : ℕ). q * (2 * (2 * w))) (sym (div-div-eq-div-mul n 2 (2 * w))) ∙ mul_left_comm (n / 2 / (2 * w)) 2 (2 * w) in
    let flag : f * (2 * w) ≡ 2 * (f * w) = mul_left_comm f 2 w in
    let below : n % (2 * w) ≡ (n / 2 % w) * 2 + n % 2 = ap (λ (m : ℕ). n % m) (mul_comm 2 w) ∙ mod-mul n (one-le-pow k 2 (omega arith)) (omega arith) in
    rw (pow-succ' 2 k) (omega arith)

half-bit : (j n : ℕ) → n / 2 ^ suc j ≡ n / 2 / 2 ^ j
half-bit j n = ap (λ (m : ℕ). n / m) (pow-succ' 2 j) ∙ sym (div-div-eq-div-mul n 2 (2 ^ j))

-- the bit j of flags whose bit k was set
pub set-bit : (k j : ℕ) (a : AckFlags) (v : Bool) → lowest ((with_flag (2 ^ k) a v).0 / 2 ^ j) ≡ pick (eqb k j) v (lowest (a.0 / 2 ^ j))
set-bit zero zero a v =
    let e : (with_flag 1 a v).0 / 1 % 2 ≡ flag_number v % 2 = omega (arith, flag-le v) in
    ap (λ (n : ℕ). eqb n 1) e ∙ flag-back v
set-bit zero (suc j) a v =
    let e : (with_flag 1 a v).0 / 2 ≡ a.0 / 2 = omega (arith, flag-le v) in
    rw (half-bit j (with_flag 1 a v).0, half-bit j a.0, e, eqb-zero-suc j)
set-bit (suc k) zero a v =
    let e : (with_flag (2 ^ suc k) a v).0 / 1 % 2 ≡ a.0 / 1 % 2 = omega (arith, set-half k a v) in
    rw (eqb-suc-zero k) (ap (λ (n : ℕ). eqb n 1) e)
set-bit (suc k) (suc j) a v =
    let b = ack_of (a.0 / 2) in
    let e : (with_flag (2 ^ suc k) a v).0 / 2 ≡ (with_flag (2 ^ k) b v).0 = omega (arith, set-half k a v) in
    rw (half-bit j (with_flag (2 ^ suc k) a v).0, half-bit j a.0, e, eqb-suc-suc k j) (set-bit k j b v)
