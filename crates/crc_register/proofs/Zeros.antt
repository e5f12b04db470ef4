-- The register stays below 65536, and no row of zero bits takes a register that is not 0 to 0.
use mathlib.Core.Path.{◌≡◌, refl}
use mathlib.Core.Bool.{Bool, true, false, true≢false}
use mathlib.Core.List.{List, [], ◌∷◌}
use Prim.Native.Nat.{ℕ, zero, suc, ◌*◌, ◌/◌, ◌%◌, ◌<◌}
use native.Mathlib.Nat.{mod-lt, mod-eq_of_lt}
use native.Mathlib.Omega.{arith}
use lib.Dec.{eqb, lit<}
use lib.Pow.{pow_pos}
use Rattle.crc_register.specs.Crc.{◌⊕◌, differs, bit, feedback, shift_in, run, bits_of, crc_from, crc_of}
use Rattle.crc_register.proofs.Xor.{⊕-cancel, ⊕-lt}

feedback-lt : (b : Bool) → feedback b < 65536
feedback-lt true = lit< tt
feedback-lt false = lit< tt

pub shift_in-lt : (r : ℕ) (b : Bool) → shift_in r b < 65536
unfolding shift_in
shift_in-lt r b = ⊕-lt 16 (mod-lt (r * 2) (pow_pos 16)) (feedback-lt (differs (bit (r / 32768)) b))

pub run-lt : (r : ℕ) (bs : List Bool) → r < 65536 → run r bs < 65536
unfolding run
run-lt r [] h = h
run-lt r (b ∷ bs) h = run-lt (shift_in r b) bs (shift_in-lt r b)

pub crc_from-lt : (r : ℕ) (s : List ℕ) → r < 65536 → crc_from r s < 65536
unfolding crc_from
crc_from-lt r s h = run-lt r (bits_of s) h

pub crc_of-lt : (s : List ℕ) → crc_of s < 65536
crc_of-lt s = crc_from-lt 65535 s (lit< tt)

-- a shifted register is even, and the generator is odd
even_odd : (x : ℕ) → (x * 2) % 65536 ≡ 4129 → ⊥
even_odd x e = omega arith

top-clear : (t : ℕ) → t < 2 → eqb (t % 2) 1 ≡ false → t ≡ 0
top-clear zero h e = refl
top-clear (suc zero) h e = absurd (true≢false e)
top-clear (suc (suc t)) h e = omega arith

zero_of : (r : ℕ) (b : Bool) → r < 65536 → bit (r / 32768) ≡ b → (r * 2) % 65536 ≡ feedback (differs b false) → r ≡ 0
unfolding bit
zero_of r true h e f = absurd (even_odd r f)
zero_of r false h e f =
    let small : r < 32768 = omega (arith, top-clear (r / 32768) (omega arith) e) in
    let fits : r * 2 < 65536 = omega arith in
    omega (arith, mod-eq_of_lt fits)

pub shift_zero : (r : ℕ) → r < 65536 → shift_in r false ≡ 0 → r ≡ 0
unfolding shift_in
shift_zero r h e =
    zero_of r (bit (r / 32768)) h refl (⊕-cancel ((r * 2) % 65536) (feedback (differs (bit (r / 32768)) false)) e)

-- no bit of a row is set
pub data Clear : List Bool → Type 0 where
  none : Clear []
  next : {bs : List Bool} → Clear bs → Clear (false ∷ bs)

pub run-clear-zero : {bs : List Bool} → Clear bs → run 0 bs ≡ 0
unfolding run shift_in bit ◌⊕◌
run-clear-zero none = refl
run-clear-zero (next c) = run-clear-zero c

pub run-clear : {bs : List Bool} → Clear bs → (r : ℕ) → r < 65536 → run r bs ≡ 0 → r ≡ 0
unfolding run
run-clear none r h e = e
run-clear (next c) r h e = shift_zero r h (run-clear c (shift_in r false) (shift_in-lt r false) e)
