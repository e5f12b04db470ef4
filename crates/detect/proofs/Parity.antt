-- The generator has an even number of terms, so the register keeps whether the bits that came in are odd in number.
use mathlib.Core.Path.{◌≡◌, refl, sym, ap, ap₂, ◌∙◌}
use mathlib.Core.Bool.{Bool, true, false, not, beq, true≢false}
use mathlib.Core.List.{List, [], ◌∷◌}
use Prim.Native.Nat.{ℕ, zero, suc, ◌+◌, ◌*◌, ◌/◌, ◌%◌, ◌<◌}
use native.Mathlib.Nat.{mod-lt}
use native.Mathlib.Omega.{arith}
use lib.Dec.{eqb, T, lit<}
use lib.Pow.{pow_pos}
use Rattle.crc_register.specs.Crc.{◌⊕◌, differs, bit, shift_in, run}
use Rattle.detect.specs.Errors.{ones}
use Rattle.crc_register.proofs.Below.{below}
use Rattle.crc_register.proofs.Xor.{⊕-zero, ⊕-shr, bit-⊕, differs-swap, differs_false}
use Rattle.crc_register.proofs.Linear.{shift_in-⊕}
use Rattle.crc_register.proofs.Octet.{halves}
use Rattle.crc_register.proofs.Zeros.{shift_in-lt}

-- the sum of the n low bits
par : ℕ → ℕ → Bool
par zero r = false
par (suc n) r = differs (bit r) (par n (r / 2))

par-⊕ : (n a b : ℕ) → par n (a ⊕ b) ≡ differs (par n a) (par n b)
unfolding par
par-⊕ zero a b = refl
par-⊕ (suc n) a b =
    ap₂ differs (bit-⊕ a b) (ap (par n) (⊕-shr 1 a b) ∙ par-⊕ n (a / 2) (b / 2))
    ∙ differs-swap (bit a) (bit b) (par n (a / 2)) (par n (b / 2))

same : (a b : Bool) → T (beq a b) → a ≡ b
same true true t = refl
same true false t = absurd t
same false true t = absurd t
same false false t = refl

keeps_high : (k : ℕ) → k < 256 → par 16 (shift_in (k * 256) false) ≡ par 16 (k * 256)
unfolding par shift_in bit ◌⊕◌
keeps_high k h =
    same (par 16 (shift_in (k * 256) false)) (par 16 (k * 256))
    (below (λ m. beq (par 16 (shift_in (m * 256) false)) (par 16 (m * 256))) 256 tt k h)

keeps_low : (k : ℕ) → k < 256 → par 16 (shift_in k false) ≡ par 16 k
unfolding par shift_in bit ◌⊕◌
keeps_low k h =
    same (par 16 (shift_in k false)) (par 16 k) (below (λ m. beq (par 16 (shift_in m false)) (par 16 m)) 256 tt k h)

takes : (b : Bool) → par 16 (shift_in 0 b) ≡ b
unfolding par shift_in bit ◌⊕◌
takes true = refl
takes false = refl

keeps : (r : ℕ) → r < 65536 → par 16 (shift_in r false) ≡ par 16 r
keeps r h =
    ap (λ (x : ℕ). par 16 (shift_in x false)) (sym (halves r))
    ∙ ap (par 16) (shift_in-⊕ (r / 256 * 256) (r % 256) false false)
    ∙ par-⊕ 16 (shift_in (r / 256 * 256) false) (shift_in (r % 256) false)
    ∙ ap₂ differs (keeps_high (r / 256) (omega arith)) (keeps_low (r % 256) (mod-lt r (pow_pos 8)))
    ∙ sym (par-⊕ 16 (r / 256 * 256) (r % 256))
    ∙ ap (par 16) (halves r)

par-shift_in : (r : ℕ) (b : Bool) → r < 65536 → par 16 (shift_in r b) ≡ differs (par 16 r) b
par-shift_in r b h =
    ap (λ (x : ℕ). par 16 (shift_in x b)) (sym (⊕-zero r))
    ∙ ap (par 16) (shift_in-⊕ r 0 false b)
    ∙ par-⊕ 16 (shift_in r false) (shift_in 0 b)
    ∙ ap₂ differs (keeps r h) (takes b)

-- the sum of a row of bits
sum : List Bool → Bool
sum [] = false
sum (b ∷ bs) = differs b (sum bs)

differs-assoc : (a b c : Bool) → differs (differs a b) c ≡ differs a (differs b c)
differs-assoc false b c = refl
differs-assoc true false c = refl
differs-assoc true true false = refl
differs-assoc true true true = refl

par-run : (bs : List Bool) (r : ℕ) → r < 65536 → par 16 (run r bs) ≡ differs (par 16 r) (sum bs)
unfolding run sum
par-run [] r h = sym (differs_false (par 16 r))
par-run (b ∷ bs) r h =
    par-run bs (shift_in r b) (shift_in-lt r b)
    ∙ ap (λ (x : Bool). differs x (sum bs)) (par-shift_in r b h)
    ∙ differs-assoc (par 16 r) b (sum bs)

bit-suc : (n : ℕ) → bit (suc n) ≡ not (bit n)
unfolding bit
bit-suc n = go (n % 2) (suc n % 2) (mod-lt n (lit< tt)) (omega arith)
  where
    go : (x y : ℕ) → x < 2 → (x + y) ≡ 1 → eqb y 1 ≡ not (eqb x 1)
    go zero zero h e = absurd (omega arith)
    go zero (suc zero) h e = refl
    go zero (suc (suc y)) h e = absurd (omega arith)
    go (suc zero) zero h e = refl
    go (suc zero) (suc y) h e = absurd (omega arith)
    go (suc (suc x)) y h e = absurd (omega arith)

sum_ones : (bs : List Bool) → sum bs ≡ bit (ones bs)
unfolding sum ones bit
sum_ones [] = refl
sum_ones (true ∷ bs) = ap not (sum_ones bs) ∙ sym (bit-suc (ones bs))
sum_ones (false ∷ bs) = sum_ones bs

odd-bit : (n : ℕ) → n % 2 ≡ 1 → bit n ≡ true
unfolding bit
odd-bit n e = ap (λ (x : ℕ). eqb x 1) e

-- an odd number of bits leaves a register that is not 0
pub odd-leaves : (bs : List Bool) → ones bs % 2 ≡ 1 → run 0 bs ≡ 0 → ⊥
unfolding par bit
odd-leaves bs o e =
    true≢false (sym (odd-bit (ones bs) o) ∙ sym (sum_ones bs) ∙ sym (par-run bs 0 (lit< tt)) ∙ ap (par 16) e)
