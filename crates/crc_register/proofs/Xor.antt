-- The laws of `◌⊕◌`: a commutative group of exponent two, that shifts, remainders and the lowest bit go through.
use mathlib.Core.Path.{◌≡◌, refl, sym, ap, ap₂, ◌∙◌}
use mathlib.Core.Bool.{Bool, true, false}
use Prim.Native.Nat.{ℕ, zero, suc, ◌+◌, ◌*◌, ◌/◌, ◌%◌, ◌^◌, ◌<◌}
use native.Mathlib.Nat.{mod-lt, zero-lt-suc, add-zero}
use native.Mathlib.Omega.{arith}
use lib.Arith.{bin_ind, digits_mod}
use lib.Bits.{bit_xor, differ, xor_step, xor_shr, xor_mod, xor_lt, xor_comm, xor_self, xor_zero_r, xor_block, xor_shifted}
use lib.Dec.{eqb}
use lib.Pow.{pow_pos}
use Rattle.crc_register.specs.Crc.{◌⊕◌, differs, bit}

-- ---- associativity

differ-bit : (x y : ℕ) → x < 2 → y < 2 → differ x y < 2
differ-bit zero y hx hy = hy
differ-bit (suc zero) zero hx hy = hx
differ-bit (suc zero) (suc zero) hx hy = zero-lt-suc 1
differ-bit (suc zero) (suc (suc y)) hx hy = absurd (omega arith)
differ-bit (suc (suc x)) y hx hy = absurd (omega arith)

differ-assoc : (x y z : ℕ) → x < 2 → y < 2 → z < 2 → differ (differ x y) z ≡ differ x (differ y z)
differ-assoc zero y z hx hy hz = refl
differ-assoc (suc zero) zero z hx hy hz = refl
differ-assoc (suc zero) (suc zero) zero hx hy hz = refl
differ-assoc (suc zero) (suc zero) (suc zero) hx hy hz = refl
differ-assoc (suc zero) (suc zero) (suc (suc z)) hx hy hz = absurd (omega arith)
differ-assoc (suc zero) (suc (suc y)) z hx hy hz = absurd (omega arith)
differ-assoc (suc (suc x)) y z hx hy hz = absurd (omega arith)

low : (n : ℕ) → n % 2 < 2
low n = mod-lt n (zero-lt-suc 1)

low-xor : (a b : ℕ) → bit_xor a b % 2 ≡ differ (a % 2) (b % 2)
low-xor a b =
    ap (λ (x : ℕ). x % 2) (xor_step a b)
    ∙ digits_mod (bit_xor (a / 2) (b / 2)) (differ-bit (a % 2) (b % 2) (low a) (low b))

half-xor : (a b : ℕ) → bit_xor a b / 2 ≡ bit_xor (a / 2) (b / 2)
half-xor a b = xor_shr a b 1

assoc : (a b c : ℕ) → bit_xor (bit_xor a b) c ≡ bit_xor a (bit_xor b c)
assoc =
    bin_ind (λ (n : ℕ). (b c : ℕ) → bit_xor (bit_xor n b) c ≡ bit_xor n (bit_xor b c)) (λ b c. refl)
    (λ n ih b c.
    xor_step (bit_xor n b) c
    ∙ ap₂ (λ (x y : ℕ). bit_xor x (c / 2) * 2 + differ y (c % 2)) (half-xor n b) (low-xor n b)
    ∙ ap₂ (λ (x y : ℕ). x * 2 + y) (ih (b / 2) (c / 2)) (differ-assoc (n % 2) (b % 2) (c % 2) (low n) (low b) (low c))
    ∙ sym (xor_step n (bit_xor b c)
    ∙ ap₂ (λ (x y : ℕ). bit_xor (n / 2) x * 2 + differ (n % 2) y) (half-xor b c) (low-xor b c)))

pub ⊕-assoc : (a b c : ℕ) → a ⊕ b ⊕ c ≡ a ⊕ (b ⊕ c)
unfolding ◌⊕◌
⊕-assoc a b c = assoc a b c

pub ⊕-comm : (a b : ℕ) → a ⊕ b ≡ b ⊕ a
unfolding ◌⊕◌
⊕-comm a b = xor_comm a b

pub ⊕-self : (a : ℕ) → a ⊕ a ≡ 0
unfolding ◌⊕◌
⊕-self a = xor_self a

pub ⊕-zero : (a : ℕ) → a ⊕ 0 ≡ a
unfolding ◌⊕◌
⊕-zero a = xor_zero_r a

pub zero-⊕ : (a : ℕ) → 0 ⊕ a ≡ a
unfolding ◌⊕◌
zero-⊕ a = refl

pub ⊕-swap : (a b c d : ℕ) → (a ⊕ b) ⊕ (c ⊕ d) ≡ (a ⊕ c) ⊕ (b ⊕ d)
⊕-swap a b c d =
    ⊕-assoc a b (c ⊕ d)
    ∙ ap (λ (x : ℕ). a ⊕ x) (sym (⊕-assoc b c d) ∙ ap (λ (x : ℕ). x ⊕ d) (⊕-comm b c) ∙ ⊕-assoc c b d)
    ∙ sym (⊕-assoc a c (b ⊕ d))

-- b comes off again
pub ⊕-undo : (a b : ℕ) → a ⊕ b ⊕ b ≡ a
⊕-undo a b = ⊕-assoc a b b ∙ ap (λ (x : ℕ). a ⊕ x) (⊕-self b) ∙ ⊕-zero a

pub ⊕-cancel : (a b : ℕ) → a ⊕ b ≡ 0 → a ≡ b
⊕-cancel a b e = sym (⊕-undo a b) ∙ ap (λ (x : ℕ). x ⊕ b) e ∙ zero-⊕ b

-- ---- shifts, remainders, bounds, the lowest bit

pub ⊕-shl : (k a b : ℕ) → (a ⊕ b) * 2 ^ k ≡ a * 2 ^ k ⊕ b * 2 ^ k
unfolding ◌⊕◌
⊕-shl k a b =
    sym (ap₂ bit_xor (sym (add-zero (a * 2 ^ k))) (sym (add-zero (b * 2 ^ k)))
    ∙ xor_block k a b 0 0 (pow_pos k) (pow_pos k)
    ∙ add-zero (bit_xor a b * 2 ^ k))

pub ⊕-shr : (k a b : ℕ) → (a ⊕ b) / 2 ^ k ≡ a / 2 ^ k ⊕ b / 2 ^ k
unfolding ◌⊕◌
⊕-shr k a b = xor_shr a b k

pub ⊕-mod : (k a b : ℕ) → (a ⊕ b) % 2 ^ k ≡ a % 2 ^ k ⊕ b % 2 ^ k
unfolding ◌⊕◌
⊕-mod k a b = xor_mod a b k

pub ⊕-lt : (k : ℕ) {a b : ℕ} → a < 2 ^ k → b < 2 ^ k → a ⊕ b < 2 ^ k
unfolding ◌⊕◌
⊕-lt k {a} {b} ha hb = xor_lt k a b ha hb

-- a number is its high part, shifted, and its low part
pub ⊕-join : (a k b : ℕ) → b < 2 ^ k → a * 2 ^ k ⊕ b ≡ a * 2 ^ k + b
unfolding ◌⊕◌
⊕-join a k b h = xor_shifted a k b h

is_one : (x y : ℕ) → x < 2 → y < 2 → eqb (differ x y) 1 ≡ differs (eqb x 1) (eqb y 1)
is_one zero zero hx hy = refl
is_one zero (suc zero) hx hy = refl
is_one zero (suc (suc y)) hx hy = absurd (omega arith)
is_one (suc zero) zero hx hy = refl
is_one (suc zero) (suc zero) hx hy = refl
is_one (suc zero) (suc (suc y)) hx hy = absurd (omega arith)
is_one (suc (suc x)) y hx hy = absurd (omega arith)

pub bit-⊕ : (a b : ℕ) → bit (a ⊕ b) ≡ differs (bit a) (bit b)
unfolding ◌⊕◌ bit
bit-⊕ a b = ap (λ (x : ℕ). eqb x 1) (low-xor a b) ∙ is_one (a % 2) (b % 2) (low a) (low b)

pub bit-shr : (k a b : ℕ) → bit ((a ⊕ b) / 2 ^ k) ≡ differs (bit (a / 2 ^ k)) (bit (b / 2 ^ k))
bit-shr k a b = ap bit (⊕-shr k a b) ∙ bit-⊕ (a / 2 ^ k) (b / 2 ^ k)

-- ---- bits added

pub differs-swap : (a b x y : Bool) → differs (differs a b) (differs x y) ≡ differs (differs a x) (differs b y)
differs-swap false b false y = refl
differs-swap false false true y = refl
differs-swap false true true false = refl
differs-swap false true true true = refl
differs-swap true false false y = refl
differs-swap true true false false = refl
differs-swap true true false true = refl
differs-swap true false true false = refl
differs-swap true false true true = refl
differs-swap true true true false = refl
differs-swap true true true true = refl

pub differs_false : (a : Bool) → differs a false ≡ a
differs_false true = refl
differs_false false = refl

-- a number taken once or not at all
pub scaled-⊕ : (g : Bool → ℕ) → g false ≡ 0 → (x y : Bool) → g (differs x y) ≡ g x ⊕ g y
scaled-⊕ g z true true = z ∙ sym (⊕-self (g true))
scaled-⊕ g z true false = sym (ap (λ (n : ℕ). g true ⊕ n) z ∙ ⊕-zero (g true))
scaled-⊕ g z false y = sym (ap (λ (n : ℕ). n ⊕ g y) z ∙ zero-⊕ (g y))
