-- Two functions that take sums to sums, and agree at every power of two, agree.
use mathlib.Core.Path.{◌≡◌, refl, sym, ap, ap₂, ◌∙◌}
use Prim.Native.Nat.{ℕ, zero, suc, ◌*◌, ◌/◌, ◌%◌, ◌^◌, ◌<◌}
use native.Mathlib.Nat.{mod-lt, div-lt_iff_lt-mul, pow-suc, mul_comm, one-mul, zero-mul, not-suc-le-zero, le_of_suc-le-suc}
use native.Mathlib.Omega.{arith}
use lib.Arith.{lt-one}
use lib.Pow.{split, pow_pos}
use Rattle.crc_register.specs.Crc.{◌⊕◌}
use Rattle.crc_register.proofs.Xor.{⊕-self, ⊕-undo, ⊕-join, ⊕-swap, ⊕-shl, ⊕-shr, ⊕-mod}

abbrev pub Additive : (ℕ → ℕ) → Type 0
Additive f = (a b : ℕ) → f (a ⊕ b) ≡ f a ⊕ f b

-- ---- what is additive

pub id-add : Additive (λ a. a)
id-add a b = refl

pub none-add : Additive (λ a. 0)
none-add a b = sym (⊕-self 0)

pub shr-add : (k : ℕ) → Additive (λ a. a / 2 ^ k)
shr-add k a b = ⊕-shr k a b

-- a shift up, in so many bits
pub shl-add : (n k : ℕ) → Additive (λ a. (a * 2 ^ k) % 2 ^ n)
shl-add n k a b = ap (λ (x : ℕ). x % 2 ^ n) (⊕-shl k a b) ∙ ⊕-mod n (a * 2 ^ k) (b * 2 ^ k)

pub mod-add : (k : ℕ) → Additive (λ a. a % 2 ^ k)
mod-add k a b = ⊕-mod k a b

module _ (f g : ℕ → ℕ) (p : Additive f) (q : Additive g) where
  pub sum-add : Additive (λ a. f a ⊕ g a)
  sum-add a b = ap₂ ◌⊕◌ (p a b) (q a b) ∙ ⊕-swap (f a) (f b) (g a) (g b)

  pub then-add : Additive (λ a. g (f a))
  then-add a b = ap g (p a b) ∙ q (f a) (f b)

-- ---- by their values at the powers of two

pub at_zero : (f : ℕ → ℕ) → Additive f → f 0 ≡ 0
at_zero f p = sym (⊕-undo (f 0) (f 0)) ∙ ap (λ (x : ℕ). x ⊕ f 0) (sym (p 0 0) ∙ ap f (⊕-self 0)) ∙ ⊕-self (f 0)

module _ (f g : ℕ → ℕ) (p : Additive f) (q : Additive g) where
  one-digit : (n k : ℕ) → k < 2 → f (2 ^ n) ≡ g (2 ^ n) → f (k * 2 ^ n) ≡ g (k * 2 ^ n)
  one-digit n zero h e = ap f (zero-mul (2 ^ n)) ∙ at_zero f p ∙ sym (ap g (zero-mul (2 ^ n)) ∙ at_zero g q)
  one-digit n (suc zero) h e = ap f (one-mul (2 ^ n)) ∙ e ∙ sym (ap g (one-mul (2 ^ n)))
  one-digit n (suc (suc k)) h e = absurd (not-suc-le-zero (le_of_suc-le-suc (le_of_suc-le-suc h)))

  pub by_bits : (n : ℕ) → ((k : ℕ) → k < n → f (2 ^ k) ≡ g (2 ^ k)) → (a : ℕ) → a < 2 ^ n → f a ≡ g a
  by_bits zero t a h = ap f (lt-one h) ∙ at_zero f p ∙ sym (ap g (lt-one h) ∙ at_zero g q)
  by_bits (suc n) t a h =
      sym (ap f parts)
      ∙ p (a / 2 ^ n * 2 ^ n) (a % 2 ^ n)
      ∙ ap₂ ◌⊕◌
      (one-digit n (a / 2 ^ n) top (t n (omega arith)))
      (by_bits n (λ k l. t k (omega arith)) (a % 2 ^ n) (mod-lt a (pow_pos n)))
      ∙ sym (q (a / 2 ^ n * 2 ^ n) (a % 2 ^ n))
      ∙ ap g parts
    where
      parts : a / 2 ^ n * 2 ^ n ⊕ a % 2 ^ n ≡ a
      parts = ⊕-join (a / 2 ^ n) n (a % 2 ^ n) (mod-lt a (pow_pos n)) ∙ split a n

      top : a / 2 ^ n < 2
      top = (div-lt_iff_lt-mul (pow_pos n)).1 (rw (← mul_comm (2 ^ n) 2, ← pow-suc 2 n) h)
