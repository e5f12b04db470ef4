-- Powers of x modulo the generator: x^n is what n zero bits make of a register that holds 1. They are computed by squaring.
use mathlib.Core.Path.{◌≡◌, refl, sym, ap, ap₂, ◌∙◌}
use mathlib.Core.Bool.{Bool, true, false}
use mathlib.Core.List.{List, [], ◌∷◌, ◌++◌}
use Prim.Native.Nat.{ℕ, zero, suc, ◌+◌, ◌*◌, ◌/◌}
use native.Mathlib.Nat.{add_comm}
use native.Mathlib.Omega.{arith}
use lib.Dec.{T, eqb, eqb→eq}
use lib.ListN.{replicate, replicate-append-replicate}
use Rattle.crc_register.specs.Crc.{◌⊕◌, shift_in, run, octet_bits}
use Rattle.crc_register.specs.Division.{digit, number}
use Rattle.crc_register.proofs.Below.{both, left, right}
use Rattle.crc_register.proofs.Linear.{shift_in-⊕, run-++}
use Rattle.crc_register.proofs.Zeros.{Clear, none, next, run-clear-zero}

-- the register r after n zero bits: x^n r(x) modulo the generator
unfoldable pub after : ℕ → ℕ → ℕ
after n r = run r (replicate n false)

-- ---- laws

pub after_last : (n r : ℕ) → after (suc n) r ≡ shift_in (after n r) false
unfolding after run
after_last zero r = refl
after_last (suc n) r = after_last n (shift_in r false)

pub after-+ : (m n r : ℕ) → after (m + n) r ≡ after n (after m r)
unfolding after
after-+ m n r = ap (run r) (sym (replicate-append-replicate m n false)) ∙ run-++ r (replicate m false) (replicate n false)

pub after-swap : (m n r : ℕ) → after m (after n r) ≡ after n (after m r)
after-swap m n r = sym (after-+ n m r) ∙ ap (λ (k : ℕ). after k r) (add_comm n m) ∙ after-+ m n r

pub after-⊕ : (n a b : ℕ) → after n (a ⊕ b) ≡ after n a ⊕ after n b
unfolding after run
after-⊕ zero a b = refl
after-⊕ (suc n) a b = ap (after n) (shift_in-⊕ a b false false) ∙ after-⊕ n (shift_in a false) (shift_in b false)

pub clear-replicate : (n : ℕ) → Clear (replicate n false)
clear-replicate zero = none
clear-replicate (suc n) = next (clear-replicate n)

after-zero : (n : ℕ) → after n 0 ≡ 0
unfolding after
after-zero n = run-clear-zero (clear-replicate n)

-- ---- products

abbrev scaled : ℕ → Bool → ℕ
scaled c true = c
scaled c false = 0

after-scaled : (n c : ℕ) (b : Bool) → after n (scaled c b) ≡ scaled (after n c) b
after-scaled n c true = refl
after-scaled n c false = after-zero n

-- c(x) times the polynomial of the coefficients, the highest first, from a on
unfoldable pub times : ℕ → ℕ → List Bool → ℕ
times c a [] = a
times c a (b ∷ bs) = times c (shift_in a false ⊕ scaled c b) bs

after-times : (n c a : ℕ) (bs : List Bool) → after n (times c a bs) ≡ times (after n c) (after n a) bs
unfolding times after run
after-times n c a [] = refl
after-times n c a (b ∷ bs) =
    after-times n c (shift_in a false ⊕ scaled c b) bs
    ∙ ap (λ (z : ℕ). times (after n c) z bs)
    (after-⊕ n (shift_in a false) (scaled c b) ∙ ap₂ ◌⊕◌ (after_last n a) (after-scaled n c b))

-- the coefficients of a register
abbrev word_bits : ℕ → List Bool
word_bits r = octet_bits (r / 256) ++ octet_bits r

-- r(x) c(x)
abbrev multiplied : ℕ → ℕ → ℕ
multiplied r c = times c 0 (word_bits r)

-- r is the register of its coefficients
abbrev reads : ℕ → Bool
reads r = eqb (times 1 0 (word_bits r)) r

after-multiplied : (n r : ℕ) → T (reads r) → after n r ≡ multiplied r (after n 1)
after-multiplied n r t =
    ap (after n) (sym (eqb→eq (times 1 0 (word_bits r)) r t))
    ∙ after-times n 1 0 (word_bits r)
    ∙ ap (λ (z : ℕ). times (after n 1) z (word_bits r)) (after-zero n)

-- ---- powers, by squaring: the exponent by its binary digits, the highest first

abbrev moved : Bool → ℕ → ℕ
moved true r = shift_in r false
moved false r = r

unfoldable pub power : ℕ → List Bool → ℕ
power r [] = r
power r (b ∷ bs) = power (moved b (multiplied r r)) bs

unfoldable pub known : ℕ → List Bool → Bool
known r [] = true
known r (b ∷ bs) = both (reads r) (known (moved b (multiplied r r)) bs)

double : (n r : ℕ) → after n 1 ≡ r → T (reads r) → after (n + n) 1 ≡ multiplied r r
double n r e t = after-+ n n 1 ∙ ap (after n) e ∙ after-multiplied n r t ∙ ap (multiplied r) e

squared : (n r : ℕ) (b : Bool) → after n 1 ≡ r → T (reads r) → after (n * 2 + digit b) 1 ≡ moved b (multiplied r r)
squared n r true e t =
    let k : n * 2 + 1 ≡ suc (n + n) = omega arith in
    ap (λ (m : ℕ). after m 1) k ∙ after_last (n + n) 1 ∙ ap (λ (z : ℕ). shift_in z false) (double n r e t)
squared n r false e t =
    let k : n * 2 + 0 ≡ n + n = omega arith in ap (λ (m : ℕ). after m 1) k ∙ double n r e t

power-is : (bs : List Bool) (n r : ℕ) → after n 1 ≡ r → T (known r bs) → after (number n bs) 1 ≡ power r bs
unfolding power known number
power-is [] n r e t = e
power-is (b ∷ bs) n r e t =
    power-is bs (n * 2 + digit b) (moved b (multiplied r r))
    (squared n r b e (left (reads r) (known (moved b (multiplied r r)) bs) t))
    (right (reads r) (known (moved b (multiplied r r)) bs) t)

-- x^n, for n of 16 bits
abbrev pub power_of : ℕ → ℕ
power_of n = power 1 (word_bits n)

abbrev pub computed : ℕ → Bool
computed n = both (known 1 (word_bits n)) (eqb (number 0 (word_bits n)) n)

pub after-power : (n : ℕ) → T (computed n) → after n 1 ≡ power_of n
unfolding after run
after-power n t =
    ap (λ (m : ℕ). after m 1) (sym (eqb→eq (number 0 (word_bits n)) n (right (known 1 (word_bits n)) (eqb (number 0 (word_bits n)) n) t)))
    ∙ power-is (word_bits n) 0 1 refl (left (known 1 (word_bits n)) (eqb (number 0 (word_bits n)) n) t)
