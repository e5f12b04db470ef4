-- The decimal of a number: the fewest digits that hold it, and how many they are.
use Prim.Native.Nat.{ℕ, zero, suc, ◌+◌, ◌-◌, ◌/◌, ◌%◌, ◌^◌, ◌≤◌, ◌<◌}
use mathlib.Core.Path.{◌≡◌, refl, ap, ap₂}
use mathlib.Core.Bool.{Bool, true, false}
use mathlib.Core.List.{List, [], ◌∷◌, ◌++◌}
use native.Mathlib.Nat.{lt_of_not-le, mod-lt, mod-eq_of_lt, one-le-pow, pow-le-pow_right}
use native.Mathlib.Omega.{arith}
use borrow.Author.Tests.{lt-ltb, le-ltb, ltb-false}
use lib.Dec.{ltb}
use lib.ListN.{length, length-append}
use Rattle.io.specs.Digits.{hex_digit_ascii, last_digits, IsDigitCount}
use Rattle.text.specs.Pieces.{pick}
use Rattle.text.specs.Digits.{decimal_in, decimal}

glyph_decimal : (d : ℕ) → d < 10 → hex_digit_ascii d ≡ 48 + d
glyph_decimal d h = simp (lt-ltb d 10 h)

shorter : (w n : ℕ) → 10 ^ suc w ≤ n → 1 < suc w → 10 ^ (suc w - 1) ≤ n / 10
shorter w n h m = let z : suc w - 1 ≡ w = omega arith in rw z (omega arith)

digits_in : (k w n : ℕ) → w ≤ k → IsDigitCount 10 1 n w → last_digits 10 w n ≡ decimal_in k n
unfolding decimal_in
digits_in k zero n h f = absurd (omega arith)
digits_in zero (suc w) n h f = absurd (omega arith)
digits_in (suc k) (suc zero) n h f =
    let z : n < 10 = f.1 in
    rw (lt-ltb n 10 z, mod-eq_of_lt z) (ap (λ (x : ℕ). x ∷ []) (glyph_decimal n z))
digits_in (suc k) (suc (suc w)) n h f =
    let below : n < 10 ^ suc (suc w) = f.1 in
    let one_less : suc (suc w) - 1 ≡ suc w = omega arith in
    let above : 10 ^ suc w ≤ n = rw one_less at (f.2 (omega arith)) in
    let z : 10 ≤ n = omega (arith, one-le-pow w 10 (omega arith)) in
    let fewer : IsDigitCount 10 1 (n / 10) (suc w) = (omega arith, omega arith, λ m. shorter w n above m) in
    rw (le-ltb n 10 z)
    (ap₂ ◌++◌ (digits_in k (suc w) (n / 10) (omega arith) fewer) (ap (λ (x : ℕ). x ∷ []) (glyph_decimal (n % 10) (mod-lt n (omega arith)))))

not-longer : (n w : ℕ) → n < 18446744073709551616 → IsDigitCount 10 1 n w → 21 ≤ w → ⊥
not-longer n w h f more =
    let left : 10 ^ (w - 1) ≤ n = f.2 (omega arith) in
    let up : 10 ^ 20 ≤ 10 ^ (w - 1) = pow-le-pow_right {n = 10} (omega arith) {i = 20} {j = w - 1} (omega arith) in
    omega arith

-- what `io::decimal` puts down
pub digits_decimal : (n w : ℕ) → n < 18446744073709551616 → IsDigitCount 10 1 n w → last_digits 10 w n ≡ decimal n
unfolding decimal
digits_decimal n w h f = let z : w < 21 = lt_of_not-le (not-longer n w h f) in digits_in 20 w n (omega arith) f

-- ---- how many digits

length_at : (w n : ℕ) (l : List ℕ) (b : Bool) → n < 10 ^ suc w → ltb n 10 ≡ b → ((v : ℕ) → n / 10 < 10 ^ suc v → length l ≤ suc v)
    → length (pick b ((48 + n) ∷ []) (l ++ ((48 + n % 10) ∷ []))) ≤ suc w
length_at w n l true h e on = omega arith
length_at zero n l false h e on = absurd (omega (arith, ltb-false n 10 e))
length_at (suc w) n l false h e on = simp length-append (omega (arith, on w (omega arith)))

length-in : (k w n : ℕ) → n < 10 ^ suc w → length (decimal_in k n) ≤ suc w
unfolding decimal_in
length-in zero w n h = omega arith
length-in (suc k) w n h = length_at w n (decimal_in k (n / 10)) (ltb n 10) h refl (λ v. length-in k v (n / 10))

pub decimal-length : (w n : ℕ) → n < 10 ^ suc w → length (decimal n) ≤ suc w
unfolding decimal
decimal-length w n h = length-in 20 w n h
