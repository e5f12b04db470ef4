-- The numbers of k octets: there are 256 ^ k.
use Prim.Native.Nat.{ℕ, zero, suc, ◌+◌, ◌-◌, ◌*◌, ◌/◌, ◌^◌, ◌≤◌, ◌<◌}
use mathlib.Core.Path.{◌≡◌, refl, sym, ap, ◌∙◌}
use native.Mathlib.Nat.{pow-suc, pow-le-pow_right}
use native.Mathlib.Omega.{arith}
use lib.Dec.{lit≤, lit<}
use Rattle.std.proofs.lemmas.Nat.{pow_pos, pow-add, div-mul-add}

pub grows : (k : ℕ) → 256 ^ suc k ≡ 256 ^ k * 256
grows k = pow-suc 256 k

pub some : (k : ℕ) → 1 ≤ 256 ^ k
some zero = lit≤ tt
some (suc k) = let e = grows k in let h = some k in omega arith

-- an even number of them, and at most 2 ^ 64
pub even : (k : ℕ) → 1 ≤ k → 256 ^ k ≡ 2 * (256 ^ k / 2)
even zero h = absurd (omega arith)
even (suc k) h = let e = grows k in omega arith

pub eight : (k : ℕ) → k ≤ 8 → 256 ^ k ≤ 18446744073709551616
eight k h = pow-le-pow_right (lit< tt) h

pub seven : (k : ℕ) → k < 8 → 256 ^ k ≤ 72057594037927936
seven k h = pow-le-pow_right (lit< tt) (let j : k ≤ 7 = omega arith in j)

pub pow-octets : (k : ℕ) → 256 ^ k ≡ 2 ^ (8 * k)
pow-octets zero = refl
pow-octets (suc k) =
    let e : 8 * suc k ≡ 8 * k + 8 = omega arith in
    grows k ∙ ap (λ (n : ℕ). n * 256) (pow-octets k) ∙ sym (ap (λ (n : ℕ). 2 ^ n) e ∙ pow-add 2 (8 * k) 8)

-- all ones of 64 bits, without those above k octets, are the largest number of these
parts-less-one : (m d n : ℕ) → 1 ≤ m → 1 ≤ d → m * d ≡ n → (n - 1) / d ≡ m - 1
parts-less-one zero d n a b e = absurd (omega arith)
parts-less-one (suc m) d n a b e =
    let p : n - 1 ≡ m * d + (d - 1) = omega (arith, e) in
    let q : m ≡ suc m - 1 = omega arith in
    ap (λ (x : ℕ). x / d) p ∙ div-mul-add m d (d - 1) (omega arith) ∙ q

pub largest_by : (k s : ℕ) → s + 8 * k ≡ 64 → 18446744073709551615 / 2 ^ s ≡ 256 ^ k - 1
largest_by k s e =
    let p : 0 < 2 ^ s = pow_pos s in
    let q = some k in
    let w : 256 ^ k * 2 ^ s ≡ 18446744073709551616 =
    ap (λ (n : ℕ). n * 2 ^ s) (pow-octets k) ∙ sym (pow-add 2 (8 * k) s) ∙ ap (λ (n : ℕ). 2 ^ n) (let j : 8 * k + s ≡ 64 = omega (arith, e) in j) in
    parts-less-one (256 ^ k) (2 ^ s) 18446744073709551616 q (omega (arith, p)) w
