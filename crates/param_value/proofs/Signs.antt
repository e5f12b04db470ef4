-- Two's complement of k octets, as the machine of 64 bits computes it; and that it is one to one, exact down to the smallest.
use Prim.Native.Nat.{ℕ, suc, ◌-◌, ◌/◌, ◌^◌, ◌≤◌, ◌<◌}
use mathlib.Core.Path.{◌≡◌, refl, sym, ap, ◌∙◌}
use mathlib.Core.Bool.{Bool, true, false, not}
use native.Mathlib.Omega.{arith}
use lib.Dec.{ltb}
use lib.IntN.{ℤ, pos, negsuc}
use mir.Syntax.{w64}
use mir.Val.{to_z}
use mir.ValLaws.{to_z_pos, to_z-neg}
use borrow.Author.Tests.{lt-ltb, le-ltb, ltb-true, ltb-false, not-false}
use Rattle.space_packet.specs.Bits.{pick}
use Rattle.space_packet.specs.Answer.{gives}
use Rattle.space_packet.proofs.Answers.{refuse-no, refuse-gives, gives-inj}
use Rattle.param_value.specs.Values.{signed_of, signed_bits}
use Rattle.param_value.proofs.Powers.{some, even, eight}

-- ---- the definition's two halves

pub signed_low : (k n : ℕ) → n < 256 ^ k / 2 → signed_of k n ≡ pos n
unfolding signed_of
signed_low k n h = ap (λ (b : Bool). pick b (pos n) (negsuc (256 ^ k - suc n))) (lt-ltb n (256 ^ k / 2) h)

pub signed_high : (k n : ℕ) → 256 ^ k / 2 ≤ n → signed_of k n ≡ negsuc (256 ^ k - suc n)
unfolding signed_of
signed_high k n h = ap (λ (b : Bool). pick b (pos n) (negsuc (256 ^ k - suc n))) (le-ltb n (256 ^ k / 2) h)

-- ---- as the machine computes it

pub low_is : (k n : ℕ) → 1 ≤ k → k ≤ 8 → n ≤ (256 ^ k - 1) / 2 → to_z w64 n ≡ signed_of k n
low_is k n a b h =
    let e = even k a in
    let m = eight k b in
    let s = some k in
    let p : n < 9223372036854775808 = omega arith in to_z_pos w64 n p ∙ sym (signed_low k n (omega arith))

pub high_is : (k n : ℕ) → 1 ≤ k → k ≤ 8 → n < 256 ^ k → (256 ^ k - 1) / 2 < n → to_z w64 (18446744073709551615 - (256 ^ k - 1 - n)) ≡ signed_of k n
high_is k n a b l h =
    let e = even k a in
    let m = eight k b in
    let s = some k in
    let j : 18446744073709551615 - (256 ^ k - 1 - n) ≡ 18446744073709551616 - suc (256 ^ k - suc n) = omega arith in
    let p : 256 ^ k - suc n < 9223372036854775808 = omega arith in
    ap (to_z w64) j ∙ to_z-neg w64 (256 ^ k - suc n) p ∙ sym (signed_high k n (omega arith))

-- ---- and back: what is within the width gives its pattern

pub back_low : (k n : ℕ) → n < 256 ^ k / 2 → signed_bits k (pos n) ≡ gives n
unfolding signed_bits
back_low k n h = refuse-no _ _ _ (ap not (lt-ltb n (256 ^ k / 2) h))

pub back-high : (k m : ℕ) → m < 256 ^ k / 2 → signed_bits k (negsuc m) ≡ gives (256 ^ k - suc m)
unfolding signed_bits
back-high k m h = refuse-no _ _ _ (ap not (lt-ltb m (256 ^ k / 2) h))

-- ---- read and write invert each other

-- what is read is written as it stood
pub signed_back : (k n : ℕ) → 1 ≤ k → n < 256 ^ k → signed_bits k (signed_of k n) ≡ gives n
signed_back k n a l = by-half (ltb n (256 ^ k / 2)) refl
  where
    by-half : (b : Bool) → ltb n (256 ^ k / 2) ≡ b → signed_bits k (signed_of k n) ≡ gives n
    by-half true e = let h = ltb-true n (256 ^ k / 2) e in ap (signed_bits k) (signed_low k n h) ∙ back_low k n h
    by-half false e =
        let h = ltb-false n (256 ^ k / 2) e in
        let d = even k a in
        let j : 256 ^ k - suc (256 ^ k - suc n) ≡ n = omega arith in
        ap (signed_bits k) (signed_high k n h) ∙ back-high k (256 ^ k - suc n) (omega arith) ∙ ap gives j

-- what is written is within the width, and is read as it was
pub signed-again : (k : ℕ) (z : ℤ) (n : ℕ) → 1 ≤ k → signed_bits k z ≡ gives n → (n < 256 ^ k) × (signed_of k n ≡ z)
unfolding signed_bits
signed-again k (pos m) n a e =
    let q = refuse-gives _ _ _ n e in
    let h = ltb-true m (256 ^ k / 2) (not-false _ q.0) in
    let j : m ≡ n = gives-inj m n q.1 in
    let s = some k in (omega arith, ap (signed_of k) (sym j) ∙ signed_low k m h)
signed-again k (negsuc m) n a e =
    let q = refuse-gives _ _ _ n e in
    let h = ltb-true m (256 ^ k / 2) (not-false _ q.0) in
    let j : 256 ^ k - suc m ≡ n = gives-inj _ n q.1 in
    let s = some k in
    let d = even k a in
    let i : 256 ^ k - suc (256 ^ k - suc m) ≡ m = omega arith in
    (omega arith, ap (signed_of k) (sym j) ∙ signed_high k (256 ^ k - suc m) (omega arith) ∙ ap negsuc i)
