-- Lent parts of a buffer: what a copy and a checksum leave of the whole.
use Prim.Native.Nat.{ℕ, zero, suc, ◌+◌, ◌-◌, ◌≤◌}
use mathlib.Core.Bool.{true}
use mathlib.Core.Path.{◌≡◌, refl, sym, ap, ap₂, ◌∙◌}
use mathlib.Core.List.{List, [], ◌∷◌, ◌++◌, append_assoc}
use native.Mathlib.Omega.{arith}
use lib.ListN.{length, take, drop, take-append-drop}
use lib.Seq.{drop-drop}
use borrow.Rule.Slice.PartMut.{put_mid}
use Rattle.ecss.specs.Frame.{sealed}
use Rattle.ecss_write.proofs.Totals.{WriteIs}

drop-parts : (n k : ℕ) (z : List ℕ) → n ≤ k → drop n (take k z) ++ drop k z ≡ drop n z
drop-parts zero k z h = take-append-drop k z
drop-parts (suc n) zero z h = absurd (omega arith)
drop-parts (suc n) (suc k) [] h = refl
drop-parts (suc n) (suc k) (x ∷ z) h = drop-parts n k z (omega arith)

-- a middle of k octets, filled with d from its start, and back
pub mid-filled : (a k : ℕ) (m d y : List ℕ) → length d ≤ k → y ≡ d ++ drop (length d) (take k (drop a m)) → put_mid a k m y ≡ take a m ++ d ++ drop (a + length d) m
mid-filled a k m d y h p =
    ap (λ (z : List ℕ). take a m ++ (z ++ drop k (drop a m))) p
    ∙ ap (λ (z : List ℕ). take a m ++ z)
    (append_assoc d (drop (length d) (take k (drop a m))) (drop k (drop a m))
    ∙ ap (λ (z : List ℕ). d ++ z) (drop-parts (length d) k (drop a m) h ∙ drop-drop (length d) a m))
    ∙ sym (append_assoc (take a m) d (drop (a + length d) m))

-- the checksum behind the data
pub seal-left : (start n l t : ℕ) (m : List ℕ) → WriteIs start true n l t
    → sealed (take (t - 2) m) ++ drop (t - 2 + 2) m ≡ sealed (take (start + n) m) ++ drop t m
seal-left start n l t m w =
    let e : t ≡ start + n + 2 = w.is in
    let p : t - 2 ≡ start + n = omega arith in
    let q : t - 2 + 2 ≡ t = omega arith in
    ap₂ (λ (x y : ℕ). sealed (take x m) ++ drop y m) p q
