-- As many kinds have come as were asked for exactly when each kind asked for has come.
use Prim.Native.Nat.{ℕ, zero, suc, ◌<◌, ◌≤◌}
use mathlib.Core.Path.{◌≡◌, refl, sym, ap, ◌∙◌}
use mathlib.Core.Bool.{Bool, true, false, not, ◌&&◌, and-eq-true_iff}
use native.Mathlib.Omega.{arith}
use lib.Dec.{eqb, leb}
use lib.Count.{ones, ones_in}
use borrow.Author.Tests.{eqb-true, eqb-false, leb-true}
use Rattle.tracker.specs.Reports.{kinds_come, all_come}
use Rattle.tracker_history.specs.Answers.{each_come}

all_below : ℕ → (ℕ → Bool) → Bool
all_below zero p = true
all_below (suc n) p = p n && all_below n p

below_step : (n : ℕ) (p : ℕ → Bool) (i : ℕ) (b : Bool) → eqb i n ≡ b → p n ≡ true → (i < n → p i ≡ true) → i < suc n → p i ≡ true
below_step n p i true e q k h = ap p (eqb-true i n e) ∙ q
below_step n p i false e q k h = let d = eqb-false i n e in k (omega arith)

below_at : (n : ℕ) (p : ℕ → Bool) (i : ℕ) → i < n → all_below n p ≡ true → p i ≡ true
unfolding all_below
below_at zero p i h e = absurd (omega arith)
below_at (suc n) p i h e =
    let q = (and-eq-true_iff (p n) (all_below n p)).0 e in
    below_step n p i (eqb i n) refl q.0 (λ k. below_at n p i k q.1) h

pub kinds-fit : (asked : ℕ) → asked < 16 → kinds_come asked true true true ≤ ones asked
unfolding all_below ones ones_in
kinds-fit asked h = leb-true _ _ (below_at 16 (λ (n : ℕ). leb (kinds_come n true true true) (ones n)) asked h refl)

same : Bool → Bool → Bool
same true b = b
same false b = not b

same-is : (a b : Bool) → same a b ≡ true → a ≡ b
unfolding same
same-is true b e = sym e
same-is false true e = e
same-is false false e = refl

pub all-each : (asked : ℕ) (a s p : Bool) → asked < 16 → all_come asked a s p ≡ each_come asked a s p
unfolding all_below ones ones_in same
all-each asked true true true h = same-is _ _ (below_at 16 (λ (n : ℕ). same (all_come n true true true) (each_come n true true true)) asked h refl)
all-each asked true true false h = same-is _ _ (below_at 16 (λ (n : ℕ). same (all_come n true true false) (each_come n true true false)) asked h refl)
all-each asked true false true h = same-is _ _ (below_at 16 (λ (n : ℕ). same (all_come n true false true) (each_come n true false true)) asked h refl)
all-each asked true false false h = same-is _ _ (below_at 16 (λ (n : ℕ). same (all_come n true false false) (each_come n true false false)) asked h refl)
all-each asked false true true h = same-is _ _ (below_at 16 (λ (n : ℕ). same (all_come n false true true) (each_come n false true true)) asked h refl)
all-each asked false true false h = same-is _ _ (below_at 16 (λ (n : ℕ). same (all_come n false true false) (each_come n false true false)) asked h refl)
all-each asked false false true h = same-is _ _ (below_at 16 (λ (n : ℕ). same (all_come n false false true) (each_come n false false true)) asked h refl)
all-each asked false false false h = same-is _ _ (below_at 16 (λ (n : ℕ). same (all_come n false false false) (each_come n false false false)) asked h refl)
