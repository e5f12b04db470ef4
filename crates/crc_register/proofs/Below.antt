-- A test that antt computes at every number below a bound.
use mathlib.Core.Path.{◌≡◌, subst, sym}
use mathlib.Core.Bool.{Bool, true, false}
use Prim.Native.Nat.{ℕ, zero, suc, ◌<◌}
use native.Mathlib.Nat.{not-suc-le-zero, le_of_suc-le-suc}
use native.Mathlib.Decide.{ℕ_discrete}
use lib.Dec.{T, eqb, eqb→eq}
use lib.Arith.{lt_of_le-ne}

abbrev pub both : Bool → Bool → Bool
both true b = b
both false b = false

pub left : (a b : Bool) → T (both a b) → T a
left true b t = tt
left false b t = t

pub right : (a b : Bool) → T (both a b) → T b
right true b t = t
right false b t = absurd t

abbrev pub all : (ℕ → Bool) → ℕ → Bool
all f zero = true
all f (suc n) = both (f n) (all f n)

pick : (f : ℕ → Bool) (n k : ℕ) → T (f n) → (k < n → T (f k)) → k < suc n → Dec (k ≡ n) → T (f k)
pick f n k t rest h (yes e) = subst (λ (m : ℕ). T (f m)) (sym e) t
pick f n k t rest h (no ne) = rest (lt_of_le-ne (le_of_suc-le-suc h) ne)

pub below : (f : ℕ → Bool) (n : ℕ) → T (all f n) → (k : ℕ) → k < n → T (f k)
below f zero t k h = absurd (not-suc-le-zero h)
below f (suc n) t k h =
    pick f n k (left (f n) (all f n) t) (below f n (right (f n) (all f n) t) k) h (ℕ_discrete k n)

-- two functions that are equal by computation at every number below a bound
pub same-below : (f g : ℕ → ℕ) (n : ℕ) → T (all (λ k. eqb (f k) (g k)) n) → (k : ℕ) → k < n → f k ≡ g k
same-below f g n t k h = eqb→eq (f k) (g k) (below (λ m. eqb (f m) (g m)) n t k h)
