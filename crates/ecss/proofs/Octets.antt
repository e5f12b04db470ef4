-- Octets compared: they are the same exactly where the lists are equal.
use lib.Pointwise.{pointwise}
use Prim.Native.Nat.{ℕ}
use mathlib.Core.Path.{◌≡◌, refl, sym, ap, ap₂, ◌∙◌}
use mathlib.Core.Logic.{◌↔◌}
use mathlib.Core.Bool.{Bool, true, false, false≢true, ◌&&◌, and-eq-true_iff}
use mathlib.Core.List.{List, [], ◌∷◌}
use lib.Dec.{eqb}
use borrow.Author.Tests.{eq-eqb, eqb-true}
use Rattle.space_packet.specs.Answer.{Answer, gives, refuses}
use Rattle.ecss.specs.Frame.{same_octets, was_read, same_reading}

same-equal : (s t : List ℕ) → same_octets s t ≡ true → s ≡ t
unfolding same_octets
same-equal [] [] p = refl
same-equal [] (y ∷ t) p = absurd (false≢true p)
same-equal (x ∷ s) [] p = absurd (false≢true p)
same-equal (x ∷ s) (y ∷ t) p = let q = (and-eq-true_iff (eqb x y) (same_octets s t)).0 p in ap₂ ◌∷◌ (eqb-true x y q.0) (same-equal s t q.1)

same_refl : (s : List ℕ) → same_octets s s ≡ true
unfolding same_octets
same_refl [] = refl
same_refl (x ∷ s) = ap₂ ◌&&◌ (eq-eqb x x refl) (same_refl s)

pub same-octets : (s t : List ℕ) → (same_octets s t ≡ true) ↔ (s ≡ t)
same-octets s t = (same-equal s t, λ e. ap (same_octets s) (sym e) ∙ same_refl s)

not_same : (b : Bool) → (b ≡ true → ⊥) → b ≡ false
not_same true h = absurd (h refl)
not_same false h = refl

-- ---- packets that were read, compared

is_read : {A : Type 0} (a : Answer A) → (was_read a ≡ true) ↔ ((r : A) × (a ≡ gives r))
is_read (refuses e) = (λ p. absurd (false≢true p), λ k. ap was_read k.1)
is_read (gives r) = (λ p. (r, refl), λ k. refl)

-- what two readers that are equal read
pub record ReadAlike {A : Type 0} (a c : Answer A) (s t : List ℕ) : Type 0 where
  pub one : (r : A) × (a ≡ gives r)
  pub other : (r : A) × (c ≡ gives r)
  pub octets-equal : s ≡ t

-- by their raw octets
pub same_read : {A : Type 0} (a c : Answer A) (s t : List ℕ) → (same_reading a c s t ≡ true) ↔ ReadAlike a c s t
same_read a c s t = (
  λ p.
      let h = (and-eq-true_iff (was_read a) _).0 p in
      let k = (and-eq-true_iff (was_read c) _).0 h.1 in
      record { one = (is_read a).0 h.0; other = (is_read c).0 k.0; octets-equal = (same-octets s t).0 k.1 },
  λ k.
      ap₂ (λ (x y : Bool). x && (y && same_octets s t)) ((is_read a).1 k.one) ((is_read c).1 k.other)
      ∙ (same-octets s t).1 k.octets-equal,
)

-- octets that `==` compares are compared in pairs
pub pairwise-same : (s t : List ℕ) → pointwise eqb s t ≡ same_octets s t
unfolding same_octets
pairwise-same [] [] = refl
pairwise-same [] (y ∷ t) = refl
pairwise-same (x ∷ s) [] = refl
pairwise-same (x ∷ s) (y ∷ t) = ap (λ r. eqb x y && r) (pairwise-same s t)
