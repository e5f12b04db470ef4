-- What the forms ask: a form that is taken has a source ID of whole octets, at most two, and at most four spare octets; and the source
-- ID by its octets.
use Prim.Native.Nat.{ℕ, zero, suc, ◌+◌, ◌*◌, ◌/◌, ◌%◌, ◌≤◌}
use mathlib.Core.Path.{◌≡◌, refl, ap, ◌∙◌}
use mathlib.Core.Logic.{◌↔◌}
use mathlib.Core.Bool.{Bool, true, false, not, ◌||◌}
use mathlib.Core.List.{List, [], ◌∷◌, ◌++◌}
use native.Mathlib.Omega.{arith}
use native.Mathlib.Nat.{mod-eq_of_lt}
use lib.Dec.{eqb}
use lib.ListN.{length, get_or, take, drop}
use lib.Seq.{drop-cons}
use borrow.Author.Tests.{eqb-true, not-false, le-ltb, ltb-false}
use Rattle.space_packet.specs.Bits.{word}
use Rattle.space_packet.specs.Answer.{gives}
use Rattle.space_packet.proofs.Answers.{refuse-no, refuse-gives, range-passes}
use Rattle.ecss.specs.Frame.{Octets}
use Rattle.tc_header.specs.Form.{form_spare, form_c, is_width, form_check, source_len, source_octets, source_at, SourceFits, source_check}
use Rattle.tc_header.specs.declared.TcForm.{TcForm}

-- ---- the form

by-either : {P : Type 0} (a b : Bool) → (a || b) ≡ true → (a ≡ true → P) → (b ≡ true → P) → P
by-either true b e p q = p refl
by-either false b e p q = q e

-- a form that is taken
pub record Whole (f : TcForm) : Type 0 where
  pub whole : f.source_width ≡ 8 * source_len f
  pub at_most_two : source_len f ≤ 2
  pub at-most-four : f.spare_len ≤ 4

module _ (f : TcForm) where
  pub taken : form_check f ≡ gives tt → Whole f
  unfolding form_check
  taken p =
      let w = f.source_width in
      let q = refuse-gives _ _ _ _ p in
      let n : f.spare_len ≤ 4 = ltb-false 4 _ (refuse-gives _ _ _ _ q.1).0 in
      let of : (k : ℕ) → k ≤ 2 → eqb w (8 * k) ≡ true → Whole f =
      λ k h e. let i = eqb-true w (8 * k) e in record { whole = omega (arith, i); at_most_two = omega (arith, i, h); at-most-four = n } in
      by-either (eqb w 16) _ (not-false _ q.0) (of 2 (omega arith))
      (λ r. by-either (eqb w 8) (eqb w 0) r (of 1 (omega arith)) (of 0 (omega arith)))

  pub form-passes : is_width f.source_width ≡ true → f.spare_len ≤ 4 → form_check f ≡ gives tt
  unfolding form_check
  form-passes e h = refuse-no _ _ _ (ap not e) ∙ refuse-no _ _ _ (le-ltb 4 _ h)

-- PUS C is taken, with up to four spare octets
pub taken-spare : (n : ℕ) → n ≤ 4 → form_check (form_spare n) ≡ gives tt
taken-spare n h = form-passes (form_spare n) refl h

pub taken-c : form_check form_c ≡ gives tt
taken-c = taken-spare 0 (omega arith)

-- ---- the source ID

pub source-size : (n v : ℕ) → n ≤ 2 → length (source_octets n v) ≡ n
source-size zero v h = refl
source-size (suc zero) v h = refl
source-size (suc (suc zero)) v h = refl
source-size (suc (suc (suc n))) v h = absurd (omega arith)

-- behind three octets it reads as itself, with anything after it
pub source-read : (n v a b c : ℕ) (rest : List ℕ) → n ≤ 2 → SourceFits n v → source_at n (a ∷ b ∷ c ∷ source_octets n v ++ rest) ≡ v
source-read zero v a b c rest h f = omega arith
source-read (suc zero) v a b c rest h f = mod-eq_of_lt (omega arith)
source-read (suc (suc zero)) v a b c rest h f = omega arith
source-read (suc (suc (suc n))) v a b c rest h f = absurd (omega arith)

-- what is read is within its width
pub source-within : (n : ℕ) (l : List ℕ) → Octets l → SourceFits n (source_at n l)
source-within zero l o = omega arith
source-within (suc zero) l o = let b = o 3 in omega arith
source-within (suc (suc n)) l o = tt

-- and writes back as the octets that it was read from
pub source-back : (n : ℕ) (l : List ℕ) → n ≤ 2 → Octets l → 3 + n ≤ length l → source_octets n (source_at n l) ≡ take n (drop 3 l)
source-back zero l h o e = refl
source-back (suc zero) l h o e =
    let b = o 3 in
    let m : get_or l 3 0 % 256 ≡ get_or l 3 0 = omega arith in
    rw (drop-cons l 3 0 (omega arith)) (λ i. m i ∷ [])
source-back (suc (suc zero)) l h o e =
    let a = o 3 in
    let b = o 4 in
    let p : word l 3 / 256 ≡ get_or l 3 0 = omega arith in
    let q : word l 3 % 256 ≡ get_or l 4 0 = omega arith in
    rw (drop-cons l 3 0 (omega arith), drop-cons l 4 0 (omega arith)) (λ i. p i ∷ q i ∷ [])
source-back (suc (suc (suc n))) l h o e = absurd (omega arith)

-- it passes where it is within its width, and only there
pub source-passes : (n v : ℕ) → (source_check n v ≡ gives tt) ↔ SourceFits n v
source-passes zero v = range-passes 5 0 v
source-passes (suc zero) v = range-passes 5 255 v
source-passes (suc (suc n)) v = (λ p. tt, λ h. refl)
