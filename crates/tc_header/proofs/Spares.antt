-- The spare octets: zeros that are written, read over, and asked for.
use Prim.Native.Nat.{ℕ, zero, suc, ◌+◌}
use mathlib.Core.Path.{◌≡◌, refl, sym, ap, ap₂, ◌∙◌}
use mathlib.Core.Bool.{Bool, true, not, ◌&&◌, and-eq-true_iff}
use mathlib.Core.List.{List, [], ◌∷◌, ◌++◌}
use native.Mathlib.Omega.{arith}
use lib.Dec.{eqb}
use lib.ListN.{length, take, drop, replicate, length-replicate, length-drop}
use lib.Seq.{take_all, drop_at}
use borrow.Author.Tests.{eqb-true, not-false}
use Rattle.std.specs.List.{list_all}
use Rattle.space_packet.specs.Answer.{Numbers, gives, refuses}
use Rattle.space_packet.proofs.Answers.{refuse-no, refuse-gives, holds-if, held}
use Rattle.ecss.specs.Kind.{NotFour}
use Rattle.tc_header.specs.Form.{spare_at, spare_of, all_zero, spare_rule}
use Rattle.tc_header.specs.declared.TcForm.{TcForm}

-- ---- zeros

zeros-zero : (n : ℕ) → all_zero (replicate n 0) ≡ true
unfolding all_zero
zeros-zero zero = refl
zeros-zero (suc n) = zeros-zero n

zero-zeros : (l : List ℕ) → all_zero l ≡ true → replicate (length l) 0 ≡ l
unfolding all_zero
zero-zeros [] h = refl
zero-zeros (x ∷ l) h =
    let p = (and-eq-true_iff (eqb x 0) (all_zero l)).0 h in ap₂ ◌∷◌ (sym (eqb-true x 0 p.0)) (zero-zeros l p.1)

-- the test that every octet passes
pub every-zero : (l : List ℕ) → list_all (λ (o : ℕ). eqb o 0) l ≡ all_zero l
unfolding all_zero
every-zero [] = refl
every-zero (x ∷ l) = ap (λ (b : Bool). eqb x 0 && b) (every-zero l)

-- ---- the spare octets of a form

module _ (f : TcForm) where
  pub spares-zero : (l : List ℕ) → all_zero (spare_of f l) ≡ true → gives tt ≡ spare_rule f l
  spares-zero l e = sym (refuse-no _ _ _ (ap not e))

  -- what is written behind the octets t passes
  pub spares-pass : (t : List ℕ) → length t ≡ spare_at f → spare_rule f (t ++ replicate f.spare_len 0) ≡ gives tt
  spares-pass t e =
      let n = f.spare_len in
      let z : spare_of f (t ++ replicate n 0) ≡ replicate n 0 =
      ap (take n) (drop_at t (replicate n 0) (spare_at f) e) ∙ take_all n (replicate n 0) (let k = length-replicate {A = ℕ} n 0 in omega arith) in
      sym (spares-zero (t ++ replicate n 0) (ap all_zero z ∙ zeros-zero n))

  -- and what passes, of a header's octets, is what is written
  pub spares-back : (l : List ℕ) → length l ≡ spare_at f + f.spare_len → spare_rule f l ≡ gives tt → replicate f.spare_len 0 ≡ drop (spare_at f) l
  spares-back l e p =
      let rest = drop (spare_at f) l in
      let d : length rest ≡ f.spare_len = length-drop (spare_at f) l ∙ omega arith in
      let t : take f.spare_len rest ≡ rest = take_all f.spare_len rest (omega arith) in
      ap (λ (n : ℕ). replicate n 0) (sym d) ∙ zero-zeros rest (ap all_zero (sym t) ∙ not-false _ (refuse-gives _ _ _ tt p).0)

  -- with none, the strict checks ask nothing more
  pub no-spare : (l : List ℕ) → f.spare_len ≡ 0 → spare_rule f l ≡ gives tt
  unfolding all_zero
  no-spare l e = sym (spares-zero l (ap (λ (n : ℕ). all_zero (take n (drop (spare_at f) l))) e))

  pub rule-not-four : (l : List ℕ) (e : Numbers) → spare_rule f l ≡ refuses e → NotFour e
  rule-not-four l e p =
      held (λ _. Unit {0}) NotFour (spare_rule f l) e (holds-if _ NotFour (not (all_zero (spare_of f l))) _ _ (λ _ z. omega (arith, z)) (λ _. tt)) p
