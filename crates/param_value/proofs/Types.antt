-- The types that are named: their octets, and what a value of each is.
use Prim.Native.Nat.{ℕ, ◌≤◌}
use mathlib.Core.Path.{◌≡◌, refl, sym, ap, ap₂, ◌∙◌, subst}
use mathlib.Core.Bool.{Bool, true, false, not}
use mathlib.Core.List.{[]}
use native.Mathlib.Omega.{arith}
use lib.Dec.{eqb, lit≤}
use borrow.Author.Tests.{eq-eqb, ne_eqb, eqb-true, eqb-false, not-false}
use Rattle.space_packet.specs.Bits.{pick}
use Rattle.space_packet.specs.Answer.{refusal, gives, refuses}
use Rattle.space_packet.proofs.Answers.{refuse-no, refuse-yes, refuse-gives}
use Rattle.param_value.specs.declared.Value.{Value}
use Rattle.param_value.specs.declared.Value.TheVariants.{Unsigned, Signed}
use Rattle.param_value.specs.Values.{int_octets, real_octets, octets_for, signed_of, single_of, double_of, real_of, value_of, kind_is, bits_in, pattern_of}

within : (b : Bool) (x y : ℕ) → x ≤ 8 → y ≤ 8 → pick b x y ≤ 8
within true x y h k = h
within false x y h k = k

int_le : (pfc : ℕ) → int_octets pfc ≤ 8
int_le pfc =
    within (eqb pfc 4) 1 _ (lit≤ tt) (within (eqb pfc 12) 2 _ (lit≤ tt) (within (eqb pfc 13) 3 _ (lit≤ tt)
    (within (eqb pfc 14) 4 _ (lit≤ tt) (within (eqb pfc 15) 6 _ (lit≤ tt) (within (eqb pfc 16) 8 0 (lit≤ tt) (lit≤ tt))))))

real-le : (pfc : ℕ) → real_octets pfc ≤ 8
real-le pfc = within (eqb pfc 1) 4 _ (lit≤ tt) (within (eqb pfc 2) 8 0 (lit≤ tt) (lit≤ tt))

pub octets_le : (ptc pfc : ℕ) → octets_for ptc pfc ≤ 8
unfolding octets_for
octets_le ptc pfc =
    within (eqb ptc 3) _ _ (int_le pfc) (within (eqb ptc 4) _ _ (int_le pfc) (within (eqb ptc 5) _ 0 (real-le pfc) (lit≤ tt)))

-- a named type that is no integer is a real
pub record Real (ptc pfc : ℕ) : Type 0 where
  pub ptc-is : ptc ≡ 5
  pub octets-are : octets_for ptc pfc ≡ real_octets pfc

pub is_real : (ptc pfc : ℕ) → (ptc ≡ 3 → ⊥) → (ptc ≡ 4 → ⊥) → 1 ≤ octets_for ptc pfc → Real ptc pfc
unfolding octets_for
is_real ptc pfc a b h = by-test (eqb ptc 5) refl (subst (λ (n : ℕ). 1 ≤ n) known h)
  where
    known : octets_for ptc pfc ≡ pick (eqb ptc 5) (real_octets pfc) 0
    known = ap₂ (λ (x y : Bool). pick x (int_octets pfc) (pick y (int_octets pfc) (pick (eqb ptc 5) (real_octets pfc) 0))) (ne_eqb ptc 3 a) (ne_eqb ptc 4 b)

    by-test : (t : Bool) → eqb ptc 5 ≡ t → 1 ≤ pick (eqb ptc 5) (real_octets pfc) 0 → Real ptc pfc
    by-test true e k = record { ptc-is = eqb-true ptc 5 e; octets-are = known ∙ ap (λ (t : Bool). pick t (real_octets pfc) 0) e }
    by-test false e k = absurd (let j = subst (λ (t : Bool). 1 ≤ pick t (real_octets pfc) 0) e k in omega (arith, j))

pub some-octets : (ptc pfc : ℕ) → 1 ≤ octets_for ptc pfc → eqb (octets_for ptc pfc) 0 ≡ false
some-octets ptc pfc h = ne_eqb (octets_for ptc pfc) 0 (λ z. omega (arith, z, h))

-- ---- the values

pub value-unsigned : (ptc pfc n : ℕ) → ptc ≡ 3 → value_of ptc pfc n ≡ Unsigned n
unfolding value_of
value-unsigned ptc pfc n e = ap (λ (t : ℕ). value_of t pfc n) e

pub value-signed : (ptc pfc n : ℕ) → ptc ≡ 4 → value_of ptc pfc n ≡ Signed (signed_of (octets_for ptc pfc) n)
unfolding value_of
value-signed ptc pfc n e = ap (λ (t : ℕ). value_of t pfc n) e ∙ ap (λ (t : ℕ). Signed (signed_of (octets_for t pfc) n)) (sym e)

pub value-real : (ptc pfc n : ℕ) → (ptc ≡ 3 → ⊥) → (ptc ≡ 4 → ⊥) → value_of ptc pfc n ≡ real_of pfc n
unfolding value_of
value-real ptc pfc n a b =
    ap₂ (λ (x y : Bool). pick x (Unsigned n) (pick y (Signed (signed_of (octets_for ptc pfc) n)) (real_of pfc n))) (ne_eqb ptc 3 a) (ne_eqb ptc 4 b)

pub real-single : (pfc n : ℕ) → pfc ≡ 1 → real_of pfc n ≡ single_of n
real-single pfc n e = ap (λ (t : Bool). pick t (single_of n) (double_of n)) (eq-eqb pfc 1 e)

pub real-double : (pfc n : ℕ) → (pfc ≡ 1 → ⊥) → real_of pfc n ≡ double_of n
real-double pfc n e = ap (λ (t : Bool). pick t (single_of n) (double_of n)) (ne_eqb pfc 1 e)

-- ---- the patterns

pub pattern-other : (ptc pfc : ℕ) (v : Value) → 1 ≤ octets_for ptc pfc → kind_is ptc pfc v ≡ false → pattern_of ptc pfc v ≡ refuses (refusal 24 [])
unfolding pattern_of
pattern-other ptc pfc v h e = refuse-no _ _ _ (some-octets ptc pfc h) ∙ refuse-yes _ _ _ (ap not e)

pub pattern-known : (ptc pfc : ℕ) (v : Value) → 1 ≤ octets_for ptc pfc → kind_is ptc pfc v ≡ true → pattern_of ptc pfc v ≡ bits_in (octets_for ptc pfc) v
unfolding pattern_of
pattern-known ptc pfc v h e = refuse-no _ _ _ (some-octets ptc pfc h) ∙ refuse-no _ _ _ (ap not e)

pub record PatternIs (ptc pfc : ℕ) (v : Value) (n : ℕ) : Type 0 where
  pub named : 1 ≤ octets_for ptc pfc
  pub kind : kind_is ptc pfc v ≡ true
  pub bits : bits_in (octets_for ptc pfc) v ≡ gives n

pub pattern-is : (ptc pfc : ℕ) (v : Value) (n : ℕ) → pattern_of ptc pfc v ≡ gives n → PatternIs ptc pfc v n
unfolding pattern_of
pattern-is ptc pfc v n e =
    let p = refuse-gives _ _ _ n e in
    let q = refuse-gives _ _ _ n p.1 in
    let z = eqb-false (octets_for ptc pfc) 0 p.0 in
    record { named = omega (arith, z); kind = not-false _ q.0; bits = q.1 }
