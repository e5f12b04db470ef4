-- What the calls answer, case by case.
use Prim.Native.Nat.{ℕ, zero, suc, ◌+◌, ◌*◌, ◌^◌, ◌≤◌, ◌<◌}
use mathlib.Core.Path.{◌≡◌, refl, sym, ap, ◌∙◌, subst}
use mathlib.Core.List.{List, [], ◌∷◌, ◌++◌}
use native.Mathlib.Omega.{arith}
use lib.Dec.{lit<}
use lib.ListN.{length, take}
use borrow.Author.Tests.{eqb-false, le-ltb, ltb-false}
use Rattle.std.specs.Prelude.{Result}
use Rattle.space_packet.specs.declared.PusError.{PusError}
use Rattle.space_packet.specs.Answer.{Answer, gives, in_buffer, and_then}
use Rattle.space_packet.specs.Wrote.{Wrote}
use Rattle.space_packet.proofs.Answers.{gives-inj, refuse-no, refuse-gives, then-gives, gives_then}
use Rattle.param_value.specs.declared.Value.{Value}
use Rattle.param_value.specs.Octets.{Octets, number_from, number_of, octets_of, size_in, given_by}
use Rattle.param_value.specs.Values.{octets_for, value_of, pattern_of, read_value, value_octets}
use Rattle.param_value.proofs.Types.{some-octets}
use Rattle.param_value.proofs.Numbers.{read_fits}

-- ---- octets

pub octets-take : (k : ℕ) (s : List ℕ) → Octets s → Octets (take k s)
octets-take zero s o i = lit< tt
octets-take (suc k) [] o i = lit< tt
octets-take (suc k) (x ∷ s) o zero = o 0
octets-take (suc k) (x ∷ s) o (suc i) = octets-take k s (λ j. o (suc j)) i

number-below : (s : List ℕ) (a j n : ℕ) → n ≡ length s + j → Octets s → a < 256 ^ j → number_from a s < 256 ^ n
unfolding number_from
number-below [] a j n e o h = let m : j ≡ n = omega (arith, e) in subst (λ (i : ℕ). a < 256 ^ i) m h
number-below (x ∷ s) a j n e o h =
    let m : n ≡ length s + suc j = e ∙ omega arith in number-below s (a * 256 + x) (suc j) n m (λ i. o (suc i)) (read_fits a j x h (o 0))

pub number_lt : (s : List ℕ) → Octets s → number_of s < 256 ^ length s
number_lt s o = number-below s 0 0 (length s) (omega arith) o (lit< tt)

octets-snoc : (l : List ℕ) (o : ℕ) → length (l ++ (o ∷ [])) ≡ suc (length l)
octets-snoc [] o = refl
octets-snoc (x ∷ l) o = ap suc (octets-snoc l o)

pub octets_length : (k v : ℕ) → length (octets_of k v) ≡ k
unfolding octets_of
octets_length zero v = refl
octets_length (suc k) v = octets-snoc (octets_of k _) _ ∙ ap suc (octets_length k _)

-- ---- reading

module _ (ptc pfc : ℕ) (s : List ℕ) where
  pub read-gives : 1 ≤ octets_for ptc pfc → octets_for ptc pfc ≤ length s → read_value ptc pfc s ≡ gives (value_of ptc pfc (number_of (take (octets_for ptc pfc) s)))
  unfolding read_value
  read-gives n h = refuse-no _ _ _ (some-octets ptc pfc n) ∙ refuse-no _ _ _ (le-ltb (length s) (octets_for ptc pfc) h)

pub record ReadIs (ptc pfc : ℕ) (s : List ℕ) (v : Value) : Type 0 where
  pub named : 1 ≤ octets_for ptc pfc
  pub fits : octets_for ptc pfc ≤ length s
  pub is : value_of ptc pfc (number_of (take (octets_for ptc pfc) s)) ≡ v

pub read_is : (ptc pfc : ℕ) (s : List ℕ) (v : Value) → read_value ptc pfc s ≡ gives v → ReadIs ptc pfc s v
unfolding read_value
read_is ptc pfc s v e =
    let p = refuse-gives _ _ _ v e in
    let q = refuse-gives _ _ _ v p.1 in
    let z = eqb-false (octets_for ptc pfc) 0 p.0 in
    record { named = omega (arith, z); fits = ltb-false _ _ q.0; is = gives-inj _ v q.1 }

-- ---- writing

pub octets-given : (ptc pfc : ℕ) (v : Value) (n : ℕ) → pattern_of ptc pfc v ≡ gives n → value_octets ptc pfc v ≡ gives (octets_of (octets_for ptc pfc) n)
unfolding value_octets
octets-given ptc pfc v n p = gives_then _ _ n p

pub record OctetsAre (ptc pfc : ℕ) (v : Value) (l : List ℕ) : Type 0 where
  pub number : ℕ
  pub pattern : pattern_of ptc pfc v ≡ gives number
  pub is : octets_of (octets_for ptc pfc) number ≡ l

pub octets-are : (ptc pfc : ℕ) (v : Value) (l : List ℕ) → value_octets ptc pfc v ≡ gives l → OctetsAre ptc pfc v l
unfolding value_octets
octets-are ptc pfc v l e =
    let t = then-gives (pattern_of ptc pfc v) _ l e in record { number = t.0; pattern = t.1; is = gives-inj _ l t.2 }

pub wrote-given : (a : Answer (List ℕ)) (l before : List ℕ) (r : Result ℕ PusError) (after : List ℕ) → a ≡ gives l → Wrote (in_buffer (length before) (length l)) l before r after
    → Wrote (size_in a (length before)) (given_by a) before r after
unfolding size_in and_then
wrote-given a l before r after p w = subst (λ (x : Answer (List ℕ)). Wrote (size_in x (length before)) (given_by x) before r after) (sym p) w
