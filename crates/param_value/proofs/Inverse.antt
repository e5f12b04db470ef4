-- Reading and writing a value invert each other, for each type that is named.
use Prim.Native.Nat.{ℕ, ◌*◌, ◌^◌, ◌≤◌, ◌<◌}
use mathlib.Core.Path.{◌≡◌, refl, sym, ap, ap₂, ◌∙◌, subst}
use mathlib.Core.Bool.{Bool, true, false, not, ◌&&◌, and-eq-true_iff}
use mathlib.Core.List.{[]}
use native.Mathlib.Omega.{arith}
use lib.Dec.{T, eqb}
use lib.Ieee.{Float, Format, binary32, binary64, top, is_nan, fits, of_bits, to_bits, nan_bits}
use lib.Ieee.Bits.{to_bits-lt}
use borrow.Author.Tests.{eq-eqb, eqb-true, eqb-false, lt-ltb, ltb-true, not-false}
use Rattle.space_packet.specs.Bits.{pick}
use Rattle.space_packet.specs.Answer.{Answer, refusal, gives, refuse_if}
use Rattle.space_packet.proofs.Answers.{refuse-no, refuse-gives, gives-inj}
use Rattle.param_value.specs.declared.Value.{Value}
use Rattle.param_value.specs.declared.Value.TheVariants.{Unsigned, Signed, Single, SingleNan, Double, DoubleNan}
use Rattle.param_value.specs.Values.{Held, octets_for, real_octets, real_of, value_of, pattern_of}
use Rattle.param_value.proofs.Signs.{signed_back, signed-again}
use Rattle.param_value.proofs.Reals.{number-kept, pattern-kept, number-pattern, pattern_number}
use Rattle.param_value.proofs.Types.{is_real, value-unsigned, value-signed, value-real, real-single, real-double, pattern-known, PatternIs, pattern-is}

-- ---- a real, over its format: W has the numbers, N the NaNs

module _ (f : Format) (W : Float → Value) (N : ℕ → Value) where
  abbrev real_is : ℕ → Value
  real_is n = pick (nan_bits f n) (N n) (W (of_bits f n))

  real-nan : (n : ℕ) → nan_bits f n ≡ true → real_is n ≡ N n
  real-nan n e = ap (λ (b : Bool). pick b (N n) (W (of_bits f n))) e

  real-number : (n : ℕ) → nan_bits f n ≡ false → real_is n ≡ W (of_bits f n)
  real-number n e = ap (λ (b : Bool). pick b (N n) (W (of_bits f n))) e

  real-back : (bits : Value → Answer ℕ) → ((n : ℕ) → bits (N n) ≡ refuse_if (not (nan_bits f n)) (refusal 24 []) (gives n))
      → ((x : Float) → bits (W x) ≡ refuse_if (is_nan x) (refusal 24 []) (gives (to_bits f x))) → (n : ℕ) → n < 2 * top f → bits (real_is n) ≡ gives n
  real-back bits a b n h = by-test (nan_bits f n) refl
    where
      by-test : (t : Bool) → nan_bits f n ≡ t → bits (real_is n) ≡ gives n
      by-test true e = ap bits (real-nan n e) ∙ a n ∙ refuse-no _ _ _ (ap not e)
      by-test false e = ap bits (real-number n e) ∙ b (of_bits f n) ∙ refuse-no _ _ _ (pattern_number f n e) ∙ ap gives (pattern-kept f n h e)

  nan-again : (b n : ℕ) → b < 2 * top f → refuse_if (not (nan_bits f b)) (refusal 24 []) (gives b) ≡ gives n → (n < 2 * top f) × (real_is n ≡ N b)
  nan-again b n h e =
      let q = refuse-gives _ _ _ n e in
      let j : b ≡ n = gives-inj b n q.1 in (
        subst (λ (m : ℕ). m < 2 * top f) j h,
        subst (λ (m : ℕ). real_is m ≡ N b) j (real-nan b (not-false _ q.0)),
      )

  number-again : (x : Float) (n : ℕ) → T (fits f x) → refuse_if (is_nan x) (refusal 24 []) (gives (to_bits f x)) ≡ gives n → (n < 2 * top f) × (real_is n ≡ W x)
  number-again x n h e =
      let q = refuse-gives _ _ _ n e in
      let j : to_bits f x ≡ n = gives-inj (to_bits f x) n q.1 in (
        subst (λ (m : ℕ). m < 2 * top f) j (to_bits-lt f x h),
        subst (λ (m : ℕ). real_is m ≡ W x) j (real-number (to_bits f x) (number-pattern f x h q.0) ∙ ap W (number-kept f x h)),
      )

-- ---- the two formats

-- the type is the real of format f
record IsFormat (ptc pfc : ℕ) (f : Format) (W : Float → Value) (N : ℕ → Value) : Type 0 where
  numbers : 2 * top f ≡ 256 ^ octets_for ptc pfc
  value : (n : ℕ) → value_of ptc pfc n ≡ real_is f W N n

differ : (a b c : ℕ) → a ≡ b → (b ≡ c → ⊥) → a ≡ c → ⊥
differ a b c e f g = f (sym e ∙ g)

real-octets : (ptc pfc k : ℕ) → ptc ≡ 5 → pfc ≡ k → octets_for ptc pfc ≡ real_octets k
unfolding octets_for
real-octets ptc pfc k e f = ap₂ octets_for e f

real-value : (ptc pfc n : ℕ) → ptc ≡ 5 → value_of ptc pfc n ≡ real_of pfc n
real-value ptc pfc n e = value-real ptc pfc n (differ ptc 5 3 e (λ z. omega (arith, z))) (differ ptc 5 4 e (λ z. omega (arith, z)))

is-single : (ptc pfc : ℕ) → eqb ptc 5 && eqb pfc 1 ≡ true → IsFormat ptc pfc binary32 Single SingleNan
is-single ptc pfc e =
    let k = (and-eq-true_iff _ _).0 e in
    let p = eqb-true ptc 5 k.0 in
    let f = eqb-true pfc 1 k.1 in
    record { numbers = ap (λ (i : ℕ). 256 ^ i) (sym (real-octets ptc pfc 1 p f)); value = λ n. real-value ptc pfc n p ∙ real-single pfc n f }

is-double : (ptc pfc : ℕ) → eqb ptc 5 && eqb pfc 2 ≡ true → IsFormat ptc pfc binary64 Double DoubleNan
is-double ptc pfc e =
    let k = (and-eq-true_iff _ _).0 e in
    let p = eqb-true ptc 5 k.0 in
    let f = eqb-true pfc 2 k.1 in
    record {
      numbers = ap (λ (i : ℕ). 256 ^ i) (sym (real-octets ptc pfc 2 p f));
      value = λ n. real-value ptc pfc n p ∙ real-double pfc n (differ pfc 2 1 f (λ z. omega (arith, z)));
    }

-- ---- what is read is written as it stood

format_back : (ptc pfc : ℕ) (f : Format) (W : Float → Value) (N : ℕ → Value) (n : ℕ) → IsFormat ptc pfc f W N → n < 256 ^ octets_for ptc pfc
    → ((i : ℕ) → pattern_of ptc pfc (N i) ≡ refuse_if (not (nan_bits f i)) (refusal 24 []) (gives i))
    → ((x : Float) → pattern_of ptc pfc (W x) ≡ refuse_if (is_nan x) (refusal 24 []) (gives (to_bits f x))) → pattern_of ptc pfc (value_of ptc pfc n) ≡ gives n
format_back ptc pfc f W N n a l b c =
    ap (pattern_of ptc pfc) (a.value n) ∙ real-back f W N (pattern_of ptc pfc) b c n (subst (λ (j : ℕ). n < j) (sym a.numbers) l)

real-back-in : (ptc pfc n : ℕ) → ptc ≡ 5 → octets_for ptc pfc ≡ real_octets pfc → 1 ≤ octets_for ptc pfc → n < 256 ^ octets_for ptc pfc → pattern_of ptc pfc (value_of ptc pfc n) ≡ gives n
real-back-in ptc pfc n c o h l = by_one (eqb pfc 1) refl
  where
    five : eqb ptc 5 ≡ true
    five = eq-eqb ptc 5 c

    by_two : (t : Bool) → eqb pfc 1 ≡ false → eqb pfc 2 ≡ t → pattern_of ptc pfc (value_of ptc pfc n) ≡ gives n
    by_two true d e =
        let w : eqb ptc 5 && eqb pfc 2 ≡ true = ap₂ ◌&&◌ five e in
        format_back ptc pfc binary64 Double DoubleNan n (is-double ptc pfc w) l (λ i. pattern-known ptc pfc (DoubleNan i) h w) (λ x. pattern-known ptc pfc (Double x) h w)
    by_two false d e = absurd (let k : octets_for ptc pfc ≡ 0 = o ∙ ap₂ (λ (x y : Bool). pick x 4 (pick y 8 0)) d e in omega (arith, k, h))

    by_one : (t : Bool) → eqb pfc 1 ≡ t → pattern_of ptc pfc (value_of ptc pfc n) ≡ gives n
    by_one true e =
        let w : eqb ptc 5 && eqb pfc 1 ≡ true = ap₂ ◌&&◌ five e in
        format_back ptc pfc binary32 Single SingleNan n (is-single ptc pfc w) l (λ i. pattern-known ptc pfc (SingleNan i) h w) (λ x. pattern-known ptc pfc (Single x) h w)
    by_one false e = by_two (eqb pfc 2) e refl

pub value-back : (ptc pfc n : ℕ) → 1 ≤ octets_for ptc pfc → n < 256 ^ octets_for ptc pfc → pattern_of ptc pfc (value_of ptc pfc n) ≡ gives n
value-back ptc pfc n h l = by_three (eqb ptc 3) refl
  where
    by-four : (t : Bool) → (ptc ≡ 3 → ⊥) → eqb ptc 4 ≡ t → pattern_of ptc pfc (value_of ptc pfc n) ≡ gives n
    by-four true d e =
        ap (pattern_of ptc pfc) (value-signed ptc pfc n (eqb-true ptc 4 e)) ∙ pattern-known ptc pfc (Signed _) h e ∙ signed_back (octets_for ptc pfc) n h l
    by-four false d e = let r = is_real ptc pfc d (eqb-false ptc 4 e) h in real-back-in ptc pfc n r.ptc-is r.octets-are h l

    by_three : (t : Bool) → eqb ptc 3 ≡ t → pattern_of ptc pfc (value_of ptc pfc n) ≡ gives n
    by_three true e =
        ap (pattern_of ptc pfc) (value-unsigned ptc pfc n (eqb-true ptc 3 e)) ∙ pattern-known ptc pfc (Unsigned n) h e ∙ refuse-no _ _ _ (ap not (lt-ltb n _ l))
    by_three false e = by-four (eqb ptc 4) (eqb-false ptc 3 e) refl

-- ---- what is written is within its width, and is read as it was

pub record Again (ptc pfc : ℕ) (v : Value) (n : ℕ) : Type 0 where
  pub within : n < 256 ^ octets_for ptc pfc
  pub same : value_of ptc pfc n ≡ v

format-again : (ptc pfc : ℕ) (f : Format) (W : Float → Value) (N : ℕ → Value) (v : Value) (n : ℕ) → IsFormat ptc pfc f W N → (n < 2 * top f) × (real_is f W N n ≡ v) → Again ptc pfc v n
format-again ptc pfc f W N v n a s = record { within = subst (λ (j : ℕ). n < j) a.numbers s.0; same = a.value n ∙ s.1 }

bits-again : (ptc pfc : ℕ) (v : Value) (n : ℕ) → Held v → PatternIs ptc pfc v n → Again ptc pfc v n
bits-again ptc pfc (Unsigned m) n w p =
    let r = refuse-gives _ _ _ n p.bits in
    let j : m ≡ n = gives-inj m n r.1 in
    record { within = subst (λ (i : ℕ). i < 256 ^ octets_for ptc pfc) j (ltb-true m _ (not-false _ r.0)); same = value-unsigned ptc pfc n (eqb-true ptc 3 p.kind) ∙ ap Unsigned (sym j) }
bits-again ptc pfc (Signed z) n w p =
    let s = signed-again (octets_for ptc pfc) z n p.named p.bits in
    record { within = s.0; same = value-signed ptc pfc n (eqb-true ptc 4 p.kind) ∙ ap Signed s.1 }
bits-again ptc pfc (Single x) n w p = format-again ptc pfc _ _ _ _ n (is-single ptc pfc p.kind) (number-again binary32 Single SingleNan x n w p.bits)
bits-again ptc pfc (SingleNan b) n w p = format-again ptc pfc _ _ _ _ n (is-single ptc pfc p.kind) (nan-again binary32 Single SingleNan b n w p.bits)
bits-again ptc pfc (Double x) n w p = format-again ptc pfc _ _ _ _ n (is-double ptc pfc p.kind) (number-again binary64 Double DoubleNan x n w p.bits)
bits-again ptc pfc (DoubleNan b) n w p = format-again ptc pfc _ _ _ _ n (is-double ptc pfc p.kind) (nan-again binary64 Double DoubleNan b n w p.bits)

pub value-again : (ptc pfc : ℕ) (v : Value) (n : ℕ) → Held v → pattern_of ptc pfc v ≡ gives n → Again ptc pfc v n
value-again ptc pfc v n w e = bits-again ptc pfc v n w (pattern-is ptc pfc v n e)
