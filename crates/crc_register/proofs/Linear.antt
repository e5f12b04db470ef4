-- The register is linear: what goes in as a sum comes out as a sum, and what goes in by parts as from the whole.
use mathlib.Core.Path.{◌≡◌, refl, sym, ap, ap₂, ◌∙◌}
use mathlib.Core.Bool.{Bool}
use mathlib.Core.List.{List, [], ◌∷◌, ◌++◌}
use Prim.Native.Nat.{ℕ, ◌*◌, ◌/◌, ◌%◌}
use native.Mathlib.Nat.{suc_inj}
use native.Mathlib.Omega.{arith}
use lib.ListN.{length}
use Rattle.std.proofs.lemmas.Grind.{common_steps}
use Rattle.crc_register.specs.Crc.{◌⊕◌, differs, bit, feedback, shift_in, run, octet_bits, bits_of, crc_from, crc_of}
use Rattle.crc_register.specs.Added.{add_bits, add_octets}
use Rattle.crc_register.proofs.Xor.{⊕-zero, ⊕-swap, ⊕-shl, ⊕-mod, bit-⊕, bit-shr, differs-swap, scaled-⊕}

-- ---- a fold over a row of bits: the register, the division and the product of polynomials are such

module _ (step : ℕ → Bool → ℕ) (f : ℕ → List Bool → ℕ) (stop : (r : ℕ) → f r [] ≡ r)
    (go : (r : ℕ) (b : Bool) (bs : List Bool) → f r (b ∷ bs) ≡ f (step r b) bs) where
  pub fold-++ : (r : ℕ) (xs ys : List Bool) → f r (xs ++ ys) ≡ f (f r xs) ys
  fold-++ r [] ys = ap (λ (q : ℕ). f q ys) (sym (stop r))
  fold-++ r (x ∷ xs) ys = go r x (xs ++ ys) ∙ fold-++ (step r x) xs ys ∙ ap (λ (q : ℕ). f q ys) (sym (go r x xs))

  -- where the step takes sums to sums, so does the fold
  pub fold-⊕ : ((a b : ℕ) (x y : Bool) → step (a ⊕ b) (differs x y) ≡ step a x ⊕ step b y) →
      (xs ys : List Bool) → length xs ≡ length ys → (a b : ℕ) → f (a ⊕ b) (add_bits xs ys) ≡ f a xs ⊕ f b ys
  unfolding add_bits
  fold-⊕ l [] [] h a b = stop (a ⊕ b) ∙ sym (ap₂ ◌⊕◌ (stop a) (stop b))
  fold-⊕ l [] (y ∷ ys) h a b = absurd (omega arith)
  fold-⊕ l (x ∷ xs) [] h a b = absurd (omega arith)
  fold-⊕ l (x ∷ xs) (y ∷ ys) h a b =
      go (a ⊕ b) (differs x y) (add_bits xs ys)
      ∙ ap (λ (r : ℕ). f r (add_bits xs ys)) (l a b x y)
      ∙ fold-⊕ l xs ys (suc_inj h) (step a x) (step b y)
      ∙ sym (ap₂ ◌⊕◌ (go a x xs) (go b y ys))

-- ---- the register

pub shift_in-⊕ : (a b : ℕ) (x y : Bool) → shift_in (a ⊕ b) (differs x y) ≡ shift_in a x ⊕ shift_in b y
unfolding shift_in
shift_in-⊕ a b x y =
    ap₂ ◌⊕◌
    (ap (λ (n : ℕ). n % 65536) (⊕-shl 1 a b) ∙ ⊕-mod 16 (a * 2) (b * 2))
    (ap (λ (t : Bool). feedback (differs t (differs x y))) (bit-shr 15 a b)
    ∙ ap feedback (differs-swap (bit (a / 32768)) (bit (b / 32768)) x y)
    ∙ scaled-⊕ feedback refl (differs (bit (a / 32768)) x) (differs (bit (b / 32768)) y))
    ∙ ⊕-swap ((a * 2) % 65536) ((b * 2) % 65536) (feedback (differs (bit (a / 32768)) x)) (feedback (differs (bit (b / 32768)) y))

pub run-⊕ : (xs ys : List Bool) → length xs ≡ length ys → (a b : ℕ) → run (a ⊕ b) (add_bits xs ys) ≡ run a xs ⊕ run b ys
unfolding run
run-⊕ = fold-⊕ shift_in run (λ r. refl) (λ r b bs. refl) shift_in-⊕

pub run-++ : (r : ℕ) (xs ys : List Bool) → run r (xs ++ ys) ≡ run (run r xs) ys
unfolding run
run-++ = fold-++ shift_in run (λ r. refl) (λ r b bs. refl)

-- ---- octets

pub octet_bits-⊕ : (a b : ℕ) → octet_bits (a ⊕ b) ≡ add_bits (octet_bits a) (octet_bits b)
unfolding octet_bits add_bits
octet_bits-⊕ a b =
    rw (bit-shr 7 a b, bit-shr 6 a b, bit-shr 5 a b, bit-shr 4 a b, bit-shr 3 a b, bit-shr 2 a b, bit-shr 1 a b, bit-⊕ a b)

pub crc_from-cons : (r o : ℕ) (s : List ℕ) → crc_from r (o ∷ s) ≡ crc_from (run r (octet_bits o)) s
unfolding crc_from bits_of
crc_from-cons r o s = run-++ r (octet_bits o) (bits_of s)

pub crc_from-nil : (r : ℕ) → crc_from r [] ≡ r
unfolding crc_from bits_of run
crc_from-nil r = refl

-- the law of parts
pub crc_from-++ : (r : ℕ) (s t : List ℕ) → crc_from r (s ++ t) ≡ crc_from (crc_from r s) t
crc_from-++ r [] t = sym (ap (λ (x : ℕ). crc_from x t) (crc_from-nil r))
crc_from-++ r (o ∷ s) t =
    crc_from-cons r o (s ++ t) ∙ crc_from-++ (run r (octet_bits o)) s t ∙ sym (ap (λ (x : ℕ). crc_from x t) (crc_from-cons r o s))

-- the octets of a sum have the bits of the sum
pub bits_of-⊕ : (s t : List ℕ) → length s ≡ length t → bits_of (add_octets s t) ≡ add_bits (bits_of s) (bits_of t)
unfolding add_octets add_bits bits_of octet_bits
bits_of-⊕ [] [] h = refl
bits_of-⊕ [] (y ∷ t) h = absurd (omega arith)
bits_of-⊕ (x ∷ s) [] h = absurd (omega arith)
bits_of-⊕ (x ∷ s) (y ∷ t) h = ap₂ ◌++◌ (octet_bits-⊕ x y) (bits_of-⊕ s t (suc_inj h))

bits_of-length : (s t : List ℕ) → length s ≡ length t → length (bits_of s) ≡ length (bits_of t)
unfolding bits_of octet_bits
bits_of-length [] [] h = refl
bits_of-length [] (y ∷ t) h = absurd (omega arith)
bits_of-length (x ∷ s) [] h = absurd (omega arith)
bits_of-length (x ∷ s) (y ∷ t) h = rw (bits_of-length s t (suc_inj h))

-- the law of sums
pub crc_from-⊕ : (s t : List ℕ) → length s ≡ length t → (a b : ℕ) → crc_from (a ⊕ b) (add_octets s t) ≡ crc_from a s ⊕ crc_from b t
unfolding crc_from
crc_from-⊕ s t h a b = ap (run (a ⊕ b)) (bits_of-⊕ s t h) ∙ run-⊕ (bits_of s) (bits_of t) (bits_of-length s t h) a b

-- with an error added, the checksum changes by what the error alone leaves from an empty register
pub crc_of-⊕ : (s e : List ℕ) → length s ≡ length e → crc_of (add_octets s e) ≡ crc_of s ⊕ crc_from 0 e
crc_of-⊕ s e h = ap (λ (r : ℕ). crc_from r (add_octets s e)) (sym (⊕-zero 65535)) ∙ crc_from-⊕ s e h 65535 0

-- one octet more
pub crc_from_push : (r : ℕ) (s : List ℕ) (o : ℕ) → crc_from r (s ++ o ∷ []) ≡ run (crc_from r s) (octet_bits o)
crc_from_push r s o =
    crc_from-++ r s (o ∷ []) ∙ crc_from-cons (crc_from r s) o [] ∙ crc_from-nil (run (crc_from r s) (octet_bits o))

-- what a loop over the octets needs: it begins with none of them, and takes in one more at each turn
pub ruleset by_octets = (common_steps, crc_from-nil, crc_from_push)
