-- Rows of octets: what stands before them and what is added to them.
use mathlib.Core.Path.{◌≡◌, refl, sym, ap, ap₂, ◌∙◌}
use mathlib.Core.Bool.{false}
use mathlib.Core.List.{List, [], ◌∷◌, ◌++◌}
use Prim.Native.Nat.{ℕ, zero, suc, ◌+◌, ◌*◌, ◌/◌, ◌%◌, ◌≤◌, ◌<◌}
use native.Mathlib.Nat.{suc_inj, mod-lt}
use native.Mathlib.Omega.{arith}
use lib.Pow.{pow_pos}
use lib.ListN.{length, take, drop, replicate, length-append, length-replicate, take-append-drop, replicate-append-replicate}
use lib.Seq.{drop-drop, take-add}
use Rattle.crc_register.specs.Crc.{◌⊕◌, bit, shift_in, run, octet_bits, crc_from}
use Rattle.crc_register.specs.Added.{add_octets}
use Rattle.crc_fold.specs.Word.{octs, Left}
use Rattle.crc_register.proofs.Xor.{⊕-zero, zero-⊕, ⊕-comm}
use Rattle.crc_register.proofs.Linear.{crc_from-cons, crc_from-nil, crc_from-++, crc_from-⊕}
use Rattle.crc_register.proofs.Residue.{two_in, two-octets}
use Rattle.crc_fold.proofs.Basis.{Additive, at_zero}

-- the register after n zero octets
abbrev pub zeros : ℕ → ℕ → ℕ
zeros n r = crc_from r (replicate n 0)

-- ---- rows taken in one after the other

both : (r : ℕ) {p q : ℕ} (a b : List ℕ) → p ≡ crc_from r a → q ≡ crc_from p b → q ≡ crc_from r (a ++ b)
both r a b e f = f ∙ ap (λ (x : ℕ). crc_from x b) e ∙ sym (crc_from-++ r a b)

pub in-turn : (r : ℕ) {p q u v : ℕ} (a b c d : List ℕ) →
    p ≡ crc_from r a → q ≡ crc_from p b → u ≡ crc_from q c → v ≡ crc_from u d → v ≡ crc_from r (a ++ b ++ c ++ d)
in-turn r a b c d e f g h = both r (a ++ b ++ c) d (both r (a ++ b) c (both r a b e f) g) h

pub four-alike : {a b c d a' b' c' d' : List ℕ} →
    a ≡ a' → b ≡ b' → c ≡ c' → d ≡ d' → a ++ b ++ c ++ d ≡ a' ++ b' ++ c' ++ d'
four-alike e f g h = ap₂ ◌++◌ (ap₂ ◌++◌ (ap₂ ◌++◌ e f) g) h

parts : (n m i : ℕ) (s : List ℕ) → take (n + m) (drop i s) ≡ take n (drop i s) ++ take m (drop (i + n) s)
parts n m i s = take-add n m (drop i s) ∙ ap (λ (l : List ℕ). take n (drop i s) ++ take m l) (drop-drop n i s)

pub quarters : (n i : ℕ) (s : List ℕ) →
    take (n + n + n + n) (drop i s)
    ≡ take n (drop i s) ++ take n (drop (i + n) s) ++ take n (drop (i + (n + n)) s) ++ take n (drop (i + (n + n + n)) s)
quarters n i s =
    parts (n + n + n) n i s
    ∙ ap (λ (l : List ℕ). l ++ take n (drop (i + (n + n + n)) s))
    (parts (n + n) n i s ∙ ap (λ (l : List ℕ). l ++ take n (drop (i + (n + n)) s)) (parts n n i s))

-- n octets from i on, and n more
pub twice : (r : ℕ) {p q : ℕ} (n i : ℕ) (s : List ℕ) →
    p ≡ crc_from r (take n (drop i s)) → q ≡ crc_from p (take n (drop (i + n) s)) → q ≡ crc_from r (take (n + n) (drop i s))
twice r n i s e f = both r (take n (drop i s)) (take n (drop (i + n) s)) e f ∙ ap (crc_from r) (sym (parts n n i s))

-- ---- octets still to come

pub start : (s : List ℕ) (i r : ℕ) → i ≤ length s → Left s (crc_from r (drop i s)) i r
start s i r h = record { within = h; will = refl }

-- n of them are taken in
pub along : {s : List ℕ} {t i r q : ℕ} (n : ℕ) → Left s t i r → i + n ≤ length s → q ≡ crc_from r (take n (drop i s)) → Left s t (i + n) q
along {s} {t} {i} {r} n l h e =
    record {
      within = h;
      will =
          ap₂ crc_from e (sym (drop-drop n i s))
          ∙ sym (crc_from-++ r (take n (drop i s)) (drop n (drop i s)))
          ∙ ap (crc_from r) (take-append-drop n (drop i s))
          ∙ l.will;
    }

pub same : {s : List ℕ} {t i r q : ℕ} → q ≡ r → Left s t i r → Left s t i q
same {s} {i = i} e l = record { within = l.within; will = ap (λ (x : ℕ). crc_from x (drop i s)) e ∙ l.will }

-- ---- sums

pub add-++ : (a b c d : List ℕ) → length a ≡ length b → add_octets (a ++ c) (b ++ d) ≡ add_octets a b ++ add_octets c d
unfolding add_octets
add-++ [] [] c d h = refl
add-++ [] (y ∷ b) c d h = absurd (omega arith)
add-++ (x ∷ a) [] c d h = absurd (omega arith)
add-++ (x ∷ a) (y ∷ b) c d h = ap (λ (l : List ℕ). (x ⊕ y) ∷ l) (add-++ a b c d (suc_inj h))

zeros-add-row : (s : List ℕ) → add_octets (replicate (length s) 0) s ≡ s
unfolding add_octets
zeros-add-row [] = refl
zeros-add-row (x ∷ s) = ap₂ ◌∷◌ (zero-⊕ x) (zeros-add-row s)

pub from-none : (s t : List ℕ) → length s ≡ length t → crc_from 0 (add_octets s t) ≡ crc_from 0 s ⊕ crc_from 0 t
from-none s t h = ap (λ (x : ℕ). crc_from x (add_octets s t)) (sym (⊕-zero 0)) ∙ crc_from-⊕ s t h 0 0

-- what the register leaves, and what the row leaves
pub apart : (r : ℕ) (s : List ℕ) → crc_from r s ≡ zeros (length s) r ⊕ crc_from 0 s
apart r s =
    ap₂ crc_from (sym (⊕-zero r)) (sym (zeros-add-row s))
    ∙ crc_from-⊕ (replicate (length s) 0) s (length-replicate (length s) 0) r 0

-- ---- zero octets

pub zeros-sum : (n : ℕ) → add_octets (replicate n 0) (replicate n 0) ≡ replicate n 0
unfolding add_octets
zeros-sum zero = refl
zeros-sum (suc n) = ap₂ ◌∷◌ (⊕-zero 0) (zeros-sum n)

pub zeros-add : (n : ℕ) → Additive (zeros n)
zeros-add n a b =
    ap (crc_from (a ⊕ b)) (sym (zeros-sum n)) ∙ crc_from-⊕ (replicate n 0) (replicate n 0) refl a b

pub zeros-then : (n m r : ℕ) → zeros m (zeros n r) ≡ zeros (n + m) r
zeros-then n m r =
    sym (crc_from-++ r (replicate n 0) (replicate m 0)) ∙ ap (crc_from r) (replicate-append-replicate n m 0)

-- an empty register stays empty
pub ahead : (n : ℕ) (s : List ℕ) → crc_from 0 (replicate n 0 ++ s) ≡ crc_from 0 s
ahead n s = crc_from-++ 0 (replicate n 0) s ∙ ap (λ (r : ℕ). crc_from r s) (at_zero (zeros n) (zeros-add n))

-- one more zero bit may come first or last
one_more : (r : ℕ) → run (shift_in r false) (octet_bits 0) ≡ shift_in (run r (octet_bits 0)) false
unfolding run octet_bits bit
one_more r = refl

pub zeros-shift : (n r : ℕ) → zeros n (shift_in r false) ≡ shift_in (zeros n r) false
zeros-shift zero r = crc_from-nil (shift_in r false) ∙ sym (ap (λ (x : ℕ). shift_in x false) (crc_from-nil r))
zeros-shift (suc n) r =
    crc_from-cons (shift_in r false) 0 (replicate n 0)
    ∙ ap (zeros n) (one_more r)
    ∙ zeros-shift n (run r (octet_bits 0))
    ∙ sym (ap (λ (x : ℕ). shift_in x false) (crc_from-cons r 0 (replicate n 0)))

-- ---- a register stands for two octets

two-zeros : (r : ℕ) → r < 65536 → crc_from 0 (octs 2 r) ≡ zeros 2 r
unfolding octs
two-zeros r h =
    two-octets 0 (r / 256 % 256) (r / 1 % 256)
    ∙ two_in 0 (r / 256 % 256) (r / 1 % 256) (mod-lt (r / 256) (pow_pos 8)) (mod-lt (r / 1) (pow_pos 8))
    ∙ ap (λ (x : ℕ). run (run x (octet_bits 0)) (octet_bits 0)) (zero-⊕ (r / 256 % 256 * 256 + r / 1 % 256) ∙ whole)
    ∙ sym (two-octets r 0 0)
  where
    whole : r / 256 % 256 * 256 + r / 1 % 256 ≡ r
    whole = omega arith

-- which are added to the first two of a row
pub in-front : (r m : ℕ) (s : List ℕ) → r < 65536 → length s ≡ 2 + m → crc_from 0 (add_octets s (octs 2 r ++ replicate m 0)) ≡ crc_from r s
unfolding octs
in-front r m s h e =
    from-none s (octs 2 r ++ replicate m 0) (e ∙ sym (length-append (octs 2 r) (replicate m 0) ∙ ap (λ (n : ℕ). 2 + n) (length-replicate m 0)))
    ∙ ap (λ (x : ℕ). crc_from 0 s ⊕ x)
    (crc_from-++ 0 (octs 2 r) (replicate m 0) ∙ ap (zeros m) (two-zeros r h) ∙ zeros-then 2 m r ∙ ap (λ (n : ℕ). zeros n r) (sym e))
    ∙ ⊕-comm (crc_from 0 s) (zeros (length s) r)
    ∙ sym (apart r s)
