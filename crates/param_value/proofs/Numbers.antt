-- Octets and their number invert each other.
use Prim.Native.Nat.{ℕ, zero, suc, ◌+◌, ◌-◌, ◌*◌, ◌/◌, ◌%◌, ◌^◌, ◌≤◌, ◌<◌}
use mathlib.Core.Path.{◌≡◌, refl, sym, ap, ap₂, ◌∙◌}
use mathlib.Core.List.{List, [], ◌∷◌, ◌++◌, append-nil}
use native.Mathlib.Omega.{arith}
use lib.ListN.{length, drop}
use lib.Seq.{append_snoc}
use Rattle.param_value.specs.Octets.{Octets, number_from, number_of, octets_of}
use lib.Bits.{bit_or}
use Rattle.std.specs.List.{fold}
use mir.Syntax.{w64}
use Rattle.std.specs.Int.{byte_at, bytes_high_first, to_be_bytes}
use Rattle.std.proofs.Math.Nat.{pow-succ', div-div-eq-div-mul}
use Rattle.std.proofs.lemmas.Nat.{or_shifted}
use Rattle.param_value.proofs.Powers.{grows, seven}

-- one more octet behind
pub number-snoc : (a : ℕ) (s : List ℕ) (o : ℕ) → number_from a (s ++ (o ∷ [])) ≡ number_from a s * 256 + o
unfolding number_from
number-snoc a [] o = refl
number-snoc a (x ∷ s) o = number-snoc (a * 256 + x) s o

-- what is written is read again
pub number-back : (k v : ℕ) → v < 256 ^ k → number_of (octets_of k v) ≡ v
unfolding octets_of number_from
number-back zero v h = omega arith
number-back (suc k) v h =
    let e = grows k in
    let r : number_of (octets_of k (v / 256)) ≡ v / 256 = number-back k (v / 256) (omega arith) in
    number-snoc 0 (octets_of k (v / 256)) (v % 256) ∙ omega (arith, r)

octets-from : (s : List ℕ) (j a n : ℕ) → n ≡ length s + j → Octets s → octets_of n (number_from a s) ≡ octets_of j a ++ s
unfolding octets_of number_from
octets-from [] j a n e o = let m : n ≡ j = e ∙ omega arith in ap (λ (k : ℕ). octets_of k a) m ∙ sym (append-nil (octets_of j a))
octets-from (x ∷ s) j a n e o =
    let b : x < 256 = o 0 in
    let q : (a * 256 + x) / 256 ≡ a = omega arith in
    let r : (a * 256 + x) % 256 ≡ x = omega arith in
    let m : n ≡ length s + suc j = e ∙ omega arith in
    octets-from s (suc j) (a * 256 + x) n m (λ i. o (suc i))
    ∙ ap₂ (λ (y z : ℕ). octets_of j y ++ (z ∷ []) ++ s) q r
    ∙ append_snoc (octets_of j a) x s

-- what is read is written as it stood
pub octets-back : (s : List ℕ) → Octets s → octets_of (length s) (number_of s) ≡ s
unfolding octets_of
octets-back s o = octets-from s 0 0 (length s) (omega arith) o

-- ---- as the machine reads and writes them

pub read_fits : (n i o : ℕ) → n < 256 ^ i → o < 256 → n * 256 + o < 256 ^ suc i
read_fits n i o h k = let e = grows i in omega arith

-- one octet behind those that are read, by a shift
abbrev pub behind : ℕ → ℕ → ℕ
behind n o = bit_or (n * 2 ^ 8 % 2 ^ 64) o

pub fold_behind : (s : List ℕ) (a j : ℕ) → length s + j ≤ 8 → Octets s → a < 256 ^ j → fold behind a s ≡ number_from a s
unfolding number_from
fold_behind [] a j e o h = refl
fold_behind (x ∷ s) a j e o h =
    let p : a < 72057594037927936 = (let k = seven j (omega arith) in omega (arith, k, h)) in
    let q : a * 2 ^ 8 % 2 ^ 64 ≡ a * 2 ^ 8 = omega arith in
    let r : behind a x ≡ a * 256 + x = ap (λ (n : ℕ). bit_or n x) q ∙ or_shifted a 8 x (o 0) in
    ap (λ (n : ℕ). fold behind n s) r ∙ fold_behind s (a * 256 + x) (suc j) (omega arith) (λ i. o (suc i)) (read_fits a j x h (o 0))

-- the machine's bytes are the octets
byte-above : (k v : ℕ) → byte_at (suc k) v ≡ byte_at k (v / 256)
byte-above zero v = refl
byte-above (suc k) v = ap (λ (n : ℕ). v / n % 256) (pow-succ' 256 (suc k)) ∙ ap (λ (n : ℕ). n % 256) (sym (div-div-eq-div-mul v 256 (256 ^ suc k)))

bytes-snoc : (k v : ℕ) → bytes_high_first (suc k) v ≡ bytes_high_first k (v / 256) ++ (v % 256 ∷ [])
bytes-snoc zero v = refl
bytes-snoc (suc k) v = ap₂ (λ (o : ℕ) (l : List ℕ). o ∷ l) (byte-above k v) (bytes-snoc k v)

bytes-octets : (k v : ℕ) → bytes_high_first k v ≡ octets_of k v
unfolding octets_of
bytes-octets zero v = refl
bytes-octets (suc k) v = bytes-snoc k v ∙ ap (λ (l : List ℕ). l ++ (v % 256 ∷ [])) (bytes-octets k (v / 256))

last-bytes : (j k n v : ℕ) → n ≡ j + k → drop j (bytes_high_first n v) ≡ bytes_high_first k v
last-bytes zero k n v e = ap (λ (i : ℕ). bytes_high_first i v) (let z : n ≡ k = omega (arith, e) in z)
last-bytes (suc j) k zero v e = absurd (omega (arith, e))
last-bytes (suc j) k (suc n) v e = last-bytes j k n v (omega (arith, e))

-- the last k of the machine's eight bytes
pub last_octets : (k v : ℕ) → k ≤ 8 → drop (8 - k) (to_be_bytes w64 v) ≡ octets_of k v
last_octets k v h = last-bytes (8 - k) k 8 v (omega arith) ∙ bytes-octets k v
