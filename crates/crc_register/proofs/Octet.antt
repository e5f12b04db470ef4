-- The register takes in some bits at once, an octet or half of one: the steps that both forms compute.
use mathlib.Core.Path.{◌≡◌, refl, sym, ap, ap₂, ◌∙◌}
use mathlib.Core.Bool.{Bool, false}
use mathlib.Core.List.{List, ◌++◌}
use Prim.Native.Nat.{ℕ, zero, suc, ◌*◌, ◌/◌, ◌%◌, ◌^◌, ◌≤◌, ◌<◌}
use native.Mathlib.Nat.{mod-lt, mod-eq_of_lt, mul-one, mul_assoc, mul_comm, pow-suc, mul-le-mul_left, lt_of_le_of_lt, le_trans, le_of_eq}
use native.Mathlib.Omega.{arith}
use lib.Dec.{eqb}
use lib.Pow.{split, pow_pos}
use lib.ListN.{length, replicate}
use Rattle.crc_register.specs.Crc.{◌⊕◌, differs, bit, feedback, shift_in, run, octet_bits}
use Rattle.crc_register.specs.Added.{add_bits}
use Rattle.crc_register.specs.Table.{half_bits, entry}
use Rattle.crc_register.proofs.Xor.{⊕-comm, ⊕-zero, zero-⊕, ⊕-swap, ⊕-shl, ⊕-join, ⊕-lt, ⊕-mod, ⊕-undo, bit-⊕, bit-shr}
use Rattle.crc_register.proofs.Below.{same-below}
use Rattle.crc_register.proofs.Linear.{run-⊕, run-++, octet_bits-⊕}

-- ---- zero bits move a register up, as long as no set bit leaves it

shift-up : (k : ℕ) → k * 2 < 65536 → shift_in k false ≡ k * 2
unfolding shift_in bit
shift-up k h =
    let top : k / 32768 ≡ 0 = omega arith in
    ap₂ (λ (x t : ℕ). x ⊕ feedback (differs (eqb (t % 2) 1) false)) (mod-eq_of_lt h) top ∙ ⊕-zero (k * 2)

move_up : (n k : ℕ) → k * 2 ^ n < 65536 → run k (replicate n false) ≡ k * 2 ^ n
unfolding run
move_up zero k h = sym (mul-one k)
move_up (suc n) k h =
    ap (λ (r : ℕ). run r (replicate n false)) (shift-up k (lt_of_le_of_lt least fits)) ∙ move_up n (k * 2) fits ∙ doubled
  where
    doubled : k * 2 * 2 ^ n ≡ k * 2 ^ suc n
    doubled = mul_assoc k 2 (2 ^ n) ∙ ap (λ (x : ℕ). k * x) (mul_comm 2 (2 ^ n) ∙ sym (pow-suc 2 n))

    fits : k * 2 * 2 ^ n < 65536
    fits = rw doubled h

    least : k * 2 ≤ k * 2 * 2 ^ n
    least = le_trans (le_of_eq (sym (mul-one (k * 2)))) (mul-le-mul_left (k * 2) (pow_pos n))

-- ---- n bits at once, where the other m of the register stand below its highest n

record AtOnce (n m : ℕ) (bits : ℕ → List Bool) : Type 0 where
  adds : (a b : ℕ) → bits (a ⊕ b) ≡ add_bits (bits a) (bits b)
  long : (a b : ℕ) → length (bits a) ≡ length (bits b)
  -- into an empty register, the bits come as if they had stood at its top
  top : (k : ℕ) → k < 2 ^ n → run 0 (bits k) ≡ run (k * 2 ^ m) (bits 0)
  -- and zero bits move what stands below them up
  low : (k : ℕ) → k < 2 ^ m → run k (bits 0) ≡ k * 2 ^ n
  wrap : (r : ℕ) → r % 2 ^ m * 2 ^ n ≡ (r * 2 ^ n) % 65536

module _ {n m : ℕ} {bits : ℕ → List Bool} (t : AtOnce n m bits) where
  sum : (r q a b : ℕ) → run (r ⊕ q) (bits (a ⊕ b)) ≡ run r (bits a) ⊕ run q (bits b)
  sum r q a b = ap (run (r ⊕ q)) (t.adds a b) ∙ run-⊕ (bits a) (bits b) (t.long a b) r q

  zeros : (a b : ℕ) → run (a ⊕ b) (bits 0) ≡ run a (bits 0) ⊕ run b (bits 0)
  zeros a b = ap (λ (o : ℕ). run (a ⊕ b) (bits o)) (sym (⊕-zero 0)) ∙ sum a b 0 0

  -- bits that come in are added to the register's top
  come-in : (r o : ℕ) → o < 2 ^ n → run r (bits o) ≡ run (r ⊕ o * 2 ^ m) (bits 0)
  come-in r o h =
      ap₂ (λ (x y : ℕ). run x (bits y)) (sym (⊕-zero r)) (sym (zero-⊕ o))
      ∙ sum r 0 0 o
      ∙ ap (λ (x : ℕ). run r (bits 0) ⊕ x) (t.top o h)
      ∙ sym (zeros r (o * 2 ^ m))

  parts : (r : ℕ) → r / 2 ^ m * 2 ^ m ⊕ r % 2 ^ m ≡ r
  parts r = ⊕-join (r / 2 ^ m) m (r % 2 ^ m) (mod-lt r (pow_pos m)) ∙ split r m

  top_part : (r o : ℕ) → r ⊕ o * 2 ^ m ≡ (r / 2 ^ m ⊕ o) * 2 ^ m ⊕ r % 2 ^ m
  top_part r o =
      ap₂ ◌⊕◌ (sym (parts r)) (sym (⊕-zero (o * 2 ^ m)))
      ∙ ⊕-swap (r / 2 ^ m * 2 ^ m) (r % 2 ^ m) (o * 2 ^ m) 0
      ∙ ap₂ ◌⊕◌ (sym (⊕-shl m (r / 2 ^ m) o)) (⊕-zero (r % 2 ^ m))

  -- the register's low part moves up, and what the zero bits make of its top and the bits is added
  step : (r o : ℕ) → o < 2 ^ n → run r (bits o) ≡ (r * 2 ^ n) % 65536 ⊕ run ((r / 2 ^ m ⊕ o) * 2 ^ m) (bits 0)
  step r o h =
      come-in r o h
      ∙ ap (λ (x : ℕ). run x (bits 0)) (top_part r o)
      ∙ zeros ((r / 2 ^ m ⊕ o) * 2 ^ m) (r % 2 ^ m)
      ∙ ⊕-comm (run ((r / 2 ^ m ⊕ o) * 2 ^ m) (bits 0)) (run (r % 2 ^ m) (bits 0))
      ∙ ap (λ (x : ℕ). x ⊕ run ((r / 2 ^ m ⊕ o) * 2 ^ m) (bits 0)) (t.low (r % 2 ^ m) (mod-lt r (pow_pos m)) ∙ t.wrap r)

-- ---- an octet

pub low_half : (k : ℕ) → k < 256 → run k (octet_bits 0) ≡ k * 256
unfolding octet_bits bit
low_half k h = move_up 8 k (omega arith)

octet : AtOnce 8 8 octet_bits
unfolding ◌⊕◌ bit shift_in run octet_bits
octet =
    record {
      adds = octet_bits-⊕;
      long = λ a b. refl;
      top = same-below (λ k. run 0 (octet_bits k)) (λ k. run (k * 256) (octet_bits 0)) 256 tt;
      low = low_half;
      wrap = λ r. omega arith;
    }

pub zeros-⊕ : (a b : ℕ) → run (a ⊕ b) (octet_bits 0) ≡ run a (octet_bits 0) ⊕ run b (octet_bits 0)
zeros-⊕ = zeros octet

pub octet-in : (r o : ℕ) → o < 256 → run r (octet_bits o) ≡ run (r ⊕ o * 256) (octet_bits 0)
octet-in = come-in octet

pub halves : (r : ℕ) → r / 256 * 256 ⊕ r % 256 ≡ r
halves = parts octet

pub index-lt : (r o : ℕ) → r < 65536 → o < 256 → r / 256 ⊕ o < 256
index-lt r o hr ho = ⊕-lt 8 (omega arith) ho

-- what eight zero bits make of a register whose high half is k and whose low half is 0
unfoldable of_high : ℕ → ℕ
of_high k = run (k * 256) (octet_bits 0)

octet-step : (r o : ℕ) → o < 256 → run r (octet_bits o) ≡ (r * 256) % 65536 ⊕ of_high (r / 256 ⊕ o)
unfolding of_high
octet-step = step octet

-- the same with no table
unfoldable pub shifts : ℕ → ℕ
shifts x = let y : ℕ = x ⊕ x / 16 in (y * 4096) % 65536 ⊕ (y * 32) % 65536 ⊕ y

shifts-high : (k : ℕ) → k < 256 → shifts k ≡ of_high k
unfolding ◌⊕◌ bit shift_in run octet_bits of_high shifts
shifts-high = same-below shifts of_high 256 tt

pub by-shifts : (r o : ℕ) → r < 65536 → o < 256 → (r * 256) % 65536 ⊕ shifts (r / 256 ⊕ o) ≡ run r (octet_bits o)
by-shifts r o hr ho =
    ap (λ (x : ℕ). (r * 256) % 65536 ⊕ x) (shifts-high (r / 256 ⊕ o) (index-lt r o hr ho)) ∙ sym (octet-step r o ho)

-- ---- half an octet

half : AtOnce 4 12 half_bits
unfolding ◌⊕◌ bit shift_in run half_bits add_bits
half =
    record {
      adds = λ a b. rw (bit-shr 3 a b, bit-shr 2 a b, bit-shr 1 a b, bit-⊕ a b);
      long = λ a b. refl;
      top = same-below (λ k. run 0 (half_bits k)) (λ k. run (k * 4096) (half_bits 0)) 16 tt;
      low = λ k h. move_up 4 k (omega arith);
      wrap = λ r. omega arith;
    }

-- whatever gives the entry gives the step, for either half
pub by-entry : {e : ℕ} (r h : ℕ) → h < 16 → e ≡ entry (r / 4096 ⊕ h) → (r * 16) % 65536 ⊕ e ≡ run r (half_bits h)
unfolding entry
by-entry r h l e = ap (λ (x : ℕ). (r * 16) % 65536 ⊕ x) e ∙ sym (step half r h l)

pub half_lt : (r h : ℕ) → r < 65536 → h < 16 → r / 4096 ⊕ h < 16
half_lt r h hr hh = ⊕-lt 4 (omega arith) hh

-- an octet is its high half and then its low half
two-halves : (o : ℕ) → octet_bits o ≡ half_bits (o / 16) ++ half_bits (o % 16)
unfolding octet_bits half_bits bit
two-halves o =
    let a : (o / 128) % 2 ≡ (o / 16 / 8) % 2 = omega arith in
    let b : (o / 64) % 2 ≡ (o / 16 / 4) % 2 = omega arith in
    let c : (o / 32) % 2 ≡ (o / 16 / 2) % 2 = omega arith in
    let d : (o / 8) % 2 ≡ (o % 16 / 8) % 2 = omega arith in
    let e : (o / 4) % 2 ≡ (o % 16 / 4) % 2 = omega arith in
    let f : (o / 2) % 2 ≡ (o % 16 / 2) % 2 = omega arith in
    let g : o % 2 ≡ o % 16 % 2 = omega arith in
    rw (a, b, c, d, e, f, g)

pub octet_halves : (r o : ℕ) → run r (octet_bits o) ≡ run (run r (half_bits (o / 16))) (half_bits (o % 16))
octet_halves r o = ap (run r) (two-halves o) ∙ run-++ r (half_bits (o / 16)) (half_bits (o % 16))

-- ---- the step undone

-- the low half of what is left tells which high half it is of
unfoldable pub index_of : ℕ → ℕ
index_of low = let y : ℕ = (low ⊕ (low * 32) % 65536) % 256 in y ⊕ y / 16

index_is : (k : ℕ) → k < 256 → index_of (of_high k % 256) ≡ k
unfolding ◌⊕◌ bit shift_in run octet_bits of_high index_of
index_is = same-below (λ k. index_of (of_high k % 256)) (λ k. k) 256 tt

-- the register p before an octet o, from r, the one after it, by the high half x that the octet made and what is left of it, e
pub step-undone : (p o r x e : ℕ) → p < 65536 → o < 256 → run p (octet_bits o) ≡ r → x ≡ index_of (r % 256) → e ≡ run ((x * 256) % 65536) (octet_bits 0)
    → ((x ⊕ o) * 256) % 65536 ⊕ (r ⊕ e) / 256 ≡ p
unfolding of_high
step-undone p o r x e hp ho is found given =
    let k = p / 256 ⊕ o in
    let h = index-lt p o hp ho in
    let up : (p * 256) % 65536 ≡ p % 256 * 256 = omega arith in
    let none : (p * 256) % 65536 % 256 ≡ 0 = ap (λ (z : ℕ). z % 256) up ∙ omega arith in
    let low : (p * 256) % 65536 / 256 ≡ p % 256 = ap (λ (z : ℕ). z / 256) up ∙ omega arith in
    let high : (p / 256 * 256) % 65536 ≡ p / 256 * 256 = omega arith in
    let whole : (k * 256) % 65536 ≡ k * 256 = omega arith in
    let step = sym is ∙ octet-step p o ho in
    let told : r % 256 ≡ of_high k % 256 = ap (λ (z : ℕ). z % 256) step ∙ ⊕-mod 8 ((p * 256) % 65536) (of_high k) ∙ ap (λ (z : ℕ). z ⊕ of_high k % 256) none ∙ zero-⊕ (of_high k % 256) in
    let number : x ≡ k = found ∙ ap index_of told ∙ index_is k h in
    let kept : e ≡ of_high k = given ∙ ap (λ (z : ℕ). run ((z * 256) % 65536) (octet_bits 0)) number ∙ ap (λ (z : ℕ). run z (octet_bits 0)) whole in
    ap₂ (λ (y z : ℕ). (y * 256) % 65536 ⊕ z / 256)
    (ap (λ (z : ℕ). z ⊕ o) number ∙ ⊕-undo (p / 256) o)
    (ap₂ ◌⊕◌ step kept ∙ ⊕-undo ((p * 256) % 65536) (of_high k))
    ∙ ap₂ ◌⊕◌ high low ∙ halves p
