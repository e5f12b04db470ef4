-- The register computes the remainder of the division that the standard states: `crc-remainder`.
use mathlib.Core.Path.{◌≡◌, refl, sym, ap, ap₂, ◌∙◌}
use mathlib.Core.Bool.{Bool, true, false}
use mathlib.Core.List.{List, [], ◌∷◌, ◌++◌}
use Prim.Native.Nat.{ℕ, zero, suc, ◌+◌, ◌*◌, ◌/◌, ◌%◌, ◌<◌}
use native.Mathlib.Nat.{mod-lt, add_comm}
use native.Mathlib.Omega.{arith}
use lib.Dec.{lit<}
use lib.Pow.{pow_pos}
use lib.ListN.{length, replicate, length-append, length-replicate}
use Rattle.crc_register.specs.Crc.{◌⊕◌, differs, bit, shift_in, run, bits_of, crc_from, crc_of}
use Rattle.crc_register.specs.Added.{add_bits}
use Rattle.crc_register.specs.Division.{digit, generator, reduce, divide, remainder, preset}
use Rattle.crc_register.proofs.Below.{same-below}
use Rattle.crc_register.proofs.Xor.{⊕-zero, zero-⊕, ⊕-join, ⊕-swap, ⊕-shl, ⊕-lt, bit-shr, differs_false, scaled-⊕}
use Rattle.crc_register.proofs.Linear.{fold-⊕, fold-++, shift_in-⊕, run-⊕}
use Rattle.crc_register.proofs.Octet.{halves}
use Rattle.crc_register.proofs.Zeros.{shift_in-lt}

-- ---- the division is linear

digit_lt : (b : Bool) → digit b < 2
digit_lt true = lit< tt
digit_lt false = lit< tt

reduce-⊕ : (a b : ℕ) → reduce (a ⊕ b) ≡ reduce a ⊕ reduce b
unfolding reduce
reduce-⊕ a b =
    ap (λ (t : Bool). a ⊕ b ⊕ generator t) (bit-shr 16 a b)
    ∙ ap (λ (x : ℕ). a ⊕ b ⊕ x) (scaled-⊕ generator refl (bit (a / 65536)) (bit (b / 65536)))
    ∙ ⊕-swap a b (generator (bit (a / 65536))) (generator (bit (b / 65536)))

-- the next coefficient
unfoldable pub down : ℕ → Bool → ℕ
down r b = r * 2 + digit b

pub down-eq : (r : ℕ) (b : Bool) → down r b ≡ r * 2 ⊕ digit b
unfolding down
down-eq r b = sym (⊕-join r 1 (digit b) (digit_lt b))

down-⊕ : (a b : ℕ) (x y : Bool) → down (a ⊕ b) (differs x y) ≡ down a x ⊕ down b y
down-⊕ a b x y =
    down-eq (a ⊕ b) (differs x y)
    ∙ ap₂ ◌⊕◌ (⊕-shl 1 a b) (scaled-⊕ digit refl x y)
    ∙ ⊕-swap (a * 2) (b * 2) (digit x) (digit y)
    ∙ sym (ap₂ ◌⊕◌ (down-eq a x) (down-eq b y))

divide-⊕ : (xs ys : List Bool) → length xs ≡ length ys → (a b : ℕ) → divide (a ⊕ b) (add_bits xs ys) ≡ divide a xs ⊕ divide b ys
unfolding divide down
divide-⊕ =
    fold-⊕ (λ r b. reduce (down r b)) divide (λ r. refl) (λ r b bs. refl)
    (λ a b x y. ap reduce (down-⊕ a b x y) ∙ reduce-⊕ (down a x) (down b y))

divide-++ : (r : ℕ) (xs ys : List Bool) → divide r (xs ++ ys) ≡ divide (divide r xs) ys
unfolding divide down
divide-++ = fold-++ (λ r b. reduce (down r b)) divide (λ r. refl) (λ r b bs. refl)

-- ---- a step of the division is a shift with no bit in, and the coefficient added

high : (k : ℕ) → k < 256 → reduce (k * 256 * 2) ≡ shift_in (k * 256) false
unfolding reduce shift_in bit ◌⊕◌
high = same-below (λ k. reduce (k * 256 * 2)) (λ k. shift_in (k * 256) false) 256 tt

low : (k : ℕ) → k < 256 → reduce (k * 2) ≡ shift_in k false
unfolding reduce shift_in bit ◌⊕◌
low = same-below (λ k. reduce (k * 2)) (λ k. shift_in k false) 256 tt

twice : (r : ℕ) → r < 65536 → reduce (r * 2) ≡ shift_in r false
twice r h =
    ap (λ (x : ℕ). reduce (x * 2)) (sym (halves r))
    ∙ ap reduce (⊕-shl 1 (r / 256 * 256) (r % 256))
    ∙ reduce-⊕ (r / 256 * 256 * 2) (r % 256 * 2)
    ∙ ap₂ ◌⊕◌ (high (r / 256) (omega arith)) (low (r % 256) (mod-lt r (pow_pos 8)))
    ∙ sym (shift_in-⊕ (r / 256 * 256) (r % 256) false false)
    ∙ ap (λ (x : ℕ). shift_in x false) (halves r)

reduce-digit : (b : Bool) → reduce (digit b) ≡ digit b
unfolding reduce bit ◌⊕◌
reduce-digit true = refl
reduce-digit false = refl

pub bring : (r : ℕ) (b : Bool) → r < 65536 → reduce (r * 2 + digit b) ≡ shift_in r false ⊕ digit b
unfolding down
bring r b h =
    ap reduce (down-eq r b) ∙ reduce-⊕ (r * 2) (digit b) ∙ ap₂ ◌⊕◌ (twice r h) (reduce-digit b)

pub small : (r : ℕ) (b : Bool) → shift_in r false ⊕ digit b < 65536
small r b = ⊕-lt 16 (shift_in-lt r false) (omega (arith, digit_lt b))

-- ---- rows of zeros

divide-zeros : (n r : ℕ) → r < 65536 → divide r (replicate n false) ≡ run r (replicate n false)
unfolding divide run
divide-zeros zero r h = refl
divide-zeros (suc n) r h =
    ap (λ (x : ℕ). divide x (replicate n false)) (bring r false h ∙ ⊕-zero (shift_in r false))
    ∙ divide-zeros n (shift_in r false) (shift_in-lt r false)

zeros-last : (n r : ℕ) → run (shift_in r false) (replicate n false) ≡ shift_in (run r (replicate n false)) false
unfolding run
zeros-last zero r = refl
zeros-last (suc n) r = zeros-last n (shift_in r false)

sixteen : (b : Bool) → run (digit b) (replicate 16 false) ≡ shift_in 0 b
unfolding run shift_in bit ◌⊕◌
sixteen true = refl
sixteen false = refl

step : (r : ℕ) (b : Bool) → run (shift_in r false ⊕ digit b) (replicate 16 false) ≡ shift_in (run r (replicate 16 false)) b
unfolding add_bits
step r b =
    run-⊕ (replicate 16 false) (replicate 16 false) refl (shift_in r false) (digit b)
    ∙ ap₂ ◌⊕◌ (zeros-last 16 r) (sixteen b)
    ∙ sym (shift_in-⊕ (run r (replicate 16 false)) 0 false b)
    ∙ ap (λ (x : ℕ). shift_in x b) (⊕-zero (run r (replicate 16 false)))

divide-run : (bs : List Bool) (r : ℕ) → r < 65536 → divide r (bs ++ replicate 16 false) ≡ run (run r (replicate 16 false)) bs
unfolding divide run
divide-run [] r h = divide-zeros 16 r h
divide-run (b ∷ bs) r h =
    ap (λ (x : ℕ). divide x (bs ++ replicate 16 false)) (bring r b h)
    ∙ divide-run bs (shift_in r false ⊕ digit b) (small r b)
    ∙ ap (λ (x : ℕ). run x bs) (step r b)

add-zeros : (m : List Bool) → add_bits m (replicate (length m) false) ≡ m
unfolding add_bits
add-zeros [] = refl
add-zeros (b ∷ m) = ap₂ ◌∷◌ (differs_false b) (add-zeros m)

ones16 : divide 0 (replicate 16 true) ≡ 65535
unfolding divide reduce bit ◌⊕◌
ones16 = refl

zeros16 : run 0 (replicate 16 false) ≡ 0
unfolding run shift_in bit ◌⊕◌
zeros16 = refl

as_long : (m : List Bool) → length (m ++ replicate 16 false) ≡ length (replicate 16 true ++ replicate (length m) false)
as_long m =
    length-append m (replicate 16 false) ∙ add_comm (length m) 16
    ∙ sym (length-append (replicate 16 true) (replicate (length m) false) ∙ ap (λ (n : ℕ). 16 + n) (length-replicate (length m) false))

-- the register after the bits m, from all ones, is the remainder of x^16 M(x) + x^n L(x)
pub is-remainder : (m : List Bool) → run 65535 m ≡ remainder (preset m)
unfolding remainder preset
is-remainder m =
    sym (ap₂ run (zero-⊕ 65535) (add-zeros m))
    ∙ run-⊕ m (replicate (length m) false) (sym (length-replicate (length m) false)) 0 65535
    ∙ sym (ap₂ ◌⊕◌
    (divide-run m 0 (lit< tt) ∙ ap (λ (x : ℕ). run x m) zeros16)
    (divide-++ 0 (replicate 16 true) (replicate (length m) false)
    ∙ ap (λ (x : ℕ). divide x (replicate (length m) false)) ones16
    ∙ divide-zeros (length m) 65535 (lit< tt)))
    ∙ sym (divide-⊕ (m ++ replicate 16 false) (replicate 16 true ++ replicate (length m) false) (as_long m) 0 0)
    ∙ ap (λ (x : ℕ). divide x (add_bits (m ++ replicate 16 false) (replicate 16 true ++ replicate (length m) false))) (⊕-zero 0)

pub crc-remainder : (s : List ℕ) → crc_of s ≡ remainder (preset (bits_of s))
unfolding crc_from
crc-remainder s = is-remainder (bits_of s)
