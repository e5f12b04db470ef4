-- Words, by their octets: sums, parts, and the register that a word meets.
use mathlib.Core.Path.{◌≡◌, refl, sym, ap, ap₂, ◌∙◌}
use mathlib.Core.List.{List, [], ◌∷◌, ◌++◌, reverse}
use Prim.Native.Nat.{ℕ, zero, suc, ◌+◌, ◌*◌, ◌/◌, ◌%◌, ◌^◌, ◌≤◌, ◌<◌}
use native.Mathlib.Nat.{add-suc, add-zero, suc-add, zero-add, zero-mul, div-one}
use native.Mathlib.Omega.{arith}
use lib.Pow.{high, low, field, mod-mod-pow, shr-shr, shl_exact}
use lib.ListN.{length, take, drop, get_or, replicate}
use lib.Seq.{drop-cons}
use Rattle.crc_register.specs.Crc.{◌⊕◌, bit, shift_in, run, octet_bits, bits_of, crc_from}
use Rattle.crc_register.specs.Added.{add_octets}
use Rattle.crc_fold.specs.Word.{octs, lows}
use Rattle.crc_register.proofs.Below.{same-below}
use Rattle.crc_register.proofs.Xor.{⊕-shr, ⊕-mod}
use Rattle.crc_fold.proofs.Basis.{Additive, id-add, shr-add, shl-add, mod-add, sum-add, then-add, by_bits}
use Rattle.crc_fold.proofs.Rows.{add-++, zeros-sum, ahead, from-none, in-front}

-- ---- sums

octet-⊕ : (k a b : ℕ) → (a ⊕ b) / 2 ^ k % 256 ≡ (a / 2 ^ k % 256) ⊕ (b / 2 ^ k % 256)
octet-⊕ k a b = ap (λ (x : ℕ). x % 256) (⊕-shr k a b) ∙ ⊕-mod 8 (a / 2 ^ k) (b / 2 ^ k)

pub octs-⊕ : (n a b : ℕ) → octs n (a ⊕ b) ≡ add_octets (octs n a) (octs n b)
unfolding octs add_octets
octs-⊕ zero a b = refl
octs-⊕ (suc n) a b = ap₂ ◌∷◌ (octet-⊕ (n * 8) a b) (octs-⊕ n a b)

pub lows-⊕ : (a b : ℕ) → lows (a ⊕ b) ≡ add_octets (lows a) (lows b)
unfolding octs lows add_octets
lows-⊕ a b = ap reverse (octs-⊕ 8 a b)

-- ---- parts

-- the octets above the n lowest do not matter
octs-mod : (n w : ℕ) → octs n w ≡ octs n (w % 2 ^ (n * 8))
unfolding octs
octs-mod zero w = refl
octs-mod (suc n) w =
    ap₂ ◌∷◌
    (sym (ap (λ (x : ℕ). x % 256) (ap (λ (k : ℕ). w % 2 ^ k / 2 ^ (n * 8)) (next n) ∙ field w 8 (n * 8)) ∙ mod-mod-pow (w / 2 ^ (n * 8)) 0 8))
    (octs-mod n w
    ∙ ap (octs n) (sym (ap (λ (k : ℕ). w % 2 ^ k % 2 ^ (n * 8)) (next n) ∙ mod-mod-pow w 8 (n * 8)))
    ∙ sym (octs-mod n (w % 2 ^ (suc n * 8))))
  where
    next : (n : ℕ) → suc n * 8 ≡ 8 + n * 8
    next n = omega arith

-- the m octets of x, and the n of y
pub octs-join : (m n x y : ℕ) → y < 2 ^ (n * 8) → octs (m + n) (x * 2 ^ (n * 8) + y) ≡ octs m x ++ octs n y
unfolding octs
octs-join zero n x y h =
    ap (λ (k : ℕ). octs k (x * 2 ^ (n * 8) + y)) (zero-add n)
    ∙ octs-mod n (x * 2 ^ (n * 8) + y)
    ∙ ap (octs n) (low x (n * 8) h)
octs-join (suc m) n x y h =
    ap (λ (k : ℕ). octs k (x * 2 ^ (n * 8) + y)) (suc-add m n)
    ∙ ap₂ ◌∷◌
    (ap (λ (o : ℕ). o % 256)
    (ap (λ (k : ℕ). (x * 2 ^ (n * 8) + y) / 2 ^ k) (both m n)
    ∙ sym (shr-shr (x * 2 ^ (n * 8) + y) (n * 8) (m * 8))
    ∙ ap (λ (o : ℕ). o / 2 ^ (m * 8)) (high x (n * 8) h)))
    (octs-join m n x y h)
  where
    both : (m n : ℕ) → (m + n) * 8 ≡ n * 8 + m * 8
    both m n = omega arith

pub octs-above : (m n y : ℕ) → y < 2 ^ (n * 8) → octs (m + n) y ≡ octs m 0 ++ octs n y
octs-above m n y h =
    sym (ap (octs (m + n)) (ap (λ (x : ℕ). x + y) (zero-mul (2 ^ (n * 8))) ∙ zero-add y)) ∙ octs-join m n 0 y h

-- a word at the front, moved up by six octets in two words
pub moved : (a : ℕ) → a < 18446744073709551616 →
    octs 8 (a / 281474976710656) ++ octs 8 ((a * 65536) % 18446744073709551616) ≡ replicate 6 0 ++ octs 8 a ++ replicate 2 0
unfolding octs
moved a h =
    ap₂ ◌++◌
    (octs-above 6 2 (a / 281474976710656) (omega arith))
    (ap (octs 8) up ∙ octs-join 6 2 (a % 281474976710656) 0 (omega arith))
    ∙ ap (λ (l : List ℕ). replicate 6 0 ++ l)
    (sym (ap (λ (l : List ℕ). l ++ replicate 2 0) (sym (ap (octs 8) parts) ∙ octs-join 2 6 (a / 281474976710656) (a % 281474976710656) (omega arith))))
  where
    up : (a * 65536) % 18446744073709551616 ≡ a % 281474976710656 * 65536 + 0
    up = omega arith

    parts : a / 281474976710656 * 281474976710656 + a % 281474976710656 ≡ a
    parts = omega arith

-- ---- a register meets a word whose first k octets are 0, with m octets after the next two

met : (k m r w x : ℕ) (s : List ℕ) → r < 65536 → length s ≡ 2 + m → octs 8 w ≡ replicate k 0 ++ s →
    octs 8 x ≡ replicate k 0 ++ (octs 2 r ++ replicate m 0) → crc_from 0 (octs 8 (w ⊕ x)) ≡ crc_from r s
met k m r w x s h l e f =
    ap (crc_from 0) (octs-⊕ 8 w x ∙ ap₂ add_octets e f ∙ add-++ (replicate k 0) (replicate k 0) s (octs 2 r ++ replicate m 0) refl ∙ ap (λ (t : List ℕ). t ++ add_octets s (octs 2 r ++ replicate m 0)) (zeros-sum k))
    ∙ ahead k (add_octets s (octs 2 r ++ replicate m 0))
    ∙ in-front r m s h l

up6 : (r : ℕ) → r < 65536 → octs 8 ((r * 281474976710656) % 18446744073709551616) ≡ octs 2 r ++ replicate 6 0
unfolding octs
up6 r h = ap (octs 8) (shl_exact 16 48 64 h (omega arith) ∙ sym (add-zero (r * 281474976710656))) ∙ octs-join 2 6 r 0 (omega arith)

pub met8 : (r w : ℕ) → r < 65536 → crc_from 0 (octs 8 (w ⊕ (r * 281474976710656) % 18446744073709551616)) ≡ crc_from r (octs 8 w)
unfolding octs
met8 r w h = met 0 6 r w ((r * 281474976710656) % 18446744073709551616) (octs 8 w) h refl refl (up6 r h)

-- the same with the octets in the other order
pub met-low : (r w p : ℕ) → r < 65536 → lows p ≡ octs 8 ((r * 281474976710656) % 18446744073709551616) →
    crc_from 0 (lows (w ⊕ p)) ≡ crc_from r (lows w)
unfolding octs lows
met-low r w p h e =
    ap (crc_from 0) (lows-⊕ w p ∙ ap (add_octets (lows w)) (e ∙ up6 r h)) ∙ in-front r 6 (lows w) h refl

pub met4 : (r w : ℕ) {s : List ℕ} → r < 65536 → octs 8 w ≡ replicate 4 0 ++ s → length s ≡ 4 →
    crc_from 0 (octs 8 (w ⊕ (r * 65536) % 18446744073709551616)) ≡ crc_from r s
unfolding octs
met4 r w {s} h e l = met 4 2 r w ((r * 65536) % 18446744073709551616) s h l e up2
  where
    up2 : octs 8 ((r * 65536) % 18446744073709551616) ≡ replicate 4 0 ++ (octs 2 r ++ replicate 2 0)
    up2 =
        ap (octs 8) (shl_exact 16 16 64 h (omega arith))
        ∙ octs-above 4 4 (r * 65536) (omega arith)
        ∙ ap (λ (t : List ℕ). replicate 4 0 ++ t) (ap (octs 4) (sym (add-zero (r * 65536))) ∙ octs-join 2 2 r 0 (omega arith))

pub met2 : (r w : ℕ) {s : List ℕ} → r < 65536 → octs 8 w ≡ replicate 6 0 ++ s → length s ≡ 2 → crc_from 0 (octs 8 (w ⊕ r)) ≡ crc_from r s
unfolding octs
met2 r w {s} h e l = met 6 0 r w r s h l e (octs-above 6 2 r (omega arith))

-- ---- what a word leaves, by shifts

shrs-add : (i j k : ℕ) → Additive (λ q. q ⊕ (q / 2 ^ i ⊕ q / 2 ^ j ⊕ q / 2 ^ k))
shrs-add i j k =
    sum-add (λ q. q) (λ q. q / 2 ^ i ⊕ q / 2 ^ j ⊕ q / 2 ^ k) id-add
    (sum-add (λ q. q / 2 ^ i ⊕ q / 2 ^ j) (λ q. q / 2 ^ k) (sum-add (λ q. q / 2 ^ i) (λ q. q / 2 ^ j) (shr-add i) (shr-add j)) (shr-add k))

abbrev by1 : ℕ → ℕ
by1 w = w ⊕ (w / 16 ⊕ w / 2048 ⊕ w / 65536)

abbrev by2 : ℕ → ℕ
by2 p = p ⊕ (p / 256 ⊕ p / 4194304 ⊕ p / 4294967296)

abbrev by4 : ℕ → ℕ
by4 q = q ⊕ (q / 65536 ⊕ q / 17592186044416)

abbrev by8 : ℕ → ℕ
by8 t = t ⊕ t / 4294967296

-- times the generator below x^16
abbrev times : ℕ → ℕ
times u = (u ⊕ (u * 32) % 18446744073709551616 ⊕ (u * 4096) % 18446744073709551616) % 65536

unfoldable pub shifts8 : ℕ → ℕ
shifts8 w = times (by8 (by4 (by2 (by1 w))))

shifts8-add : Additive shifts8
unfolding shifts8
shifts8-add =
    then-add by1 (λ p. times (by8 (by4 (by2 p)))) (shrs-add 4 11 16)
    (then-add by2 (λ q. times (by8 (by4 q))) (shrs-add 8 22 32)
    (then-add by4 (λ t. times (by8 t))
    (sum-add (λ q. q) (λ q. q / 65536 ⊕ q / 17592186044416) id-add (sum-add (λ q. q / 65536) (λ q. q / 17592186044416) (shr-add 16) (shr-add 44)))
    (then-add by8 times (sum-add (λ t. t) (λ t. t / 4294967296) id-add (shr-add 32)) times-add)))
  where
    times-add : Additive times
    times-add =
        then-add (λ u. u ⊕ (u * 32) % 18446744073709551616 ⊕ (u * 4096) % 18446744073709551616) (λ u. u % 65536)
        (sum-add (λ u. u ⊕ (u * 32) % 18446744073709551616) (λ u. (u * 4096) % 18446744073709551616)
        (sum-add (λ u. u) (λ u. (u * 32) % 18446744073709551616) id-add (shl-add 64 5))
        (shl-add 64 12))
        (mod-add 16)

left-add : Additive (λ w. crc_from 0 (octs 8 w))
unfolding octs
left-add a b = ap (crc_from 0) (octs-⊕ 8 a b) ∙ from-none (octs 8 a) (octs 8 b) refl

-- a test at each of the 64 bits
pub by-shifts : (w : ℕ) → w < 18446744073709551616 → shifts8 w ≡ crc_from 0 (octs 8 w)
unfolding ◌⊕◌ bit shift_in run octet_bits bits_of crc_from octs shifts8
by-shifts =
    by_bits shifts8 (λ w. crc_from 0 (octs 8 w)) shifts8-add left-add 64
    (same-below (λ k. shifts8 (2 ^ k)) (λ k. crc_from 0 (octs 8 (2 ^ k))) 64 tt)

-- ---- octets joined, and octets in a slice

module _ (a b c d e f g h : ℕ) (ha : a < 256) (hb : b < 256) (hc : c < 256) (hd : d < 256) (he : e < 256) (hf : f < 256) (hg : g < 256) (hh : h < 256) where
  abbrev w : ℕ
  w =
      ((a * 72057594037927936 + b * 281474976710656) + (c * 1099511627776 + d * 4294967296))
      + ((e * 16777216 + f * 65536) + (g * 256 + h))

  pub joined : octs 8 w ≡ a ∷ b ∷ c ∷ d ∷ e ∷ f ∷ g ∷ h ∷ []
  unfolding octs
  joined =
      let e1 : w / 72057594037927936 % 256 ≡ a = omega arith in
      let e2 : w / 281474976710656 % 256 ≡ b = omega arith in
      let e3 : w / 1099511627776 % 256 ≡ c = omega arith in
      let e4 : w / 4294967296 % 256 ≡ d = omega arith in
      let e5 : w / 16777216 % 256 ≡ e = omega arith in
      let e6 : w / 65536 % 256 ≡ f = omega arith in
      let e7 : w / 256 % 256 ≡ g = omega arith in
      let e8 : w / 1 % 256 ≡ h = omega arith in
      cc

pub swaps : (r w : ℕ) →
    octs 8 r
    ≡ w % 256 ∷ w / 256 % 256 ∷ w / 65536 % 256 ∷ w / 16777216 % 256 ∷ w / 4294967296 % 256 ∷ w / 1099511627776 % 256 ∷ w / 281474976710656 % 256 ∷ w / 72057594037927936 % 256 ∷ [] →
    (octs 8 r ≡ lows w) × (lows r ≡ octs 8 w)
unfolding octs lows
swaps r w e = (e ∙ rw (div-one w), ap reverse e ∙ rw (div-one w))

-- the octets at i + k, i + k + 1, ..
unfoldable pub gets : List ℕ → ℕ → ℕ → ℕ → List ℕ
gets s i zero k = []
gets s i (suc n) k = get_or s (i + k) 0 ∷ gets s i n (suc k)

row : (s : List ℕ) (i n k : ℕ) → i + k + n ≤ length s → take n (drop (i + k) s) ≡ gets s i n k
unfolding gets
row s i zero k h = refl
row s i (suc n) k h =
    ap (take (suc n)) (drop-cons s (i + k) 0 (omega arith))
    ∙ ap (λ (l : List ℕ). get_or s (i + k) 0 ∷ l)
    (ap (λ (m : ℕ). take n (drop m s)) (sym (add-suc i k)) ∙ row s i n (suc k) (omega (arith, add-suc i k)))

pub octets-at : (n : ℕ) (s : List ℕ) (i : ℕ) → i + suc n ≤ length s → get_or s i 0 ∷ gets s i n 1 ≡ take (suc n) (drop i s)
unfolding gets
octets-at n s i h =
    sym (ap (λ (m : ℕ). take (suc n) (drop m s)) (sym (add-zero i))
    ∙ row s i (suc n) 0 (omega (arith, add-zero i))
    ∙ ap (λ (m : ℕ). get_or s m 0 ∷ gets s i n 1) (add-zero i))
