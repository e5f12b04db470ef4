-- Folding: what stands at the front of a row is struck out, and added again at three places behind.
use mathlib.Core.Path.{◌≡◌, refl, sym, ap, ap₂, ◌∙◌}
use mathlib.Core.Bool.{false}
use mathlib.Core.List.{List, ◌++◌, append_assoc}
use Prim.Native.Nat.{ℕ, zero, suc, ◌+◌, ◌*◌, ◌/◌, ◌%◌, ◌^◌, ◌<◌}
use native.Mathlib.Omega.{arith}
use lib.Dec.{lit<}
use lib.ListN.{length, replicate, length-append}
use Rattle.crc_register.specs.Crc.{◌⊕◌, bit, shift_in, run, octet_bits, bits_of, crc_from}
use Rattle.crc_register.specs.Added.{add_octets}
use Rattle.crc_fold.specs.Word.{octs, lows}
use Rattle.crc_fold.specs.Folded.{lows4}
use Rattle.crc_fold.specs.declared.folded.Four.{Four}
use Rattle.crc_register.proofs.Below.{same-below}
use Rattle.crc_register.proofs.Xor.{⊕-comm, ⊕-cancel}
use Rattle.crc_register.proofs.Linear.{shift_in-⊕, crc_from-++}
use Rattle.crc_register.proofs.Zeros.{crc_from-lt}
use Rattle.crc_fold.proofs.Basis.{Additive, id-add, none-add, sum-add, then-add, by_bits}
use Rattle.crc_fold.proofs.Rows.{zeros, zeros-add, zeros-then, zeros-shift, add-++, from-none, apart}
use Rattle.crc_fold.proofs.Word.{octs-⊕, lows-⊕, moved}

-- ---- a test at the register 1 is a test at every register

module _ (f : ℕ → ℕ) (p : Additive f) (commutes : (r : ℕ) → f (shift_in r false) ≡ shift_in (f r) false) (one : f 1 ≡ 0) where
  shifted_none : shift_in 0 false ≡ 0
  unfolding shift_in bit ◌⊕◌
  shifted_none = refl

  shifted-power : (k : ℕ) → k < 15 → shift_in (2 ^ k) false ≡ 2 ^ suc k
  unfolding shift_in bit ◌⊕◌
  shifted-power = same-below (λ k. shift_in (2 ^ k) false) (λ k. 2 ^ suc k) 15 tt

  at-power : (k : ℕ) → k < 16 → f (2 ^ k) ≡ 0
  at-power zero h = one
  at-power (suc k) h =
      sym (ap f (shifted-power k (omega arith)))
      ∙ commutes (2 ^ k)
      ∙ ap (λ (x : ℕ). shift_in x false) (at-power k (omega arith))
      ∙ shifted_none

  everywhere : (r : ℕ) → r < 65536 → f r ≡ 0
  everywhere = by_bits f (λ r. 0) p none-add 16 at-power

-- ---- x^d + x^b + x^a + 1, in octets, as a chain: n, then i + n, then j + n zero octets, the register added after each

unfoldable pub chain : ℕ → ℕ → ℕ → ℕ → ℕ
chain n i j r = zeros (j + n) (zeros (i + n) (zeros n r ⊕ r) ⊕ r) ⊕ r

module _ (n i j : ℕ) where
  link-add : (m : ℕ) (f : ℕ → ℕ) → Additive f → Additive (λ r. zeros m (f r) ⊕ r)
  link-add m f p = sum-add (λ r. zeros m (f r)) (λ r. r) (then-add f (zeros m) p (zeros-add m)) id-add

  chain-add : Additive (chain n i j)
  unfolding chain
  chain-add =
      link-add (j + n) (λ r. zeros (i + n) (zeros n r ⊕ r) ⊕ r)
      (link-add (i + n) (λ r. zeros n r ⊕ r) (link-add n (λ r. r) id-add))

  link-shift : (m a r : ℕ) → zeros m (shift_in a false) ⊕ shift_in r false ≡ shift_in (zeros m a ⊕ r) false
  link-shift m a r =
      ap (λ (x : ℕ). x ⊕ shift_in r false) (zeros-shift m a) ∙ sym (shift_in-⊕ (zeros m a) r false false)

  chain-shift : (r : ℕ) → chain n i j (shift_in r false) ≡ shift_in (chain n i j r) false
  unfolding chain
  chain-shift r =
      ap (λ (x : ℕ). zeros (j + n) (zeros (i + n) x ⊕ shift_in r false) ⊕ shift_in r false) (link-shift n r r)
      ∙ ap (λ (x : ℕ). zeros (j + n) x ⊕ shift_in r false) (link-shift (i + n) (zeros n r ⊕ r) r)
      ∙ link-shift (j + n) (zeros (i + n) (zeros n r ⊕ r) ⊕ r) r

  -- a row at its four places
  link : (e : List ℕ) (k r : ℕ) → length e ≡ n → crc_from r (replicate k 0 ++ e) ≡ zeros (k + n) r ⊕ crc_from 0 e
  link e k r h =
      crc_from-++ r (replicate k 0) e
      ∙ apart (zeros k r) e
      ∙ ap (λ (x : ℕ). x ⊕ crc_from 0 e) (zeros-then k (length e) r ∙ ap (λ (m : ℕ). zeros (k + m) r) h)

  places : (e : List ℕ) → length e ≡ n →
      crc_from 0 (e ++ e ++ (replicate i 0 ++ e) ++ (replicate j 0 ++ e)) ≡ chain n i j (crc_from 0 e)
  unfolding chain
  places e h =
      crc_from-++ 0 (e ++ e ++ (replicate i 0 ++ e)) (replicate j 0 ++ e)
      ∙ link e j (crc_from 0 (e ++ e ++ (replicate i 0 ++ e))) h
      ∙ ap (λ (x : ℕ). zeros (j + n) x ⊕ crc_from 0 e)
      (crc_from-++ 0 (e ++ e) (replicate i 0 ++ e)
      ∙ link e i (crc_from 0 (e ++ e)) h
      ∙ ap (λ (x : ℕ). zeros (i + n) x ⊕ crc_from 0 e)
      (crc_from-++ 0 e e ∙ apart (crc_from 0 e) e ∙ ap (λ (m : ℕ). zeros m (crc_from 0 e) ⊕ crc_from 0 e) h))

-- ---- the row is struck out

struck : (e s p : List ℕ) → length s ≡ length p → crc_from 0 (e ++ p) ≡ 0 → crc_from 0 (add_octets s p) ≡ crc_from 0 (e ++ s)
struck e s p h z =
    from-none s p h
    ∙ ⊕-comm (crc_from 0 s) (crc_from 0 p)
    ∙ ap (λ (x : ℕ). x ⊕ crc_from 0 s)
    (sym (⊕-cancel (zeros (length p) (crc_from 0 e)) (crc_from 0 p) (sym (apart (crc_from 0 e) p) ∙ sym (crc_from-++ 0 e p) ∙ z))
    ∙ ap (λ (n : ℕ). zeros n (crc_from 0 e)) (sym h))
    ∙ sym (apart (crc_from 0 e) s)
    ∙ sym (crc_from-++ 0 e s)

-- a row of n octets, four rows behind it and what is added to them: the first row, a part h and l of it that is moved
-- up by i octets, and the first row again
pub record Behind (n i j : ℕ) (a b c d v h l : List ℕ) : Type 0 where
  pub none : chain n i j 1 ≡ 0
  pub long : length a ≡ n
  pub as-b : length b ≡ length a
  pub as-c : length c ≡ length h
  pub as-d : length d ≡ length l
  pub as-v : length v ≡ length a
  pub moved : h ++ l ≡ replicate i 0 ++ a ++ replicate j 0

pub folds : {n i j : ℕ} {a b c d v h l : List ℕ} → Behind n i j a b c d v h l →
    crc_from 0 (add_octets b a ++ add_octets c h ++ add_octets d l ++ add_octets v a) ≡ crc_from (crc_from 0 (a ++ b ++ c ++ d)) v
folds {n} {i} {j} {a} {b} {c} {d} {v} {h} {l} k =
    ap (crc_from 0) (group (add_octets b a) (add_octets c h) (add_octets d l) (add_octets v a) ∙ sym added)
    ∙ struck a (b ++ (c ++ (d ++ v))) (a ++ (h ++ (l ++ a))) as_long
    (ap (crc_from 0) pattern
    ∙ places n i j a k.long
    ∙ everywhere (chain n i j) (chain-add n i j) (chain-shift n i j) k.none (crc_from 0 a) (crc_from-lt 0 a (lit< tt)))
    ∙ ap (crc_from 0) regroup
    ∙ crc_from-++ 0 (a ++ b ++ c ++ d) v
  where
    group : (w x y z : List ℕ) → w ++ x ++ y ++ z ≡ w ++ (x ++ (y ++ z))
    group w x y z = simp append_assoc

    added : add_octets (b ++ (c ++ (d ++ v))) (a ++ (h ++ (l ++ a))) ≡ add_octets b a ++ (add_octets c h ++ (add_octets d l ++ add_octets v a))
    added =
        add-++ b a (c ++ (d ++ v)) (h ++ (l ++ a)) k.as-b
        ∙ ap (λ (s : List ℕ). add_octets b a ++ s)
        (add-++ c h (d ++ v) (l ++ a) k.as-c ∙ ap (λ (s : List ℕ). add_octets c h ++ s) (add-++ d l v a k.as-d))

    as_long : length (b ++ (c ++ (d ++ v))) ≡ length (a ++ (h ++ (l ++ a)))
    as_long = simp length-append (omega (arith, k.as-b, k.as-c, k.as-d, k.as-v))

    pattern : a ++ (a ++ (h ++ (l ++ a))) ≡ a ++ a ++ (replicate i 0 ++ a) ++ (replicate j 0 ++ a)
    pattern =
        ap (λ (s : List ℕ). a ++ (a ++ s)) (sym (append_assoc h l a) ∙ ap (λ (s : List ℕ). s ++ a) k.moved)
        ∙ simp append_assoc

    regroup : a ++ (b ++ (c ++ (d ++ v))) ≡ a ++ b ++ c ++ d ++ v
    regroup = simp append_assoc

-- G^16 and G^64: each vanishes
pub none16 : chain 8 6 2 1 ≡ 0
unfolding ◌⊕◌ bit shift_in run octet_bits bits_of crc_from chain
none16 = refl

pub none64 : chain 32 24 8 1 ≡ 0
unfolding ◌⊕◌ bit shift_in run octet_bits bits_of crc_from chain
none64 = refl

-- ---- four words, and four rows of four

eight-long : (x : ℕ) → length (octs 8 x) ≡ 8
unfolding octs
eight-long x = refl

as-word : (x y : ℕ) → length (octs 8 x) ≡ length (octs 8 y)
as-word x y = eight-long x ∙ sym (eight-long y)

pub fold_words : (a b c d v : ℕ) → a < 18446744073709551616 →
    crc_from 0 (octs 8 (b ⊕ a) ++ octs 8 (c ⊕ a / 281474976710656) ++ octs 8 (d ⊕ (a * 65536) % 18446744073709551616) ++ octs 8 (v ⊕ a))
    ≡ crc_from (crc_from 0 (octs 8 a ++ octs 8 b ++ octs 8 c ++ octs 8 d)) (octs 8 v)
fold_words a b c d v h =
    ap (crc_from 0)
    (ap₂ ◌++◌
    (ap₂ ◌++◌ (ap₂ ◌++◌ (octs-⊕ 8 b a) (octs-⊕ 8 c (a / 281474976710656))) (octs-⊕ 8 d ((a * 65536) % 18446744073709551616)))
    (octs-⊕ 8 v a))
    ∙ folds
    (record { none = none16; long = eight-long a; as-b = as-word b a; as-c = as-word c (a / 281474976710656); as-d = as-word d ((a * 65536) % 18446744073709551616); as-v = as-word v a; moved = moved a h })

pub sum-words : (x y : Four) →
    lows (x.a ⊕ y.a) ++ lows (x.b ⊕ y.b) ++ lows (x.c ⊕ y.c) ++ lows (x.d ⊕ y.d) ≡ add_octets (lows4 x) (lows4 y)
unfolding octs lows lows4 add_octets
sum-words x y =
    ap₂ ◌++◌
    (ap₂ ◌++◌ (ap₂ ◌++◌ (lows-⊕ x.a y.a) (lows-⊕ x.b y.b)) (lows-⊕ x.c y.c))
    (lows-⊕ x.d y.d)

four-long : (x : Four) → length (lows4 x) ≡ 32
unfolding octs lows lows4
four-long x = refl

as-four : (x y : Four) → length (lows4 x) ≡ length (lows4 y)
as-four x y = four-long x ∙ sym (four-long y)

rows-moved : (a : Four) →
    lows4 (record { a = 0; b = 0; c = 0; d = a.a }) ++ lows4 (record { a = a.b; b = a.c; c = a.d; d = 0 })
    ≡ replicate 24 0 ++ lows4 a ++ replicate 8 0
unfolding octs lows lows4
rows-moved a = refl

pub fold-rows : (a b c d v : Four) {w x y z : List ℕ} →
    w ≡ add_octets (lows4 b) (lows4 a) →
    x ≡ add_octets (lows4 c) (lows4 (record { a = 0; b = 0; c = 0; d = a.a })) →
    y ≡ add_octets (lows4 d) (lows4 (record { a = a.b; b = a.c; c = a.d; d = 0 })) →
    z ≡ add_octets (lows4 v) (lows4 a) →
    crc_from 0 (w ++ x ++ y ++ z) ≡ crc_from (crc_from 0 (lows4 a ++ lows4 b ++ lows4 c ++ lows4 d)) (lows4 v)
fold-rows a b c d v e f g h =
    ap (crc_from 0) (ap₂ ◌++◌ (ap₂ ◌++◌ (ap₂ ◌++◌ e f) g) h)
    ∙ folds
    (record {
      none = none64;
      long = four-long a;
      as-b = as-four b a;
      as-c = as-four c (record { a = 0; b = 0; c = 0; d = a.a });
      as-d = as-four d (record { a = a.b; b = a.c; c = a.d; d = 0 });
      as-v = as-four v a;
      moved = rows-moved a;
    })
