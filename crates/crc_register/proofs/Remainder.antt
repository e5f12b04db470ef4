-- Long division gives a remainder, and there is no other: the checksum is it.
use mathlib.Core.Path.{◌≡◌, refl, sym, ap, ap₂, ◌∙◌, subst}
use mathlib.Core.Bool.{Bool, true, false}
use mathlib.Core.List.{List, [], ◌∷◌}
use Prim.Native.Nat.{ℕ, suc, ◌+◌, ◌*◌, ◌/◌, ◌≤◌, ◌<◌}
use native.Mathlib.Omega.{arith}
use lib.Dec.{lit<}
use lib.ListN.{length}
use Rattle.crc_register.specs.Crc.{◌⊕◌, bit, bits_of, crc_of}
use Rattle.crc_register.specs.Added.{add_bits}
use Rattle.crc_register.specs.Division.{digit, generator, preset, reduce, divide, remainder, number, product, Remainder}
use Rattle.crc_register.proofs.Xor.{⊕-assoc, ⊕-comm, ⊕-zero, ⊕-undo, ⊕-cancel, ⊕-self, ⊕-swap, ⊕-shl, ⊕-shr, ⊕-lt, scaled-⊕}
use Rattle.crc_register.proofs.Linear.{fold-⊕}
use Rattle.crc_register.proofs.Division.{down, down-eq, bring, small, crc-remainder}

-- ---- there is one

quotient : ℕ → List Bool → List Bool
quotient r [] = []
quotient r (b ∷ bs) = bit ((r * 2 + digit b) / 65536) ∷ quotient (reduce (r * 2 + digit b)) bs

quotient-length : (bs : List Bool) (r : ℕ) → length (quotient r bs) ≡ length bs
unfolding quotient
quotient-length [] r = refl
quotient-length (b ∷ bs) r = ap suc (quotient-length bs (reduce (r * 2 + digit b)))

-- what was taken off comes back
restored : (n : ℕ) → n ≡ generator (bit (n / 65536)) ⊕ reduce n
unfolding reduce
restored n =
    sym (⊕-undo n (generator (bit (n / 65536)))) ∙ ⊕-comm (n ⊕ generator (bit (n / 65536))) (generator (bit (n / 65536)))

divided : (bs : List Bool) (m r v : ℕ) → v ≡ m ⊕ r → number v bs ≡ product m (quotient r bs) ⊕ divide r bs
unfolding number product quotient divide down
divided [] m r v e = e
divided (b ∷ bs) m r v e =
    divided bs (m * 2 ⊕ generator (bit (down r b / 65536))) (reduce (down r b)) (down v b)
    (down-eq v b
    ∙ ap (λ (x : ℕ). x * 2 ⊕ digit b) e
    ∙ ap (λ (x : ℕ). x ⊕ digit b) (⊕-shl 1 m r)
    ∙ ⊕-assoc (m * 2) (r * 2) (digit b)
    ∙ ap (λ (x : ℕ). m * 2 ⊕ x) (sym (down-eq r b) ∙ restored (down r b))
    ∙ sym (⊕-assoc (m * 2) (generator (bit (down r b / 65536))) (reduce (down r b))))

divide-lt : (bs : List Bool) (r : ℕ) → r < 65536 → divide r bs < 65536
unfolding divide
divide-lt [] r h = h
divide-lt (b ∷ bs) r h =
    divide-lt bs (reduce (r * 2 + digit b)) (subst (λ (x : ℕ). x < 65536) (sym (bring r b h)) (small r b))

pub is-a-remainder : (p : List Bool) → Remainder p (remainder p)
unfolding remainder
is-a-remainder p =
    record { quotient = quotient 0 p; as_long = quotient-length p 0; low = divide-lt p 0 (lit< tt); divides = divided p 0 0 0 (sym (⊕-zero 0)) }

-- ---- there is no other

product-⊕ : (xs ys : List Bool) → length xs ≡ length ys → (a b : ℕ) → product (a ⊕ b) (add_bits xs ys) ≡ product a xs ⊕ product b ys
unfolding product
product-⊕ =
    fold-⊕ (λ m b. m * 2 ⊕ generator b) product (λ r. refl) (λ r b bs. refl)
    (λ a b x y.
    ap₂ ◌⊕◌ (⊕-shl 1 a b) (scaled-⊕ generator refl x y) ∙ ⊕-swap (a * 2) (b * 2) (generator x) (generator y))

generator-low : (b : Bool) → generator b / 131072 ≡ 0
generator-low true = refl
generator-low false = refl

-- once there is an x^16 there is one, or a higher power, for good
stays : (bs : List Bool) (m : ℕ) → 65536 ≤ m → 65536 ≤ product m bs
unfolding product
stays [] m h = h
stays (b ∷ bs) m h =
    let e : (m * 2 ⊕ generator b) / 131072 ≡ m * 2 / 131072 =
    ⊕-shr 17 (m * 2) (generator b) ∙ ap (λ (x : ℕ). m * 2 / 131072 ⊕ x) (generator-low b) ∙ ⊕-zero (m * 2 / 131072) in
    stays bs (m * 2 ⊕ generator b) (omega arith)

no-low-product : (bs : List Bool) → product 0 bs < 65536 → product 0 bs ≡ 0
unfolding product ◌⊕◌
no-low-product [] h = refl
no-low-product (true ∷ bs) h = absurd (too-low (stays bs 69665 (omega arith)) h)
  where
    too-low : {n : ℕ} → 65536 ≤ n → n < 65536 → ⊥
    too-low g l = omega arith
no-low-product (false ∷ bs) h = no-low-product bs h

pub only-remainder : (p : List Bool) (r s : ℕ) → Remainder p r → Remainder p s → r ≡ s
only-remainder p r s a b =
    let q = a.quotient in
    let k = b.quotient in
    let l : length q ≡ length k = a.as_long ∙ sym b.as_long in
    let e : product 0 q ⊕ r ≡ product 0 k ⊕ s = sym a.divides ∙ b.divides in
    let d : product 0 q ⊕ product 0 k ≡ r ⊕ s =
    ⊕-cancel (product 0 q ⊕ product 0 k) (r ⊕ s)
    (⊕-swap (product 0 q) (product 0 k) r s ∙ ap (λ (x : ℕ). x ⊕ (product 0 k ⊕ s)) e ∙ ⊕-self (product 0 k ⊕ s)) in
    let f : product 0 (add_bits q k) ≡ r ⊕ s = ap (λ (x : ℕ). product x (add_bits q k)) (sym (⊕-zero 0)) ∙ product-⊕ q k l 0 0 ∙ d in
    ⊕-cancel r s (sym f ∙ no-low-product (add_bits q k) (subst (λ (x : ℕ). x < 65536) (sym f) (⊕-lt 16 a.low b.low)))

-- ---- the checksum is it

pub crc-is-remainder : (s : List ℕ) → Remainder (preset (bits_of s)) (crc_of s)
crc-is-remainder s = subst (Remainder (preset (bits_of s))) (sym (crc-remainder s)) (is-a-remainder (preset (bits_of s)))

pub crc-only-remainder : (s : List ℕ) (r : ℕ) → Remainder (preset (bits_of s)) r → r ≡ crc_of s
crc-only-remainder s r h = only-remainder (preset (bits_of s)) r (crc_of s) h (crc-is-remainder s)
