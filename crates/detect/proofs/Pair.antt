-- Two bits leave a register that is not 0 where they are fewer places apart than the order of the generator, and 0 where they are as many.
use mathlib.Core.Path.{◌≡◌, refl, sym, ap, ap₂, ◌∙◌, subst}
use mathlib.Core.Bool.{Bool, true, false}
use mathlib.Core.List.{List, [], ◌∷◌}
use Prim.Native.Nat.{ℕ, suc, ◌+◌, ◌≤◌, ◌<◌}
use native.Mathlib.Nat.{suc_inj, zero-lt-suc}
use native.Mathlib.Omega.{arith}
use lib.Dec.{lit<}
use lib.ListN.{get_or, replicate}
use Rattle.crc_register.specs.Crc.{◌⊕◌, bit, shift_in, run}
use Rattle.crc_register.proofs.Xor.{⊕-zero, ⊕-cancel, ⊕-self, ⊕-lt}
use Rattle.crc_register.proofs.Linear.{shift_in-⊕, run-++}
use Rattle.crc_register.proofs.Zeros.{Clear, none, next, shift_in-lt, run-lt, run-clear}
use Rattle.detect.specs.Errors.{ones, reach, Pair}
use Rattle.detect.specs.Order.{power_and_one, Divides}
use Rattle.detect.proofs.Powers.{after, after_last, after-⊕, after-swap, clear-replicate}
use Rattle.detect.proofs.Order.{Period, divides-period, period-divides, order}

-- ---- what one bit leaves of an empty register comes back exactly after a period: it is x^16

sixteenth : after 16 1 ≡ 4129
unfolding after run shift_in bit ◌⊕◌
sixteenth = refl

after-lt : (n r : ℕ) → r < 65536 → after n r < 65536
unfolding after
after-lt n r h = run-lt r (replicate n false) h

comes_back : (k : ℕ) → after k 4129 ≡ 4129 → Period k
unfolding after
comes_back k e =
    ⊕-cancel (after k 1) 1
    (run-clear (clear-replicate 16) (after k 1 ⊕ 1) (⊕-lt 16 (after-lt k 1 (lit< tt)) (lit< tt))
    (after-⊕ 16 (after k 1) 1
    ∙ ap₂ ◌⊕◌ (after-swap 16 k 1 ∙ ap (after k) sixteenth ∙ e) sixteenth
    ∙ ⊕-self 4129))

-- a set bit that comes in adds it
bit_in : (r : ℕ) → shift_in r true ≡ shift_in r false ⊕ 4129
unfolding shift_in bit ◌⊕◌
bit_in r = ap (λ (x : ℕ). shift_in x true) (sym (⊕-zero r)) ∙ shift_in-⊕ r 0 false true

-- ---- two bits anywhere in a row

no_ones : (bs : List Bool) → ones bs ≡ 0 → Clear bs
unfolding ones
no_ones [] e = none
no_ones (true ∷ bs) e = absurd (omega arith)
no_ones (false ∷ bs) e = next (no_ones bs e)

-- the last bit, behind d others, takes the register to 0 only if d + 1 zero bits made 4129 of it
last_bit : (bs : List Bool) (r : ℕ) → ones bs ≡ 1 → run r bs ≡ 0 → (d : ℕ) × (get_or bs d false ≡ true) × (after (suc d) r ≡ 4129)
unfolding ones run after
last_bit [] r o e = absurd (omega arith)
last_bit (true ∷ bs) r o e =
    (0, refl, ⊕-cancel (shift_in r false) 4129 (sym (bit_in r) ∙ run-clear (no_ones bs (suc_inj o)) (shift_in r true) (shift_in-lt r true) e))
last_bit (false ∷ bs) r o e = let l = last_bit bs (shift_in r false) o e in (suc l.0, l.1, l.2)

two-bits : (bs : List Bool) → ones bs ≡ 2 → run 0 bs ≡ 0
    → (i d : ℕ) × (get_or bs i false ≡ true) × (get_or bs (i + suc d) false ≡ true) × Period (suc d)
unfolding ones run shift_in bit ◌⊕◌
two-bits [] o e = absurd (omega arith)
two-bits (true ∷ bs) o e =
    let l = last_bit bs 4129 (suc_inj o) e in
    let n : 0 + suc l.0 ≡ suc l.0 = omega arith in
    (0, l.0, refl, subst (λ (k : ℕ). get_or (true ∷ bs) k false ≡ true) (sym n) l.1, comes_back (suc l.0) l.2)
two-bits (false ∷ bs) o e =
    let t = two-bits bs o e in
    let n : suc t.0 + suc t.1 ≡ suc (t.0 + suc t.1) = omega arith in
    (suc t.0, t.1, t.2, subst (λ (k : ℕ). get_or (false ∷ bs) k false ≡ true) (sym n) t.3, t.4)

pub pair-leaves : (bs : List Bool) → Pair bs → run 0 bs ≡ 0 → ⊥
pair-leaves bs p e =
    let t = two-bits bs p.two e in
    order.least (suc t.1) (zero-lt-suc t.1) (nearer t.0 t.1 (p.within t.0 t.2) (p.within (t.0 + suc t.1) t.3)) (period-divides t.1 t.4)
  where
    nearer : (i d : ℕ) → (p.first ≤ i) × (i < p.first + reach) → (p.first ≤ i + suc d) × (i + suc d < p.first + reach) → suc d < reach
    nearer i d a b = omega arith

-- ---- two bits as far apart as the order

goes-round : (n : ℕ) → Period (suc n) → shift_in (run 4129 (replicate n false)) false ≡ 4129
unfolding after
goes-round n p =
    sym (after_last n 4129) ∙ ap (after (suc n)) (sym sixteenth) ∙ after-swap (suc n) 16 1 ∙ ap (after 16) p ∙ sixteenth

pub pair-empty : (n : ℕ) → Divides (power_and_one (suc n)) → run 0 (power_and_one (suc n)) ≡ 0
unfolding run shift_in bit ◌⊕◌
pair-empty n d =
    run-++ 4129 (replicate n false) (true ∷ [])
    ∙ bit_in (run 4129 (replicate n false))
    ∙ ap (λ (z : ℕ). z ⊕ 4129) (goes-round n (divides-period n d))
    ∙ ⊕-self 4129
