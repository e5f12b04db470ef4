-- The order of the generator is 32,767 = 7 * 31 * 151. Where x^k and x^32767 are 1, so is x^(32767 / q) for each of the three primes q
-- that does not divide k, and below 32,767 one does not. So four powers are computed, and not 32,766.
use mathlib.Core.Path.{◌≡◌, refl, sym, ap, ap₂, ◌∙◌, subst}
use mathlib.Core.Bool.{Bool, true, false, not}
use mathlib.Core.List.{[], ◌∷◌, ◌++◌}
use Prim.Native.Nat.{ℕ, zero, suc, ◌+◌, ◌-◌, ◌*◌, ◌/◌, ◌%◌, ◌^◌, ◌<◌}
use native.Mathlib.Nat.{mod-lt, mul-add-mod_self_left, div-add-mod, mul_assoc, mul_comm, add-mul, suc-mul, zero-mul, one-mul}
use native.Mathlib.Decide.{ℕ_discrete}
use native.Mathlib.Omega.{arith}
use lib.Dec.{T, T_not, eqb, eqb→eq, eqb_refl, lit<}
use lib.ListN.{replicate}
use Rattle.crc_register.specs.Crc.{◌⊕◌, bit, shift_in, run, octet_bits}
use Rattle.crc_register.specs.Division.{reduce, divide, remainder, number, Remainder}
use Rattle.crc_register.proofs.Below.{all, below}
use Rattle.crc_register.proofs.Xor.{⊕-zero, ⊕-self, ⊕-cancel}
use Rattle.crc_register.proofs.Division.{bring}
use Rattle.crc_register.proofs.Remainder.{is-a-remainder, only-remainder}
use Rattle.crc_register.proofs.Zeros.{shift_in-lt}
use Rattle.detect.specs.Errors.{reach}
use Rattle.detect.specs.Order.{power_and_one, Divides, Order}
use Rattle.detect.proofs.Powers.{after, after-+, times, power, known, power_of, computed, after-power}

-- ---- x^k + 1 is divided exactly where x^k is 1

abbrev pub Period : ℕ → Type 0
Period k = after k 1 ≡ 1

remains-from : (n r : ℕ) → r < 65536 → divide r (replicate n false ++ (true ∷ [])) ≡ after (suc n) r ⊕ 1
unfolding divide after run
remains-from zero r h = bring r true h
remains-from (suc n) r h =
    ap (λ (z : ℕ). divide z (replicate n false ++ (true ∷ []))) (bring r false h ∙ ⊕-zero (shift_in r false))
    ∙ remains-from n (shift_in r false) (shift_in-lt r false)

remains : (n : ℕ) → remainder (power_and_one (suc n)) ≡ after (suc n) 1 ⊕ 1
unfolding remainder divide reduce bit ◌⊕◌
remains n = remains-from n 1 (lit< tt)

pub divides-period : (n : ℕ) → Divides (power_and_one (suc n)) → Period (suc n)
divides-period n d =
    ⊕-cancel (after (suc n) 1) 1
    (sym (remains n) ∙ only-remainder (power_and_one (suc n)) (remainder (power_and_one (suc n))) 0 (is-a-remainder (power_and_one (suc n))) d)

pub period-divides : (n : ℕ) → Period (suc n) → Divides (power_and_one (suc n))
period-divides n p =
    subst (λ (r : ℕ). Remainder (power_and_one (suc n)) r) (remains n ∙ ap (λ (z : ℕ). z ⊕ 1) p ∙ ⊕-self 1) (is-a-remainder (power_and_one (suc n)))

-- ---- periods

less : (m n : ℕ) → Period m → Period (m + n) → Period n
less m n p q = ap (after n) (sym p) ∙ sym (after-+ m n 1) ∙ q

multiple : (k c : ℕ) → Period k → Period (c * k)
unfolding after run
multiple k zero p = ap (λ (m : ℕ). after m 1) (zero-mul k)
multiple k (suc c) p =
    ap (λ (m : ℕ). after m 1) (suc-mul c k) ∙ after-+ (c * k) k 1 ∙ ap (after k) (multiple k c p) ∙ p

at-reach : Period reach
unfolding times power known number octet_bits bit shift_in ◌⊕◌
at-reach = after-power reach tt

-- ---- the primes

-- the inverse of r modulo a prime q is r^(q - 2)
abbrev inverts : ℕ → ℕ → Bool
inverts q zero = true
inverts q (suc r) = eqb ((suc r * suc r ^ (q - 2)) % q) 1

-- where q does not divide a period, m = reach / q would be one too
module _ (q m : ℕ) (above : 0 < q) (whole : q * m ≡ reach) (prime : T (all (inverts q) q)) (k : ℕ) (period : Period k) (apart : k % q ≡ 0 → ⊥) where
  inverse : (r : ℕ) → (r ≡ 0 → ⊥) → r < q → (r * r ^ (q - 2)) % q ≡ 1
  inverse zero n h = absurd (n refl)
  inverse (suc r) n h = eqb→eq ((suc r * suc r ^ (q - 2)) % q) 1 (below (inverts q) q prime (suc r) h)

  abbrev u : ℕ
  u = (k % q) ^ (q - 2)

  abbrev c : ℕ
  c = k * u / q

  one : (k * u) % q ≡ 1
  one =
      ap (λ (z : ℕ). (z * u) % q) (sym (div-add-mod k q))
      ∙ ap (λ (z : ℕ). z % q) (add-mul (q * (k / q)) (k % q) u ∙ ap (λ (z : ℕ). z + k % q * u) (mul_assoc q (k / q) u))
      ∙ mul-add-mod_self_left q (k / q * u) (k % q * u)
      ∙ inverse (k % q) apart (mod-lt k above)

  sum : u * m * k ≡ c * reach + m
  sum =
      mul_comm (u * m) k
      ∙ sym (mul_assoc k u m)
      ∙ ap (λ (z : ℕ). z * m) (sym (div-add-mod (k * u) q) ∙ ap (λ (z : ℕ). q * c + z) one)
      ∙ add-mul (q * c) 1 m
      ∙ ap₂ ◌+◌ (ap (λ (z : ℕ). z * m) (mul_comm q c) ∙ mul_assoc c q m ∙ ap (λ (z : ℕ). c * z) whole) (one-mul m)

  divided : Period m
  divided = less (c * reach) m (multiple reach c at-reach) (sym (ap (λ (n : ℕ). after n 1) sum) ∙ multiple k (u * m) period)

  -- which it is not
  not-divided : T (computed m) → T (not (eqb (power_of m) 1)) → ⊥
  not-divided t n = T_not (eqb (power_of m) 1) n (subst (λ (z : ℕ). T (eqb z 1)) (sym divided ∙ after-power m t) (eqb_refl 1))

-- what the three primes divide, 32767 does: 9 * 7 - 2 * 31 and 23 * 151 - 16 * 217 are 1
in_all : (k : ℕ) → k % 7 ≡ 0 → k % 31 ≡ 0 → k % 151 ≡ 0 → k ≡ 32767 * (23 * (9 * (k / 31) - 2 * (k / 7)) - 16 * (k / 151))
in_all k a b c = omega arith

-- ---- the order

no-period : (k : ℕ) → 0 < k → k < reach → Period k → ⊥
unfolding times power known number octet_bits bit shift_in ◌⊕◌
no-period k above under p = by-prime (ℕ_discrete (k % 7) 0) (ℕ_discrete (k % 31) 0) (ℕ_discrete (k % 151) 0)
  where
    by-prime : Dec (k % 7 ≡ 0) → Dec (k % 31 ≡ 0) → Dec (k % 151 ≡ 0) → ⊥
    by-prime (no a) b c = not-divided 7 4681 (lit< tt) refl tt k p a tt tt
    by-prime (yes a) (no b) c = not-divided 31 1057 (lit< tt) refl tt k p b tt tt
    by-prime (yes a) (yes b) (no c) = not-divided 151 217 (lit< tt) refl tt k p c tt tt
    by-prime (yes a) (yes b) (yes c) = omega (arith, in_all k a b c)

pub order : Order reach
order = record { above = lit< tt; divides = period-divides (reach - 1) at-reach; least = least }
  where
    least : (k : ℕ) → 0 < k → k < reach → Divides (power_and_one k) → ⊥
    least zero above under d = omega arith
    least (suc n) above under d = no-period (suc n) above under (divides-period n d)
