-- What is detected is the most that can be said so: the generator and the farthest pair go undetected.
use mathlib.Core.Path.{◌≡◌, refl, ap, ap₂, ◌∙◌}
use mathlib.Core.Bool.{Bool, true, false}
use mathlib.Core.List.{List, ◌++◌}
use Prim.Native.Nat.{ℕ, ◌+◌, ◌-◌, ◌≤◌, ◌<◌}
use native.Mathlib.Nat.{lt_of_not-le, le_of_suc-le-suc}
use native.Mathlib.Omega.{arith}
use lib.ListN.{length, get_or, take, drop, replicate}
use lib.Seq.{get_or-take, get_or-drop}
use Rattle.crc_register.specs.Crc.{◌⊕◌, bit, shift_in, run, octet_bits, bits_of, crc_from, crc_of}
use Rattle.crc_register.specs.Added.{add_octets}
use Rattle.crc_register.proofs.Xor.{zero-⊕}
use Rattle.crc_register.proofs.Linear.{run-++, crc_of-⊕}
use Rattle.crc_register.proofs.Zeros.{Clear, none, next, run-clear-zero}
use Rattle.detect.specs.Errors.{ones, Within, longest, reach}
use Rattle.detect.specs.Most.{generator, Most}
use Rattle.detect.specs.Order.{power_and_one}
use Rattle.detect.proofs.Burst.{clear-get_or}
use Rattle.detect.proofs.Powers.{clear-replicate}
use Rattle.detect.proofs.Order.{order}
use Rattle.detect.proofs.Pair.{pair-empty}

empty : crc_from 0 generator ≡ 0
unfolding ◌⊕◌ bit shift_in run octet_bits bits_of crc_from
empty = refl

module _ (n first : ℕ) (bs : List Bool) where
  behind : (k : ℕ) → Clear (drop (first + n) bs) → get_or bs k false ≡ true → first + n ≤ k → ⊥
  behind k c e h =
      let i : first + n + (k - (first + n)) ≡ k = omega arith in
      clear-get_or c (k - (first + n)) (get_or-drop (first + n) bs (k - (first + n)) false ∙ ap (λ (m : ℕ). get_or bs m false) i ∙ e)

  -- where no bit is set before a run, and none behind it, all lie within it
  within-run : Clear (take first bs) → Clear (drop (first + n) bs) → Within n first bs
  within-run a b k e = (
    le_of_suc-le-suc (lt_of_not-le (λ h. clear-get_or a k (get_or-take first bs k false h ∙ e))),
    lt_of_not-le (behind k b e),
  )

first-and-last : (first : ℕ) → (first ≤ 7) × (7 < first + longest) → (first ≤ 23) × (23 < first + longest) → ⊥
first-and-last first f l = omega arith

-- ---- the farthest pair

far-empty : (i j : ℕ) → run 0 (replicate i false ++ (power_and_one reach ++ replicate j false)) ≡ 0
far-empty i j =
    run-++ 0 (replicate i false) (power_and_one reach ++ replicate j false)
    ∙ ap (λ (r : ℕ). run r (power_and_one reach ++ replicate j false)) (run-clear-zero (clear-replicate i))
    ∙ run-++ 0 (power_and_one reach) (replicate j false)
    ∙ ap (λ (r : ℕ). run r (replicate j false)) (pair-empty (reach - 1) order.divides)
    ∙ run-clear-zero (clear-replicate j)

leaves_nothing : (s e : List ℕ) → length s ≡ length e → crc_from 0 e ≡ 0 → crc_of s ≡ 0 → crc_of (add_octets s e) ≡ 0
leaves_nothing s e h n z = crc_of-⊕ s e h ∙ ap₂ ◌⊕◌ z n ∙ zero-⊕ 0

pub most : Most
unfolding crc_from ones octet_bits bits_of bit
most =
    record {
      undetected = λ s h z. leaves_nothing s generator h empty z;
      four = refl;
      no-fewer = λ first w. first-and-last first (w 7 refl) (w 23 refl);
      one_more = within-run (longest + 1) 7 (bits_of generator) (next (next (next (next (next (next (next none))))))) none;
      far = λ s e i j h b z. leaves_nothing s e h (ap (run 0) b ∙ far-empty i j) z;
      far-octets = refl;
      far-bits = refl;
    }
