-- A burst leaves a register that is not 0.
use mathlib.Core.Path.{◌≡◌, refl, sym, ap, ◌∙◌, subst}
use mathlib.Core.Bool.{Bool, true, false, false≢true}
use mathlib.Core.List.{List, [], ◌∷◌, ◌++◌}
use Prim.Native.Nat.{ℕ, zero, suc, ◌+◌, ◌*◌, ◌/◌, ◌%◌, ◌^◌, ◌-◌, ◌≤◌, ◌<◌}
use native.Mathlib.Nat.{pow-suc, zero-mod, mul-div_cancel, zero-lt-suc}
use native.Mathlib.Omega.{arith}
use lib.Arith.{mod-mul}
use lib.Dec.{eqb, lit<}
use lib.Pow.{pow_pos, mod-mod-pow}
use lib.ListN.{length, get_or, take, drop, take-append-drop, length-take}
use lib.Seq.{get_or-drop}
use Rattle.crc_register.specs.Crc.{◌⊕◌, differs, bit, feedback, shift_in, run}
use Rattle.detect.specs.Errors.{Within, longest, Burst}
use Rattle.crc_register.proofs.Xor.{⊕-zero, bit-⊕}
use Rattle.crc_register.proofs.Linear.{run-++}
use Rattle.crc_register.proofs.Zeros.{Clear, none, next, run-clear, run-lt}

-- a number whose k + 1 low bits are 0 is even, and its half's k low bits are 0
halving : (n k : ℕ) → n % 2 ^ suc k ≡ 0 → (n / 2 % 2 ^ k ≡ 0) × (n % 2 ≡ 0)
halving n k e =
    let f : n / 2 % 2 ^ k * 2 + n % 2 ≡ 0 = sym (mod-mul n (pow_pos k) (zero-lt-suc 1)) ∙ sym (ap (λ (m : ℕ). n % m) (pow-suc 2 k)) ∙ e in
    (omega arith, omega arith)

even-bit : (n : ℕ) → n % 2 ≡ 0 → bit n ≡ false
unfolding bit
even-bit n e = ap (λ (x : ℕ). eqb x 1) e

bit-feedback : (b : Bool) → bit (feedback b) ≡ b
unfolding bit
bit-feedback true = refl
bit-feedback false = refl

-- an even register was only shifted
only-shifted : (r : ℕ) (b : Bool) → shift_in r b % 2 ≡ 0 → shift_in r b ≡ (r * 2) % 65536
unfolding shift_in
only-shifted r b e =
    ap (λ (t : Bool). (r * 2) % 65536 ⊕ feedback t)
    (sym (bit-feedback (differs (bit (r / 32768)) b))
    ∙ sym (ap (λ (t : Bool). differs t (bit (feedback (differs (bit (r / 32768)) b)))) (even-bit ((r * 2) % 65536) (omega arith)))
    ∙ sym (bit-⊕ ((r * 2) % 65536) (feedback (differs (bit (r / 32768)) b)))
    ∙ even-bit ((r * 2) % 65536 ⊕ feedback (differs (bit (r / 32768)) b)) e)
    ∙ ⊕-zero ((r * 2) % 65536)

-- a register that 16 - k bits take to 0 has its k low bits 0
low_clear : (bs : List Bool) (k r : ℕ) → length bs + k ≡ 16 → run r bs ≡ 0 → r % 2 ^ k ≡ 0
unfolding run
low_clear [] k r h e = ap (λ (x : ℕ). x % 2 ^ k) e ∙ zero-mod (2 ^ k)
low_clear (b ∷ bs) k r h e =
    let h' : length bs + suc k ≡ 16 = omega arith in
    let z : shift_in r b % 2 ^ suc k ≡ 0 = low_clear bs (suc k) (shift_in r b) h' e in
    let s : shift_in r b ≡ (r * 2) % 65536 = only-shifted r b (halving (shift_in r b) k z).1 in
    let m : (r * 2) % 65536 % 2 ^ suc k ≡ (r * 2) % 2 ^ suc k =
    ap (λ (w : ℕ). (r * 2) % 2 ^ w % 2 ^ suc k) (sym h') ∙ mod-mod-pow (r * 2) (length bs) (suc k) in
    sym (ap (λ (x : ℕ). x % 2 ^ k) (mul-div_cancel r (zero-lt-suc 1)))
    ∙ (halving (r * 2) k (sym m ∙ ap (λ (x : ℕ). x % 2 ^ suc k) (sym s) ∙ z)).0

odd-generator : (k : ℕ) → 4129 % 2 ^ suc k ≡ 0 → ⊥
odd-generator k e = omega (arith, (halving 4129 k e).1)

room : (n : ℕ) → n < longest → n + suc (15 - n) ≡ 16
room n h = omega arith

pub short : (bs : List Bool) → length bs ≤ longest → run 0 bs ≡ 0 → Clear bs
unfolding run shift_in bit ◌⊕◌
short [] h e = none
short (true ∷ bs) h e = absurd (odd-generator (15 - length bs) (low_clear bs (suc (15 - length bs)) 4129 (room (length bs) h) e))
short (false ∷ bs) h e = next (short bs (omega arith) e)

-- ---- anywhere in a row

clear_of : (bs : List Bool) → ((k : ℕ) → get_or bs k false ≡ true → ⊥) → Clear bs
clear_of [] f = none
clear_of (true ∷ bs) f = absurd (f 0 refl)
clear_of (false ∷ bs) f = next (clear_of bs (λ k. f (suc k)))

clear-++ : {ds bs : List Bool} → Clear ds → Clear bs → Clear (ds ++ bs)
clear-++ none d = d
clear-++ (next c) d = next (clear-++ c d)

pub clear-get_or : {bs : List Bool} → Clear bs → (k : ℕ) → get_or bs k false ≡ true → ⊥
clear-get_or none k e = false≢true e
clear-get_or (next c) zero e = false≢true e
clear-get_or (next c) (suc k) e = clear-get_or c k e

at-start : (bs : List Bool) → ((k : ℕ) → get_or bs k false ≡ true → k < longest) → run 0 bs ≡ 0 → Clear bs
at-start bs w e =
    let rest : Clear (drop longest bs) = clear_of (drop longest bs) (λ k f. past k (w (longest + k) (sym (get_or-drop longest bs k false) ∙ f))) in
    let z : run (run 0 (take longest bs)) (drop longest bs) ≡ 0 = sym (run-++ 0 (take longest bs) (drop longest bs)) ∙ ap (run 0) (take-append-drop longest bs) ∙ e in
    subst Clear (take-append-drop longest bs)
    (clear-++ (short (take longest bs) (simp length-take (omega arith))
    (run-clear rest (run 0 (take longest bs)) (run-lt 0 (take longest bs) (lit< tt)) z)) rest)
  where
    past : (k : ℕ) → longest + k < longest → ⊥
    past k h = omega arith

anywhere : (bs : List Bool) (p : ℕ) → Within longest p bs → run 0 bs ≡ 0 → Clear bs
unfolding run shift_in bit ◌⊕◌
anywhere bs zero w e = at-start bs (λ k f. lower k (w k f)) e
  where
    lower : (k : ℕ) → (0 ≤ k) × (k < 0 + longest) → k < longest
    lower k h = omega arith
anywhere [] (suc p) w e = none
anywhere (true ∷ bs) (suc p) w e = absurd (never (w 0 refl))
  where
    never : (suc p ≤ 0) × (0 < suc p + longest) → ⊥
    never h = omega arith
anywhere (false ∷ bs) (suc p) w e = next (anywhere bs p (λ k f. down k (w (suc k) f)) e)
  where
    down : (k : ℕ) → (suc p ≤ suc k) × (suc k < suc p + longest) → (p ≤ k) × (k < p + longest)
    down k h = (omega arith, omega arith)

pub burst-leaves : (bs : List Bool) → Burst bs → run 0 bs ≡ 0 → ⊥
burst-leaves bs b e = clear-get_or (anywhere bs b.first b.within e) b.place b.set
