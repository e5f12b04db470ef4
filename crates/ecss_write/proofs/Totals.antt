-- What it says that a write gives a total, and when it does.
use Prim.Native.Nat.{ℕ, ◌-◌, ◌≤◌}
use mathlib.Core.Path.{◌≡◌, refl, sym, ap, subst, ◌∙◌}
use mathlib.Core.Bool.{Bool, true, false}
use native.Mathlib.Omega.{arith}
use lib.Dec.{lit≤}
use borrow.Author.Tests.{ltb-false, le-ltb}
use Rattle.space_packet.specs.Answer.{Numbers, Answer, gives, refuses, refuse_if, ◌then◌, in_buffer, and_then}
use Rattle.space_packet.proofs.Answers.{gives-inj, refuse-no, refuse-gives, then-gives, gives_then}
use Rattle.ecss.specs.Frame.{trailer, max_total}
use Rattle.ecss_write.specs.Write.{total_for, machine_total, limited, length_field, write_in}

pub trailer-le : (b : Bool) → trailer b ≤ 2
trailer-le true = lit≤ tt
trailer-le false = lit≤ tt

pub length-total : (start : ℕ) (b : Bool) (n t : ℕ) → machine_total start b n ≡ gives t → t ≡ total_for start b n
unfolding machine_total
length-total start b n t p = sym (gives-inj _ t (refuse-gives _ _ _ t p).1)

pub total-length : (start : ℕ) (b : Bool) (n t : ℕ) → t ≡ total_for start b n → t ≤ 18446744073709551615 → machine_total start b n ≡ gives t
unfolding machine_total
total-length start b n t e h = rw (sym e) (refuse-no _ _ _ (le-ltb 18446744073709551615 t h))

pub in-buffer-is : (m n t : ℕ) → in_buffer m n ≡ gives t → (t ≡ n) × (n ≤ m)
in-buffer-is m n t p = let r = refuse-gives _ _ _ t p in (sym (gives-inj n t r.1), ltb-false m n r.0)

-- what is asked of a total that is not refused may be asked of what the refusal hands on
refused-or-same : (b : Bool) (e : Numbers) (t : ℕ) (f : ℕ → Answer ℕ) → (refuse_if b e (gives t) then λ _. f t) ≡ (refuse_if b e (gives t) then f)
unfolding and_then refuse_if
refused-or-same true e t f = refl
refused-or-same false e t f = refl

-- so the limit is a step of its own between a total a and what is asked after it
pub limit-first : (n : ℕ) (a : Answer ℕ) (f : ℕ → Answer ℕ) → (a then λ t. limited n t then λ _. f t) ≡ ((a then limited n) then f)
unfolding and_then
limit-first n (refuses e) f = refl
limit-first n (gives t) f = refused-or-same _ _ t f

pub limited-most : (n : ℕ) (a : Answer ℕ) (t : ℕ) → (a then limited n) ≡ gives t → t ≤ max_total
limited-most n a t p =
    let r = refuse-gives _ _ _ t (then-gives a (limited n) t p).2 in
    subst (λ x. x ≤ max_total) (gives-inj _ t r.1) (ltb-false max_total _ r.0)

-- the length field of a total
pub field_is : (start : ℕ) (b : Bool) (n t f : ℕ) → machine_total start b n ≡ gives t → t ≤ max_total → f ≡ t - 7 → length_field start b n ≡ gives f
unfolding length_field
field_is start b n t f e h k = gives_then _ _ t e ∙ gives_then _ _ t (refuse-no _ _ _ (le-ltb max_total t h)) ∙ ap gives (sym k)

-- the data has room in a buffer of m octets, and the packet is t octets
pub record WriteIs (start : ℕ) (b : Bool) (n m t : ℕ) : Type 0 where
  pub is : t ≡ total_for start b n
  pub fits : t ≤ m

pub write-total : (start : ℕ) (b : Bool) (n m t : ℕ) → write_in start b n m ≡ gives t → WriteIs start b n m t
unfolding write_in
write-total start b n m t p =
    let q = then-gives (machine_total start b n) (in_buffer m) t p in
    let r = in-buffer-is m q.0 t q.2 in
    record { is = r.0 ∙ length-total start b n q.0 q.1; fits = omega (arith, r.0, r.1) }

pub total-write : (start : ℕ) (b : Bool) (n m t : ℕ) → WriteIs start b n m t → m ≤ 18446744073709551615 → write_in start b n m ≡ gives t
unfolding write_in
total-write start b n m t w h =
    let f : t ≤ m = w.fits in
    gives_then _ _ t (total-length start b n t w.is (omega arith)) ∙ refuse-no _ _ _ (le-ltb m t f)
