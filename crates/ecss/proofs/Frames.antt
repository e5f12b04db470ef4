-- What it says that the length checks give a total, and when they do.
use Prim.Native.Nat.{ℕ, zero, suc, ◌+◌, ◌≤◌, ◌<◌}
use mathlib.Core.Path.{◌≡◌, refl, sym, ap, ◌∙◌}
use mathlib.Core.Bool.{Bool, true, false, not}
use mathlib.Core.List.{List, [], ◌∷◌}
use native.Mathlib.Omega.{arith}
use lib.ListN.{length, take, drop, drop_of_length-le}
use lib.Seq.{length-take-le}
use borrow.Author.Tests.{ltb-false, le-ltb, eq-eqb, eqb-true, not-false}
use Rattle.space_packet.specs.Answer.{Numbers, refusal, gives, refuse_if, and_then}
use Rattle.space_packet.proofs.Answers.{gives-inj, refuse-no, refuse-gives, then-gives, gives_then, then-of, if-then, Holds, holds-if}
use Rattle.crc_register.specs.Crc.{crc_of}
use Rattle.ecss.specs.Frame.{trailer, stated_of, stored_of, computed_of, checksum_fits, frame_of, verifies, verified, checked_of}

-- the octets begin with a frame of n octets
pub record FrameIs (start : ℕ) (s : List ℕ) (b : Bool) (n : ℕ) : Type 0 where
  pub is : n ≡ stated_of s
  pub room : start + trailer b ≤ n
  pub fits : n ≤ length s

room-total : (start : ℕ) (b : Bool) (m n : ℕ) → start ≤ m → checksum_fits start b m ≡ gives n → (n ≡ m) × (start + trailer b ≤ m)
room-total start true m n h p = let q = refuse-gives _ _ _ n p in (sym (gives-inj m n q.1), ltb-false m (start + 2) q.0)
room-total start false m n h p = (sym (gives-inj m n p), omega arith)

total-room : (start : ℕ) (b : Bool) (n : ℕ) → start + trailer b ≤ n → checksum_fits start b n ≡ gives n
total-room start true n h = refuse-no _ _ _ (le-ltb n (start + 2) h)
total-room start false n h = refl

pub frame-total : (start : ℕ) (s : List ℕ) (b : Bool) (n : ℕ) → frame_of start s b ≡ gives n → FrameIs start s b n
unfolding frame_of
frame-total start s b n p =
    let p1 = refuse-gives _ _ _ n p in
    let p2 = refuse-gives _ _ _ n p1.1 in
    let p3 = refuse-gives _ _ _ n p2.1 in
    let q = room-total start b (stated_of s) n (ltb-false _ _ p3.0) p3.1 in
    let h : stated_of s ≤ length s = ltb-false _ _ p2.0 in
    let e : n ≡ stated_of s = q.0 in
    let l : start + trailer b ≤ stated_of s = q.1 in
    record { is = e; room = omega arith; fits = omega arith }

pub total-frame : (start : ℕ) (s : List ℕ) (b : Bool) (n : ℕ) → FrameIs start s b n → frame_of start s b ≡ gives n
unfolding frame_of
total-frame start s b n f =
    let h : start + trailer b ≤ n = f.room in
    let k : n ≤ length s = f.fits in
    rw (sym f.is)
    (refuse-no _ _ _ (le-ltb (length s) start (omega arith)) ∙ refuse-no _ _ _ (le-ltb (length s) n k)
    ∙ refuse-no _ _ _ (le-ltb n start (omega arith)) ∙ total-room start b n h)

-- the length checks refuse with 2
room-holds : (start : ℕ) (b : Bool) (n : ℕ) → Holds (λ (m : ℕ). Unit {0}) (λ (e : Numbers). e.number ≡ 2) (checksum_fits start b n)
room-holds start true n = holds-if _ _ _ _ _ (λ _. refl) (λ _. tt)
room-holds start false n = tt

pub frame-holds : (start : ℕ) (s : List ℕ) (b : Bool) → Holds (λ (m : ℕ). Unit {0}) (λ (e : Numbers). e.number ≡ 2) (frame_of start s b)
unfolding frame_of
frame-holds start s b =
    holds-if _ _ _ _ _ (λ _. refl)
    (λ _. holds-if _ _ _ _ _ (λ _. refl) (λ _. holds-if _ _ _ _ _ (λ _. refl) (λ _. room-holds start b (stated_of s))))

-- what it holds has room for a checksum
pub frame-two : (start : ℕ) (s : List ℕ) (n : ℕ) → FrameIs start s true n → 2 ≤ length (take n s)
frame-two start s n f = let e : length (take n s) ≡ n = length-take-le n s f.fits in omega (arith, f.room)

-- the checks with checksum: a frame that verifies
pub checked-total : (start : ℕ) (s : List ℕ) (n : ℕ) → checked_of start s ≡ gives n → FrameIs start s true n × (crc_of (take n s) ≡ 0)
unfolding checked_of
checked-total start s n p =
    let q = then-gives (frame_of start s true) _ n p in
    let v = then-gives (verified (take q.0 s) (stored_of s q.0)) _ n q.2 in
    let e : q.0 ≡ n = gives-inj q.0 n v.2 in
    let z = eqb-true _ 0 (not-false _ (refuse-gives _ _ _ _ (refuse-gives _ _ _ _ v.1).1).0) in
    (frame-total start s true n (q.1 ∙ ap gives e), ap (λ (x : ℕ). crc_of (take x s)) (sym e) ∙ z)

-- which has two octets or more, so that after the length checks only 4 is left to refuse with
pub checked-frame : (start : ℕ) (s : List ℕ) (n : ℕ) → FrameIs start s true n
    → checked_of start s ≡ refuse_if (not (verifies (take n s))) (refusal 4 (stored_of s n ∷ computed_of s n ∷ [])) (gives n)
unfolding checked_of and_then
checked-frame start s n f =
    gives_then _ _ n (total-frame start s true n f)
    ∙ then-of _ _ (λ _. gives n) (refuse-no _ _ _ (le-ltb (length (take n s)) 2 (frame-two start s n f)))
    ∙ if-then (not (verifies (take n s))) _ (gives tt) (λ _. gives n)

pub total-checked : (start : ℕ) (s : List ℕ) (n : ℕ) → FrameIs start s true n → crc_of (take n s) ≡ 0 → checked_of start s ≡ gives n
total-checked start s n f z = checked-frame start s n f ∙ refuse-no _ _ _ (ap not (eq-eqb _ 0 z))

-- ---- parts

nothing : (n : ℕ) → take {A = ℕ} n [] ≡ []
nothing zero = refl
nothing (suc n) = refl

-- fewer octets leave none behind them
pub none_left : (at n : ℕ) (s : List ℕ) → length s < at → take n (drop at s) ≡ []
none_left at n s h = let e : length s ≤ at = omega arith in ap (take n) (drop_of_length-le s e) ∙ nothing n
