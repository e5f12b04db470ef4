-- What is sealed verifies, and what verifies is sealed.
use Prim.Native.Nat.{ℕ, suc, ◌+◌, ◌-◌, ◌*◌, ◌/◌, ◌%◌, ◌≤◌, ◌<◌}
use mathlib.Core.Path.{◌≡◌, sym, ap, ◌∙◌}
use mathlib.Core.Logic.{◌↔◌}
use mathlib.Core.Bool.{true, not}
use mathlib.Core.List.{List, [], ◌∷◌, ◌++◌}
use native.Mathlib.Omega.{arith}
use lib.ListN.{length, get_or, take, length-append}
use lib.Seq.{take_all, take-add, drop-cons}
use borrow.Author.Tests.{le-ltb, eq-eqb, ne_eqb, eqb-true}
use Rattle.space_packet.specs.Bits.{be16}
use Rattle.space_packet.specs.Answer.{gives, refuses, refusal}
use Rattle.space_packet.proofs.Answers.{refuse-yes, refuse-no}
use Rattle.crc_register.specs.Crc.{run, octet_bits, crc_of}
use Rattle.crc_register.proofs.Linear.{crc_from-++}
use Rattle.crc_register.proofs.Residue.{two-octets, residue}
use Rattle.crc_register.proofs.Zeros.{crc_of-lt}
use Rattle.ecss.specs.Frame.{Octets, sealed, verifies, unsealed, verified, stored_of}

pub sealed-length : (l : List ℕ) → length (sealed l) ≡ length l + 2
unfolding sealed
sealed-length l = length-append l (be16 (crc_of l))

pub sealed-verifies : (l : List ℕ) → crc_of (sealed l) ≡ 0
unfolding sealed
sealed-verifies l =
    let b : crc_of l < 65536 = crc_of-lt l in
    (residue l (crc_of l / 256) (crc_of l % 256) (omega arith) (omega arith)).1 (omega arith)

pub verifies-sealed : (l : List ℕ) (a b : ℕ) → a < 256 → b < 256 → crc_of (l ++ (a ∷ b ∷ [])) ≡ 0 → l ++ (a ∷ b ∷ []) ≡ sealed l
unfolding sealed
verifies-sealed l a b ha hb e =
    let r : crc_of l ≡ a * 256 + b = (residue l a b ha hb).0 e in
    let p : a ≡ crc_of l / 256 = omega arith in
    let q : b ≡ crc_of l % 256 = omega arith in
    λ i. l ++ (p i ∷ q i ∷ [])

-- ---- the last two octets

-- two octets more
pub take-two : (s : List ℕ) (n : ℕ) → n + 2 ≤ length s → take (n + 2) s ≡ take n s ++ (get_or s n 0 ∷ get_or s (n + 1) 0 ∷ [])
take-two s n h =
    let e : suc n ≡ n + 1 = omega arith in
    let t : take (n + 2) s ≡ take n s ++ (get_or s n 0 ∷ get_or s (suc n) 0 ∷ []) =
    take-add n 2 s ∙ rw (drop-cons s n 0 (omega arith), drop-cons s (suc n) 0 (omega arith)) in
    t ∙ ap (λ (m : ℕ). take n s ++ (get_or s n 0 ∷ get_or s m 0 ∷ [])) e

last-two : (s : List ℕ) → 2 ≤ length s → s ≡ unsealed s ++ (get_or s (length s - 2) 0 ∷ get_or s (length s - 2 + 1) 0 ∷ [])
last-two s h = sym (take_all (length s - 2 + 2) s (omega arith)) ∙ take-two s (length s - 2) (omega arith)

-- the register takes them in last
pub crc-last-two : (s : List ℕ) → 2 ≤ length s
    → run (run (crc_of (unsealed s)) (octet_bits (get_or s (length s - 2) 0))) (octet_bits (get_or s (length s - 1) 0)) ≡ crc_of s
crc-last-two s h =
    let e : length s - 1 ≡ length s - 2 + 1 = omega arith in
    ap (λ (i : ℕ). run (run (crc_of (unsealed s)) (octet_bits (get_or s (length s - 2) 0))) (octet_bits (get_or s i 0))) e
    ∙ sym (ap crc_of (last-two s h) ∙ crc_from-++ 65535 (unsealed s) _ ∙ two-octets (crc_of (unsealed s)) _ _)

-- two octets or more verify exactly when their last two are the checksum of those before, the higher octet first
pub verifies-last-two : (s : List ℕ) → Octets s → 2 ≤ length s → (verifies s ≡ true) ↔ (stored_of s (length s) ≡ crc_of (unsealed s))
verifies-last-two s o h =
    let e = ap crc_of (last-two s h) in
    let r = residue (unsealed s) _ _ (o (length s - 2)) (o (length s - 2 + 1)) in
    (λ v. sym (r.0 (sym e ∙ eqb-true _ 0 v)), λ q. eq-eqb _ 0 (e ∙ r.1 (sym q)))

-- what verifying answers to two octets or more
module _ (s : List ℕ) (stored : ℕ) (h : 2 ≤ length s) where
  pub verified-passes : crc_of s ≡ 0 → verified s stored ≡ gives tt
  verified-passes z = refuse-no _ _ _ (le-ltb (length s) 2 h) ∙ refuse-no _ _ _ (ap not (eq-eqb _ 0 z))

  pub verified-fails : (crc_of s ≡ 0 → ⊥) → verified s stored ≡ refuses (refusal 4 (stored ∷ crc_of (unsealed s) ∷ []))
  verified-fails z = refuse-no _ _ _ (le-ltb (length s) 2 h) ∙ refuse-yes _ _ _ (ap not (ne_eqb _ 0 z))
