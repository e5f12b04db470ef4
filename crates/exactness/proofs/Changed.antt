-- A packet that was accepted is refused once bits of it are changed in a way that the checksum detects: for every kind.
use Prim.Native.Nat.{ℕ, suc, ◌*◌, ◌≤◌, zero-le, suc-le-suc}
use mathlib.Core.Path.{◌≡◌, refl, sym, ap, ap₂, ◌∙◌, subst}
use mathlib.Core.Bool.{Bool}
use mathlib.Core.List.{List, [], ◌∷◌}
use native.Mathlib.Omega.{arith}
use native.Mathlib.Nat.{suc_inj}
use lib.ListN.{length, take, length-take}
use lib.Seq.{length-take-le}
use Rattle.space_packet.specs.Answer.{Answer, Numbers, gives, refuses}
use Rattle.crc_register.specs.Crc.{◌⊕◌, octet_bits, bits_of, crc_of}
use Rattle.crc_register.specs.Added.{add_bits, add_octets}
use Rattle.crc_register.proofs.Xor.{⊕-assoc, ⊕-self, zero-⊕}
use Rattle.crc_register.proofs.Linear.{bits_of-⊕}
use Rattle.detect.specs.Errors.{Detected, UpToThree}
use Rattle.detect.proofs.Detect.{detects}
use Rattle.detect.proofs.UpToThree.{three-bits, up-to-three-detected}
use Rattle.ecss.specs.Frame.{stated_of}
use Rattle.ecss.specs.Kind.{Kind, Packet, judge}
use Rattle.exactness.specs.Changed.{ChangedIn, Changed, UpToThreeChanged, differences}
use Rattle.exactness.proofs.Exact.{accepted}

-- ---- the error that leads from one row of octets to another is their sum

add-length : (s t : List ℕ) → length s ≡ length t → length s ≡ length (add_octets s t)
unfolding add_octets
add-length [] [] h = refl
add-length [] (y ∷ t) h = refl
add-length (x ∷ s) [] h = absurd (omega arith)
add-length (x ∷ s) (y ∷ t) h = ap suc (add-length s t (suc_inj h))

pub add_back : (s t : List ℕ) → length s ≡ length t → add_octets s (add_octets s t) ≡ t
unfolding add_octets
add_back [] [] h = refl
add_back [] (y ∷ t) h = absurd (omega arith)
add_back (x ∷ s) [] h = absurd (omega arith)
add_back (x ∷ s) (y ∷ t) h =
    ap₂ ◌∷◌ (sym (⊕-assoc x x y) ∙ ap (λ (z : ℕ). z ⊕ y) (⊕-self x) ∙ zero-⊕ y) (add_back s t (suc_inj h))

-- where no such error of octets that verify goes undetected, these and octets that differ from them so do not both verify
not-both-by : (D : List Bool → Type 0) (s t : List ℕ) → ((e : List ℕ) → length s ≡ length e → D (bits_of e) → crc_of (add_octets s e) ≡ 0 → ⊥)
    → length s ≡ length t → D (differences s t) → crc_of t ≡ 0 → ⊥
not-both-by D s t tells h d z = tells (add_octets s t) (add-length s t h) (subst D (sym (bits_of-⊕ s t h)) d) (ap crc_of (add_back s t h) ∙ z)

-- octets that differ so do not both verify
pub not-both : (s t : List ℕ) → length s ≡ length t → Detected (differences s t) → crc_of s ≡ 0 → crc_of t ≡ 0 → ⊥
not-both s t h d z z' =
    detects s (add_octets s t) (add-length s t h) z (subst Detected (sym (bits_of-⊕ s t h)) d)
    (ap crc_of (add_back s t h) ∙ z')

-- ---- one, two or three bits of a packet that is short enough

bits-length : (s : List ℕ) → length (bits_of s) ≡ 8 * length s
unfolding bits_of octet_bits
bits-length [] = refl
bits-length (o ∷ s) = let e = bits-length s in omega arith

added-length : (xs ys : List Bool) → length (add_bits xs ys) ≤ length xs
unfolding add_bits
added-length [] ys = zero-le
added-length (x ∷ xs) [] = zero-le
added-length (x ∷ xs) (y ∷ ys) = suc-le-suc (added-length xs ys)

differences-length : (s s' : List ℕ) (t : ℕ) → length (differences (take t s) (take t s')) ≤ 8 * t
differences-length s s' t =
    let a = added-length (bits_of (take t s)) (bits_of (take t s')) in
    let b = bits-length (take t s) in
    let c = length-take t s in
    omega arith

pub up-to-three-changed : (s s' : List ℕ) (t : ℕ) → UpToThreeChanged s s' t → Changed s s' t
up-to-three-changed s s' t d =
    let c = d.changed in
    let n = differences-length s s' t in
    record { four = c.four; five = c.five; bits = up-to-three-detected (differences (take t s) (take t s')) (omega (arith, n, d.at_most)) c.bits }

-- ---- the verdict

or-refused : {A : Type 0} (a : Answer A) → ((x : A) → a ≡ gives x → ⊥) → (n : Numbers) × (a ≡ refuses n)
or-refused (refuses n) f = (n, refl)
or-refused (gives x) f = absurd (f x refl)

module _ {H : Type 0} (k : Kind H) (s s' : List ℕ) (p : Packet H) (h : judge k s ≡ gives p) where
  -- the packet that s begins with
  abbrev own : List ℕ
  own = take (stated_of s) s

  module _ (D : List Bool → Type 0) (tells : crc_of own ≡ 0 → (e : List ℕ) → length own ≡ length e → D (bits_of e) → crc_of (add_octets own e) ≡ 0 → ⊥)
      (d : ChangedIn D s s' (stated_of s)) where
    not-accepted : (q : Packet H) → judge k s' ≡ gives q → ⊥
    not-accepted q h' =
        let a = accepted k s p h in
        let a' = accepted k s' q h' in
        let four = d.four in
        let five = d.five in
        let e : stated_of s ≡ stated_of s' = omega arith in
        let l = length-take-le (stated_of s) s (omega arith) in
        let l' = length-take-le (stated_of s) s' (omega arith) in
        not-both-by D own (take (stated_of s) s') (tells a.verifies) (l ∙ sym l') d.bits (ap (λ (n : ℕ). crc_of (take n s')) e ∙ a'.verifies)

    refused-in : (n : Numbers) × (judge k s' ≡ refuses n)
    refused-in = or-refused (judge k s') not-accepted

  -- octets that agree with accepted ones in 4 and 5, and differ from them so inside their stated total, are refused, whatever follows
  -- the total, and also where they end before it
  pub refused : Changed s s' (stated_of s) → (n : Numbers) × (judge k s' ≡ refuses n)
  refused = refused-in Detected (λ z e l d. detects own e l z d)

  -- and so are those that differ in one, two or three bits, by the one fact about the checksum
  pub refused-three : UpToThreeChanged s s' (stated_of s) → (n : Numbers) × (judge k s' ≡ refuses n)
  refused-three d =
      let n = length-take (stated_of s) s in
      refused-in UpToThree (λ z e l. three-bits own e l z (omega (arith, n, d.at_most))) d.changed
