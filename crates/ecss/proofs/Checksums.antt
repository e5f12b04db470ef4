-- Where the checks with checksum refuse a packet with 4, its two checksums are told, and differ.
use Prim.Native.Nat.{ℕ, ◌+◌, ◌*◌, ◌-◌}
use mathlib.Core.Path.{◌≡◌, refl, sym, ap, ap₂, ◌∙◌, subst}
use mathlib.Core.Bool.{true, not, false≢true}
use mathlib.Core.List.{List, [], ◌∷◌}
use native.Mathlib.Omega.{arith}
use lib.ListN.{length, take}
use lib.Seq.{length-take-le, get_or-take}
use Rattle.space_packet.specs.Answer.{refusal}
use Rattle.space_packet.proofs.Answers.{Holds, holds-if, holds_then, holds_more}
use Rattle.ecss.specs.Frame.{Octets, verifies, stored_of, computed_of, frame_of, checked_of, BothChecksums, Told}
use Rattle.ecss.proofs.Frames.{FrameIs, frame-total, frame-holds, frame-two}
use Rattle.ecss.proofs.Sealed.{verifies-last-two}
use Rattle.ecss.proofs.Pieces.{octets-take}

module _ (start : ℕ) (s : List ℕ) (o : Octets s) where
  -- a packet that does not verify stores another checksum than that of its octets before
  stored-differs : (n : ℕ) → FrameIs start s true n → not (verifies (take n s)) ≡ true → stored_of s n ≡ computed_of s n → ⊥
  stored-differs n f t e =
      let h = frame-two start s n f in
      let l : length (take n s) ≡ n = length-take-le n s f.fits in
      let w : stored_of (take n s) n ≡ stored_of s n =
      ap₂ (λ (x y : ℕ). x * 256 + y) (get_or-take n s (n - 2) 0 (omega (arith, h, l))) (get_or-take n s (n - 2 + 1) 0 (omega (arith, h, l))) in
      let v = (verifies-last-two (take n s) (octets-take n s o) h).1 (ap (stored_of (take n s)) l ∙ w ∙ e) in
      false≢true (ap not (sym v) ∙ t)

  -- what the checks with checksum refuse with; the length checks refuse with 2
  pub checked-told : Holds (λ (n : ℕ). Unit {0}) (Told s) (checked_of start s)
  unfolding checked_of
  checked-told =
      holds_then _ _ (frame_of start s true) _
      (holds_more _ _ (Told s) (frame_of start s true) (λ e t z. absurd (omega (arith, t, z))) (frame-holds start s true))
      (λ n g.
      let f = frame-total start s true n g in
      holds_then _ _ _ _
      (holds-if _ _ _ _ _ (λ _ z. absurd (omega (arith, z)))
      (λ _. holds-if _ _ _ _ _
      (λ t _. subst (λ (m : ℕ). BothChecksums s m (refusal 4 (stored_of s n ∷ computed_of s n ∷ []))) f.is (record { told = refl; differ = stored-differs n f t }))
      (λ _. tt)))
      (λ _ _. tt))
