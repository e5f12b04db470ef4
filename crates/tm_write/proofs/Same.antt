-- Creators with their time and data are the same, by the call, where all three are equal and only there.
use mathlib.Core.Path.{◌≡◌, sym}
use mathlib.Core.Bool.{Bool, true, ◌&&◌}
use lib.Dec.{eqb}
use Rattle.std.proofs.Math.Bool.{beq}
use native.Mathlib.Omega.{arith}
use mathlib.Core.List.{List}
use mathlib.Core.Logic.{◌↔◌}
use Prim.Native.Nat.{ℕ}
use Rattle.space_packet.proofs.Same.{same-header, both, same_number, same_flag, compared-primary}
use Rattle.ecss.proofs.Octets.{same-octets, pairwise-same}
use lib.Pointwise.{pointwise}
use Rattle.tm_header.proofs.Same.{same-sec, compared-secondary}
use Rattle.space_packet.proofs.Numbers.{beq-flag}
use Rattle.space_packet.specs.contracts.SpacePacketHeaderPartialEq.TheImpl as Primary
use Rattle.tm_header.specs.contracts.PusTmSecondaryHeaderPartialEq.TheImpl as Secondary
use Rattle.tm_write.specs.contracts.PusTmCreatorPartialEq.TheImpl as Derived
use Rattle.tm_write.specs.Creator.{creator_of, same_creator}
use Rattle.tm_write.specs.declared.PusTmCreator.{PusTmCreator}

regrouped : (t h x p q b : Bool) → (t && (h && (x && (p && (q && b))))) ≡ ((h && (x && (b && t))) && p && q)
regrouped t h x p q b = grind arith

module _ (c : PusTmCreator) (l d : List ℕ) (u : PusTmCreator) (m e : List ℕ) where
  parts : (same_creator c l d u m e ≡ true)
      ↔ ((c.time_len ≡ u.time_len) × ((c.sp_header ≡ u.sp_header) × ((c.sec_header ≡ u.sec_header) × ((l ≡ m) × ((d ≡ e) × (c.has_checksum ≡ u.has_checksum))))))
  unfolding same_creator
  parts =
      both _ _ (same_number c.time_len u.time_len)
      (both _ _ (same-header c.sp_header u.sp_header)
      (both _ _ (same-sec c.sec_header u.sec_header)
      (both _ _ (same-octets l m) (both _ _ (same-octets d e) (same_flag c.has_checksum u.has_checksum)))))

  pub same-creator : (same_creator c l d u m e ≡ true) ↔ ((c ≡ u) × ((l ≡ m) × (d ≡ e)))
  same-creator = (
    λ p.
        let k = parts.0 p in
        let o = k.1.1.1 in
        (λ i. creator_of (k.0 i) (k.1.0 i) (k.1.1.0 i) (o.1.1 i), (o.0, o.1.0)),
    λ p.
        let q = p.0 in
        parts.1 (λ i. (q i).time_len, (λ i. (q i).sp_header, (λ i. (q i).sec_header, (p.1.0, (p.1.1, λ i. (q i).has_checksum))))),
  )

  -- and by the tests of the code: `==` of the creators, of the times and of the data
  pub compared : same_creator c l d u m e ≡ (Derived.ghosts.eq c u && pointwise eqb l m && pointwise eqb d e)
  unfolding same_creator
  compared =
      rw (sym (compared-primary c.sp_header u.sp_header), sym (compared-secondary c.sec_header u.sec_header), sym (beq-flag c.has_checksum u.has_checksum), sym (pairwise-same l m), sym (pairwise-same d e))
      (regrouped (eqb c.time_len u.time_len) (Primary.ghosts.eq c.sp_header u.sp_header) (Secondary.ghosts.eq c.sec_header u.sec_header) (pointwise eqb l m) (pointwise eqb d e) (beq c.has_checksum u.has_checksum))
