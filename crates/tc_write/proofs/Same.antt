-- Creators with their data are the same, by the call, where both are equal and only there.
use mathlib.Core.Path.{◌≡◌, sym, ap}
use mathlib.Core.Bool.{Bool, true, ◌&&◌}
use mathlib.Core.List.{List}
use mathlib.Core.Logic.{◌↔◌}
use Prim.Native.Nat.{ℕ}
use lib.Dec.{eqb}
use borrow.Author.Tests.{eqb-true, eq-eqb}
use Rattle.space_packet.proofs.Same.{same-header, both, same_number, same_flag, compared-primary}
use Rattle.ecss.proofs.Octets.{same-octets, pairwise-same}
use lib.Pointwise.{pointwise}
use native.Mathlib.Omega.{arith}
use Rattle.std.proofs.Math.Bool.{beq}
use Rattle.space_packet.proofs.Numbers.{beq-flag}
use Rattle.space_packet.specs.contracts.SpacePacketHeaderPartialEq.TheImpl as Primary
use Rattle.tc_header.specs.contracts.PusTcSecondaryHeaderPartialEq.TheImpl as Secondary
use Rattle.tc_header.specs.contracts.TcFormPartialEq.TheImpl as Form
use Rattle.tc_write.specs.contracts.PusTcCreatorPartialEq.TheImpl as Derived
use Rattle.ecss.specs.Version.{version_number}
use Rattle.ecss.specs.declared.PusVersion.{PusVersion}
use Rattle.tc_header.specs.Form.{same_form}
use Rattle.tc_header.specs.declared.TcForm.{TcForm}
use Rattle.ecss.proofs.Versions.{version-told}
use Rattle.tc_header.proofs.Same.{same-sec, compared-secondary, compared-form}
use Rattle.tc_write.specs.Creator.{creator_in, same_creator}
use Rattle.tc_write.specs.declared.PusTcCreator.{PusTcCreator}

same_version : (v w : PusVersion) → (eqb (version_number v) (version_number w) ≡ true) ↔ (v ≡ w)
same_version v w = (λ p. version-told v w (eqb-true _ _ p), λ e. eq-eqb _ _ (ap version_number e))

-- forms are the same where they are equal, and only there
pub same-form : (f g : TcForm) → (same_form f g ≡ true) ↔ (f ≡ g)
unfolding same_form
same-form f g =
    let k = both _ _ (same_version f.version g.version) (both _ _ (same_number f.source_width g.source_width) (same_number f.spare_len g.spare_len)) in (
      λ p. let e = k.0 p in λ i. record { version = e.0 i; source_width = e.1.0 i; spare_len = e.1.1 i },
      λ e. k.1 (λ i. (e i).version, (λ i. (e i).source_width, λ i. (e i).spare_len)),
    )

regrouped : (f h x o b : Bool) → (f && (h && (x && (o && b)))) ≡ ((h && (x && (b && f))) && o)
regrouped f h x o b = grind arith

module _ (t : PusTcCreator) (d : List ℕ) (u : PusTcCreator) (e : List ℕ) where
  parts : (same_creator t d u e ≡ true)
      ↔ ((t.form ≡ u.form) × ((t.sp_header ≡ u.sp_header) × ((t.sec_header ≡ u.sec_header) × ((d ≡ e) × (t.has_checksum ≡ u.has_checksum)))))
  unfolding same_creator
  parts =
      both _ _ (same-form t.form u.form)
      (both _ _ (same-header t.sp_header u.sp_header)
      (both _ _ (same-sec t.sec_header u.sec_header)
      (both _ _ (same-octets d e) (same_flag t.has_checksum u.has_checksum))))

  pub same-creator : (same_creator t d u e ≡ true) ↔ ((t ≡ u) × (d ≡ e))
  same-creator = (
    λ p.
        let k = parts.0 p in
        (λ i. creator_in (k.0 i) (k.1.0 i) (k.1.1.0 i) (k.1.1.1.1 i), k.1.1.1.0),
    λ p.
        let q = p.0 in
        parts.1 (λ i. (q i).form, (λ i. (q i).sp_header, (λ i. (q i).sec_header, (p.1, λ i. (q i).has_checksum)))),
  )

  -- and by the tests of the code: `==` of the creators and of the data
  pub compared : same_creator t d u e ≡ (Derived.ghosts.eq t u && pointwise eqb d e)
  unfolding same_creator
  compared =
      rw (sym (compared-form t.form u.form), sym (compared-primary t.sp_header u.sp_header), sym (compared-secondary t.sec_header u.sec_header), sym (beq-flag t.has_checksum u.has_checksum), sym (pairwise-same d e))
      (regrouped (Form.ghosts.eq t.form u.form) (Primary.ghosts.eq t.sp_header u.sp_header) (Secondary.ghosts.eq t.sec_header u.sec_header) (pointwise eqb d e) (beq t.has_checksum u.has_checksum))
