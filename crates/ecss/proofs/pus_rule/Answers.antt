-- `ecss::pus_rule` meets its contract: each test is the definition's.
use mathlib.Core.Path.{◌≡◌, sym, ap, ◌∙◌}
use mathlib.Core.Bool.{not, Bool}
use lib.Dec.{eqb}
use denote.Enum.Bare.{sameb}
use borrow.Author.Tests.{not-true, not-false, eq-eqb, ne_eqb}
use Rattle.space_packet.specs.Answer.{refuse_if}
use Rattle.space_packet.specs.Fields.{type_number, is_idle}
use Rattle.space_packet.specs.contracts.PacketType.{the_type}
use Rattle.space_packet.specs.declared.Apid.{Apid}
use Rattle.space_packet.specs.declared.PacketType.{PacketType}
use Rattle.space_packet.proofs.Same.{same-type}
use Rattle.ecss.specs.Kind.{pus_rule}
use Rattle.ecss.proofs.pus_rule.Goals as goal

-- the test of the types, by the ones that were compared
types : (a b h : PacketType) (r t : Bool) → a ≡ h → r ≡ not (sameb the_type a b) → r ≡ t → not (eqb (type_number h) (type_number b)) ≡ t
types a b h r t p q e = ap (λ x. not (eqb (type_number x) (type_number b))) (sym p) ∙ ap not (sym (same-type a b)) ∙ sym q ∙ e

-- the test of the APID, by the one that was asked for
idle : (a b : Apid) (r t : Bool) → a ≡ b → r ≡ is_idle a → r ≡ t → is_idle b ≡ t
idle a b r t p q e = ap is_idle (sym p) ∙ sym q ∙ e

pub returns-then-h-ne0 : goal.returns-then-h-ne0
unfolding pus_rule refuse_if
returns-then-h-ne0 c =
    simp (ne_eqb _ _ c.if-h-ne0.true)

pub returns-then-ne : goal.returns-then-ne
unfolding pus_rule refuse_if
returns-then-ne c =
    simp (eq-eqb _ _ c.if-h-ne0.false, types _ _ _ _ _ c.packet_type.ensures c.ne.ensures c.if-ne.true)

pub returns-then-not-sec_header_flag : goal.returns-then-not-sec_header_flag
unfolding pus_rule refuse_if
returns-then-not-sec_header_flag c =
    simp (eq-eqb _ _ c.if-h-ne0.false, types _ _ _ _ _ c.packet_type.ensures c.ne.ensures c.if-ne.false, sym c.sec_header_flag.ensures ∙ not-true c.sec_header_flag.result (ap not c.if-not-sec_header_flag.true))

pub returns-then-nibble-version : goal.returns-then-nibble-version
unfolding pus_rule refuse_if
returns-then-nibble-version c =
    simp (eq-eqb _ _ c.if-h-ne0.false, types _ _ _ _ _ c.packet_type.ensures c.ne.ensures c.if-ne.false, sym c.sec_header_flag.ensures ∙ not-false c.sec_header_flag.result (ap not c.if-not-sec_header_flag.false), ne_eqb _ _ c.if-nibble-version.true)

pub returns-then-is_idle : goal.returns-then-is_idle
unfolding pus_rule refuse_if
returns-then-is_idle c =
    let typed = types _ _ _ _ _ c.packet_type.ensures c.ne.ensures c.if-ne.false in
    let flagged = sym c.sec_header_flag.ensures ∙ not-false c.sec_header_flag.result (ap not c.if-not-sec_header_flag.false) in
    simp (eq-eqb _ _ c.if-h-ne0.false, typed, flagged, eq-eqb _ _ c.if-nibble-version.false, idle _ _ _ _ c.apid.ensures c.is_idle.ensures c.if-is_idle.true)

pub returns : goal.returns
unfolding pus_rule refuse_if
returns c =
    let typed = types _ _ _ _ _ c.packet_type.ensures c.ne.ensures c.if-ne.false in
    let flagged = sym c.sec_header_flag.ensures ∙ not-false c.sec_header_flag.result (ap not c.if-not-sec_header_flag.false) in
    simp (eq-eqb _ _ c.if-h-ne0.false, typed, flagged, eq-eqb _ _ c.if-nibble-version.false, idle _ _ _ _ c.apid.ensures c.is_idle.ensures c.if-is_idle.false)
