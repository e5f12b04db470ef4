-- Headers are the same where they are equal and only there; and what `==` answers of them.
use mathlib.Core.Path.{◌≡◌, refl, sym, ap, ap₂, ◌∙◌}
use mathlib.Core.Bool.{Bool, true, ◌&&◌, and-eq-true_iff}
use mathlib.Core.Logic.{◌↔◌}
use Prim.Native.Nat.{ℕ}
use lib.Dec.{eqb}
use Rattle.std.proofs.Math.Bool.{and_assoc}
use borrow.Author.Tests.{eqb-true, eq-eqb}
use denote.Enum.Bare.{sameb}
use Rattle.space_packet.specs.Bits.{flag_number, lowest}
use Rattle.space_packet.specs.Fields.{type_number, type_of, flags_number, flags_of}
use Rattle.space_packet.specs.Header.{same_header}
use Rattle.space_packet.specs.declared.PacketType.{PacketType}
use Rattle.space_packet.specs.declared.PacketType.TheVariants.{Tm, Tc}
use Rattle.space_packet.specs.contracts.PacketType as PacketType
use Rattle.space_packet.specs.contracts.SequenceFlags as Flags
use Rattle.space_packet.specs.contracts.SpacePacketHeaderPartialEq.TheImpl as Primary
use Rattle.space_packet.specs.declared.SequenceFlags.{SequenceFlags}
use Rattle.space_packet.specs.declared.SequenceFlags.TheVariants.{ContinuationSegment, FirstSegment, LastSegment, Unsegmented}
use Rattle.space_packet.specs.declared.SpacePacketHeader.{SpacePacketHeader}
use Rattle.space_packet.proofs.Answers.{by-inverse}
use Rattle.space_packet.proofs.Numbers.{type-back, flag-back, flags-back, beq-flag}

equal-fields : (g h : SpacePacketHeader) → same_header g h ≡ true → g ≡ h
unfolding same_header
equal-fields g h p =
    let t = eqb (type_number g.packet_id.packet_type) (type_number h.packet_id.packet_type) in
    let f = eqb (flag_number g.packet_id.sec_header_flag) (flag_number h.packet_id.sec_header_flag) in
    let a = eqb g.packet_id.apid.0 h.packet_id.apid.0 in
    let s = eqb (flags_number g.psc.seq_flags) (flags_number h.psc.seq_flags) in
    let n = eqb g.psc.seq_count.0 h.psc.seq_count.0 in
    let v = eqb g.version h.version in
    let pd = (and-eq-true_iff (v && t && f && a && s && n) (eqb g.data_len h.data_len)).0 p in
    let pn = (and-eq-true_iff (v && t && f && a && s) n).0 pd.0 in
    let ps = (and-eq-true_iff (v && t && f && a) s).0 pn.0 in
    let pa = (and-eq-true_iff (v && t && f) a).0 ps.0 in
    let pf = (and-eq-true_iff (v && t) f).0 pa.0 in
    let pt = (and-eq-true_iff v t).0 pf.0 in
    let ev : g.version ≡ h.version = eqb-true _ _ pt.0 in
    let et = by-inverse type_number type_of type-back _ _ (eqb-true _ _ pt.1) in
    let ef = by-inverse flag_number lowest flag-back _ _ (eqb-true _ _ pf.1) in
    let ea : g.packet_id.apid.0 ≡ h.packet_id.apid.0 = eqb-true _ _ pa.1 in
    let es = by-inverse flags_number flags_of flags-back _ _ (eqb-true _ _ ps.1) in
    let en : g.psc.seq_count.0 ≡ h.psc.seq_count.0 = eqb-true _ _ pn.1 in
    let ed : g.data_len ≡ h.data_len = eqb-true _ _ pd.1 in
    λ i. record { version = ev i; packet_id = record { packet_type = et i; sec_header_flag = ef i; apid = record { 0 = ea i } }; psc = record { seq_flags = es i; seq_count = record { 0 = en i } }; data_len = ed i }

-- a field that is the same, and what follows it
pub first-same : (m n : ℕ) (rest : Bool) → (eqb m n && rest) ≡ true → (m ≡ n) × (rest ≡ true)
first-same m n rest p = let q = (and-eq-true_iff (eqb m n) rest).0 p in (eqb-true m n q.0, q.1)

-- a number is its own equal, by the test that comparisons make
pub itself : (n : ℕ) → eqb n n ≡ true
itself n = eq-eqb n n refl

same-itself : (h : SpacePacketHeader) → same_header h h ≡ true
unfolding same_header
same-itself h = simp itself

pub same-header : (g h : SpacePacketHeader) → (same_header g h ≡ true) ↔ (g ≡ h)
same-header g h = (equal-fields g h, λ e. ap (same_header g) (sym e) ∙ same-itself g)

-- ---- parts compared one after the other: the test holds where each part is the same, and only there

pub both : {P Q : Type 0} (a b : Bool) → (a ≡ true) ↔ P → (b ≡ true) ↔ Q → ((a && b) ≡ true) ↔ (P × Q)
both a b p q = (
  λ e. let k = (and-eq-true_iff a b).0 e in (p.0 k.0, q.0 k.1),
  λ h. ap₂ ◌&&◌ (p.1 h.0) (q.1 h.1),
)

pub same_number : (m n : ℕ) → (eqb m n ≡ true) ↔ (m ≡ n)
same_number m n = (eqb-true m n, eq-eqb m n)

pub same_flag : (a b : Bool) → (eqb (flag_number a) (flag_number b) ≡ true) ↔ (a ≡ b)
same_flag a b = (
  λ p. by-inverse flag_number lowest flag-back a b (eqb-true _ _ p),
  λ e. eq-eqb _ _ (ap flag_number e),
)

-- packet types that `==` compares are compared by their numbers
pub same-type : (a b : PacketType) → sameb PacketType.the_type a b ≡ eqb (type_number a) (type_number b)
same-type Tm Tm = refl
same-type Tm Tc = refl
same-type Tc Tm = refl
same-type Tc Tc = refl

-- so are the sequence flags
same-flags : (a b : SequenceFlags) → sameb Flags.the_type a b ≡ eqb (flags_number a) (flags_number b)
same-flags ContinuationSegment ContinuationSegment = refl
same-flags ContinuationSegment FirstSegment = refl
same-flags ContinuationSegment LastSegment = refl
same-flags ContinuationSegment Unsegmented = refl
same-flags FirstSegment ContinuationSegment = refl
same-flags FirstSegment FirstSegment = refl
same-flags FirstSegment LastSegment = refl
same-flags FirstSegment Unsegmented = refl
same-flags LastSegment ContinuationSegment = refl
same-flags LastSegment FirstSegment = refl
same-flags LastSegment LastSegment = refl
same-flags LastSegment Unsegmented = refl
same-flags Unsegmented ContinuationSegment = refl
same-flags Unsegmented FirstSegment = refl
same-flags Unsegmented LastSegment = refl
same-flags Unsegmented Unsegmented = refl

-- the answer of `==` is the definition's
pub compared-primary : (g h : SpacePacketHeader) → Primary.ghosts.eq g h ≡ same_header g h
unfolding same_header
compared-primary g h = simp (same-type, same-flags, beq-flag, and_assoc)
