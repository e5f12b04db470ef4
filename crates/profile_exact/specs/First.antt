-- Which rule the profile tells of: the first that is broken, in the order named.
use Rattle.std.specs.Prelude.{ℕ, ◌+◌, ◌-◌, ◌≤◌, ◌<◌, ◌≡◌, ◌↔◌, ◌⊎◌, true, List, []}
use Rattle.space_packet.specs.Answer.{Answer, Numbers, gives, refuses, refusal}
use Rattle.space_packet.specs.declared.SequenceFlags.TheVariants.{Unsegmented}
use Rattle.space_packet.specs.declared.SpacePacketHeader.{SpacePacketHeader}
use Rattle.tc_header.specs.declared.PusTcSecondaryHeader.{PusTcSecondaryHeader}
use Rattle.tc_read.specs.declared.PusTcRecord.{PusTcRecord}
use Rattle.tc_strict.specs.Verdict.{strict_of}
use Rattle.profile.specs.Rules.{is_service, asks_for_acceptance, service_of}

-- e is the number k and the rule is broken, or the rule holds and e is as said next
abbrev pub BrokenOr : Numbers → ℕ → Type 0 → Type 0 → Type 0
BrokenOr e k rule next = (¬ rule × (e ≡ refusal k [])) ⊎ (rule × next)

-- e is that of the first sentence of `Within` that does not hold, of a command of the headers h and x with n octets of data
abbrev pub FirstBroken : SpacePacketHeader → PusTcSecondaryHeader → ℕ → Numbers → Type 0
FirstBroken h x n e =
    BrokenOr e 25 (6 + 5 + n + 2 ≤ 1024)
    (BrokenOr e 26 (h.psc.seq_flags ≡ Unsegmented)
    (BrokenOr e 27 (h.packet_id.apid.0 < 64)
    (BrokenOr e 28 (is_service (service_of x) ≡ true)
    (BrokenOr e 29 (asks_for_acceptance x.ack_flags ≡ true)
    (BrokenOr e 30 (service_of x ≡ 17 → n ≡ 0) ⊥)))))

-- a, the profile's answer on s, tells of it where the strict verdict accepts
abbrev pub TellsFirst : Answer PusTcRecord → List ℕ → Type 0
TellsFirst a s = (r : PusTcRecord) → strict_of s ≡ gives r → (e : Numbers) → (a ≡ refuses e) ↔ FirstBroken r.sp_header r.sec_header (r.end - r.start) e
