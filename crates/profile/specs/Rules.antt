-- The small-satellite profile of PUS-C telecommands with no spares: its rules, in their order, and its verdict.
use Rattle.std.specs.Prelude.{ℕ, ◌+◌, ◌/◌, Bool, true, not, ◌&&◌, ◌||◌, List, [], eqb, leb, ltb}
use Rattle.space_packet.specs.Bits.{lowest}
use Rattle.space_packet.specs.Answer.{Answer, Passed, gives, refusal, refuse_if, ◌then◌}
use Rattle.space_packet.specs.Fields.{flags_number}
use Rattle.space_packet.specs.Header.{packet_len}
use Rattle.space_packet.specs.declared.SequenceFlags.TheVariants.{Unsegmented}
use Rattle.space_packet.specs.declared.SpacePacketHeader.{SpacePacketHeader}
use Rattle.ecss.specs.Frame.{trailer}
use Rattle.tc_header.specs.declared.AckFlags.{AckFlags}
use Rattle.tc_header.specs.declared.PusTcSecondaryHeader.{PusTcSecondaryHeader}
use Rattle.tc_read.specs.Read.{start_c}
use Rattle.tc_read.specs.declared.PusTcRecord.{PusTcRecord}
use Rattle.tc_strict.specs.Verdict.{strict_of}

-- the most octets in total
abbrev pub most_octets : ℕ
most_octets = 1024

-- and the fewest, those of a command with no data: its headers and its checksum
abbrev pub fewest_octets : ℕ
fewest_octets = start_c + trailer true

-- the sequence flags of a packet that is no segment
abbrev pub unsegmented : ℕ
unsegmented = flags_number Unsegmented

-- APIDs are below this one
abbrev pub apid_limit : ℕ
apid_limit = 64

abbrev pub service_of : PusTcSecondaryHeader → ℕ
service_of x = x.message_type_id.type_id

-- the services that are taken
abbrev pub is_service : ℕ → Bool
is_service n = eqb n 1 || (eqb n 3 || (eqb n 5 || (eqb n 8 || (eqb n 17 || eqb n 20))))

-- the service whose commands have no data
abbrev pub test_service : ℕ
test_service = 17

-- acceptance has the weight 8
abbrev pub asks_for_acceptance : AckFlags → Bool
asks_for_acceptance a = lowest (a.0 / 8)

-- The rules: at most 1,024 octets, unsegmented, APID below 64, services 1, 3, 5, 8, 17 and 20 only, acceptance requested, empty data for
-- service 17. The first that is broken is refused. A command has so many octets, these sequence flags, and so on.
unfoldable pub rules : ℕ → ℕ → ℕ → ℕ → Bool → Passed
rules total flags apid service accepting =
    refuse_if (ltb most_octets total) (refusal 25 [])
    (refuse_if (not (eqb flags unsegmented)) (refusal 26 [])
    (refuse_if (leb apid_limit apid) (refusal 27 [])
    (refuse_if (not (is_service service)) (refusal 28 [])
    (refuse_if (not accepting) (refusal 29 [])
    (refuse_if (eqb service test_service && ltb fewest_octets total) (refusal 30 []) (gives tt))))))

-- on the headers of a command, which state its total
abbrev pub profile_rule : SpacePacketHeader → PusTcSecondaryHeader → Passed
profile_rule h x =
    rules (packet_len h) (flags_number h.psc.seq_flags) h.packet_id.apid.0 (service_of x) (asks_for_acceptance x.ack_flags)

-- the PUS-C strict verdict with no spares, then those; what is accepted is reported as the strict verdict reports it
unfoldable pub profile_of : List ℕ → Answer PusTcRecord
profile_of s = strict_of s then λ r. profile_rule r.sp_header r.sec_header then λ _. gives r
