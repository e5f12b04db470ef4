-- Packets written, over `start`, the octet at which their data starts: totals, lengths, room; and the write path, over what a kind
-- of packet asks before the room and after it.
use Rattle.std.specs.Prelude.{ℕ, ◌+◌, ◌-◌, Bool, true, List, [], ◌∷◌, ◌++◌, ltb, drop, Option, Some, None}
use Rattle.space_packet.specs.Answer.{answer_of, Answer, Passed, Kept, refusal, gives, refuses, refuse_if, ◌then◌, set_if, in_buffer}
use Rattle.crc_register.specs.Crc.{crc_of}
use Rattle.space_packet.specs.Bits.{pick}
use Rattle.space_packet.specs.Header.{header_check, header_of, id_from, with_id}
use Rattle.space_packet.specs.declared.SpacePacketHeader.{SpacePacketHeader}
use Rattle.space_packet.specs.declared.PacketType.{PacketType}
use Rattle.ecss.specs.Frame.{trailer, closed, max_total}
use Rattle.ecss_write.specs.declared.packet.Asks.{Asks}

-- the total of n octets of data
abbrev pub total_for : ℕ → Bool → ℕ → ℕ
total_for start b n = start + n + trailer b

-- it is refused where no machine size holds it
unfoldable pub machine_total : ℕ → Bool → ℕ → Answer ℕ
machine_total start b n =
    refuse_if (ltb 18446744073709551615 (total_for start b n)) (refusal 6 (n ∷ [])) (gives (total_for start b n))

-- and for a length field that is set, where it is above the largest total that the field states
abbrev pub limited : ℕ → ℕ → Answer ℕ
limited n total = refuse_if (ltb max_total total) (refusal 6 (n ∷ [])) (gives total)

-- CCSDS 133.0-B-2, 4.1.3.5, packet data length: the field of that total, which for a packet is at least 7
unfoldable pub length_field : ℕ → Bool → ℕ → Answer ℕ
length_field start b n = machine_total start b n then λ total. limited n total then λ _. gives (total - 7)

-- writing n octets of data with the trailer b into a buffer of m
unfoldable pub write_in : ℕ → Bool → ℕ → ℕ → Answer ℕ
write_in start b n m = machine_total start b n then in_buffer m

-- ---- the write path

-- before the room: what comes before all others, the primary header's fields, the secondary header's
abbrev pub asked : Passed → SpacePacketHeader → Passed → Passed
asked first h fields = first then λ _. header_check h then λ _. fields

-- writing n octets of data into a buffer of m: 6 for the machine size and 1 between the two
unfoldable pub write_with : Passed → Passed → ℕ → Bool → ℕ → ℕ → Answer ℕ
write_with before after start b n m =
    before then λ _. write_in start b n m then λ total. after then λ _. gives total

-- and without the checksum, for which there still must be room
abbrev pub bare_with : Passed → Passed → ℕ → Bool → ℕ → ℕ → Answer ℕ
bare_with before after start b n m = write_with before after start b n m then λ total. gives (total - trailer b)

-- either of them, and its octets
abbrev pub put_with : Bool → Passed → Passed → ℕ → Bool → ℕ → ℕ → Answer ℕ
put_with bare = pick bare bare_with write_with

abbrev pub put_octets : Bool → Bool → List ℕ → List ℕ
put_octets bare b l = pick bare l (closed b l)

-- reserving, which sets the length: 6 for the packet limit before what is asked last
unfoldable pub reserve_with : Passed → Passed → ℕ → Bool → ℕ → ℕ → Answer ℕ
reserve_with before after start b n m =
    before then λ _. write_in start b n m then λ total. limited n total then λ _. after then λ _. gives total

-- the checksum over all octets before it
unfoldable pub own_with : Passed → Passed → List ℕ → Answer ℕ
own_with before after content = before then λ _. after then λ _. gives (crc_of content)

-- the checksum that is written: none, or that
unfoldable pub checksum_with : Bool → Answer ℕ → Answer (Option ℕ)
checksum_with b own = pick b (own then λ n. gives (Some n)) (gives None)

-- ---- the header that is written

-- a header of the type, with a secondary header; the packet version number is kept
abbrev pub as_type : PacketType → SpacePacketHeader → SpacePacketHeader
as_type type h = with_id h (id_from type true h.packet_id.apid)

abbrev pub with_length : SpacePacketHeader → ℕ → SpacePacketHeader
with_length h n = header_of h.packet_id h.psc n h.version

-- the field of n octets of data, or where it is not set the field that was there
unfoldable pub field_with : Passed → ℕ → Bool → ℕ → Bool → ℕ → Answer ℕ
field_with before start b n set old = before then λ _. pick set (length_field start b n) (gives old)

-- construction: the header with that field
abbrev pub made_with : Passed → ℕ → Bool → ℕ → Bool → SpacePacketHeader → Answer SpacePacketHeader
made_with before start b n set h = field_with before start b n set h.data_len then λ f. gives (with_length h f)

-- set afresh, or the old header with the refusal
unfoldable pub afresh_with : Passed → ℕ → Bool → ℕ → SpacePacketHeader → Kept SpacePacketHeader
afresh_with before start b n h =
    set_if (before then λ _. length_field start b n then λ _. gives tt) h (with_length h (total_for start b n - 7))

-- what an edit hands back, in the record f of what it edits
abbrev pub kept_with : {A B : Type 0} → (A → B) → Kept A → Kept B
kept_with f k = record { passed = k.passed; kept = f k.kept }

-- what a reservation leaves: the headers at the front, or where it is refused what was there
abbrev pub headed_at : ℕ → Answer ℕ → List ℕ → List ℕ → List ℕ
headed_at start (gives n) head before = head ++ drop start before
headed_at start (refuses e) head before = before

-- what a kind of packet asks of its secondary header: before all others, of its fields, and after the room
pub record Asked : Type 0 where
  pub first : Passed
  pub fields : Passed
  pub version : Passed

abbrev pub asks_answer : Asks → Asked
asks_answer a = record { first = answer_of a.first; fields = answer_of a.fields; version = answer_of a.version }

-- what is asked before the room, beside the primary header h
abbrev pub asked_by : Asks → SpacePacketHeader → Passed
asked_by a h = asked (answer_of a.first) h (answer_of a.fields)
