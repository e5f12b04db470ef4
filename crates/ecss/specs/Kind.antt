-- A kind of packet is its type, its PUS version, and a codec of its secondary header. Packets, the written rules and the strict
-- verdict are said over it.
use Rattle.std.specs.Prelude.{ℕ, ◌+◌, ◌-◌, ◌/◌, ◌≤◌, ◌≡◌, Bool, true, false, not, List, [], ◌∷◌, ◌++◌, length, get_or, take, drop, eqb}
use Rattle.space_packet.specs.Answer.{Numbers, Answer, Passed, refusal, gives, refuses, refuse_if, ◌then◌}
use Rattle.space_packet.specs.Fields.{type_number, idle_apid, is_idle, id_with_apid}
use Rattle.space_packet.specs.Part.{reached}
use Rattle.space_packet.specs.Header.{header_octets, read_header, packet_len, InRange, with_id}
use Rattle.space_packet.specs.declared.SpacePacketHeader.{SpacePacketHeader}
use Rattle.space_packet.specs.declared.PacketType.{PacketType}
use Rattle.ecss.specs.Frame.{Octets, trailer, sealed, max_total, checked_of}

-- ---- the strict checks that every kind shares

-- CCSDS 133.0-B-2, 4.1.3.2 and 4.1.3.3: packet version number 0, the kind's type, a secondary header; ECSS-E-ST-70-41C, 7.4.3
-- and 7.4.4: the PUS version in the higher half of octet 6, which in ECSS-E-70-41A is a zero bit and a version of three; and
-- CCSDS 133.0-B-2, 4.1.3.3.4: no idle packet. Another type is refused with the number `other`.
unfoldable pub pus_rule : PacketType → Numbers → ℕ → SpacePacketHeader → ℕ → Passed
pus_rule type other version h octet =
    refuse_if (not (eqb h.version 0)) (refusal 9 (h.version ∷ []))
    (refuse_if (not (eqb (type_number h.packet_id.packet_type) (type_number type))) other
    (refuse_if (not h.packet_id.sec_header_flag) (refusal 11 [])
    (refuse_if (not (eqb (octet / 16) version)) (refusal 3 (octet / 16 ∷ []))
    (refuse_if (is_idle h.packet_id.apid) (refusal 12 []) (gives tt)))))

-- what they ask of the primary header
pub record Primary (type : PacketType) (h : SpacePacketHeader) : Type 0 where
  pub version-zero : h.version ≡ 0
  pub type-is : h.packet_id.packet_type ≡ type
  pub has-secondary : h.packet_id.sec_header_flag ≡ true
  pub not-idle : is_idle h.packet_id.apid ≡ false

-- ---- kinds

pub record Kind (H : Type 0) : Type 1 where
  pub type : PacketType
  -- what a packet of another type is refused with
  pub other : Numbers
  -- the PUS version number
  pub version : ℕ
  -- how many octets the secondary header has
  pub size : ℕ
  pub enc : H → List ℕ
  pub dec : List ℕ → H
  -- what the strict checks ask last, of the secondary header's octets
  pub rule : List ℕ → Passed
  -- what they come to in the secondary header's record
  pub Fits : H → Type 0

-- octets that the strict checks take for a secondary header
pub record Taken {H : Type 0} (k : Kind H) (l : List ℕ) : Type 0 where
  pub octets : Octets l
  pub sized : length l ≡ k.size
  pub versioned : get_or l 0 0 / 16 ≡ k.version
  pub ruled : k.rule l ≡ gives tt

abbrev pub NotFour : Numbers → Type 0
NotFour e = e.number ≡ 4 → ⊥

-- what a kind owes
pub record KindLaws {H : Type 0} (k : Kind H) : Type 0 where
  pub enc-size : (x : H) → k.Fits x → length (k.enc x) ≡ k.size
  pub dec-enc : (x : H) → k.Fits x → k.dec (k.enc x) ≡ x
  pub enc-version : (x : H) → k.Fits x → get_or (k.enc x) 0 0 / 16 ≡ k.version
  pub rule-enc : (x : H) → k.Fits x → k.rule (k.enc x) ≡ gives tt
  pub dec-fits : (l : List ℕ) → Taken k l → k.Fits (k.dec l)
  pub enc-dec : (l : List ℕ) → Taken k l → k.enc (k.dec l) ≡ l
  -- what it refuses by itself is not 4, the checksum's number
  pub other-not-four : NotFour k.other
  pub rule-not-four : (l : List ℕ) (e : Numbers) → k.rule l ≡ refuses e → NotFour e

-- the octet at which the data starts
abbrev pub start_of : {H : Type 0} → Kind H → ℕ
start_of k = 6 + k.size

-- ---- packets, and the written rules

-- what a packet holds
pub record Packet (H : Type 0) : Type 0 where
  pub primary : SpacePacketHeader
  pub secondary : H
  pub user : List ℕ

-- its octets before the checksum: primary header, secondary header, data
unfoldable pub content_of : {H : Type 0} → Kind H → Packet H → List ℕ
content_of k p = header_octets p.primary ++ (k.enc p.secondary ++ p.user)

abbrev pub packet_of : {H : Type 0} → Kind H → Packet H → List ℕ
packet_of k p = sealed (content_of k p)

-- every field is within its width, and the length field states the total, which has a checksum or none
pub record Stated {H : Type 0} (k : Kind H) (b : Bool) (p : Packet H) : Type 0 where
  pub in-range : InRange p.primary
  pub fits : k.Fits p.secondary
  pub states-length : packet_len p.primary ≡ start_of k + length p.user + trailer b

-- the written rules: so with a checksum, in a total that a length field states, and as the strict checks ask it
pub record Rules {H : Type 0} (k : Kind H) (p : Packet H) : Type 0 where
  pub stated : Stated k true p
  pub at_most : start_of k + length p.user + 2 ≤ max_total
  pub primary : Primary k.type p.primary

-- a header, and a packet, with the APID of idle packets in place of its own
abbrev pub idle_header : SpacePacketHeader → SpacePacketHeader
idle_header h = with_id h (id_with_apid h.packet_id idle_apid)

abbrev pub as_idle : {H : Type 0} → Packet H → Packet H
as_idle p = record { primary = idle_header p.primary; secondary = p.secondary; user = p.user }

-- the octets s begin with the packet p under these rules: both headers, the data, and the checksum over all of them
pub record BeginsWith {H : Type 0} (k : Kind H) (s : List ℕ) (p : Packet H) : Type 0 where
  pub rules : Rules k p
  pub rest : List ℕ
  pub octets : s ≡ packet_of k p ++ rest

-- ---- the verdict

-- the octets of the secondary header
abbrev pub secondary_of : ℕ → List ℕ → List ℕ
secondary_of size s = take size (drop 6 s)

-- and how far into the packet they begin
abbrev pub secondary_at : List ℕ → ℕ
secondary_at s = reached 6 s

-- the strict checks, on the primary header and the secondary header's octets
unfoldable pub strict_rule : {H : Type 0} → Kind H → SpacePacketHeader → List ℕ → Passed
strict_rule k h l = pus_rule k.type k.other k.version h (get_or l 0 0) then λ _. k.rule l

-- what a packet of n octets with a checksum is read as
unfoldable pub read_as : {H : Type 0} → Kind H → List ℕ → ℕ → Packet H
read_as k s n = record {
  primary = read_header s;
  secondary = k.dec (secondary_of k.size s);
  user = take (n - 2 - start_of k) (drop (start_of k) s);
}

-- the strict checks, and the packet
abbrev pub ruled : {H : Type 0} → Kind H → List ℕ → ℕ → Answer (Packet H)
ruled k s n = strict_rule k (read_header s) (secondary_of k.size s) then λ _. gives (read_as k s n)

-- all reader checks with checksum, then the strict checks
unfoldable pub judge : {H : Type 0} → Kind H → List ℕ → Answer (Packet H)
judge k s = checked_of (start_of k) s then ruled k s
