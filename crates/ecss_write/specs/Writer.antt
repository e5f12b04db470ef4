-- The write path of a kind of packet, whose secondary header is an H: construction, the length, the writes, the checksum, and
-- reserving. The data d, or their number n, travel beside the headers h and x; b says whether there is a checksum.
use Rattle.std.specs.Prelude.{ℕ, ◌+◌, ◌-◌, ◌≤◌, ◌≡◌, Bool, false, List, [], length, Result}
use Rattle.space_packet.specs.declared.PusError.{PusError}
use Rattle.space_packet.specs.Answer.{Answer, Passed, Kept, gives}
use Rattle.space_packet.specs.Fields.{is_idle}
use Rattle.space_packet.specs.Header.{InRange}
use Rattle.space_packet.specs.Wrote.{Wrote}
use Rattle.space_packet.specs.declared.SpacePacketHeader.{SpacePacketHeader}
use Rattle.ecss.specs.Frame.{closed, max_total}
use Rattle.ecss.specs.Kind.{Kind, KindLaws, Packet, start_of, content_of}
use Rattle.ecss_write.specs.Write.{total_for, Asked, asked, write_with, bare_with, put_with, put_octets, reserve_with, own_with, as_type, with_length, headed_at, made_with, afresh_with}

-- a kind with what its writers ask of the secondary header
pub record Writer (H : Type 0) : Type 1 where
  pub kind : Kind H
  -- before all others
  pub first : H → Passed
  -- of its fields, after the primary header's
  pub fields : H → Passed
  -- after the room
  pub version : H → Passed

-- what a writer owes: its checks pass exactly where the secondary header is as the strict checks ask it
pub record WriterLaws {H : Type 0} (w : Writer H) : Type 0 where
  pub kind-laws : KindLaws w.kind
  pub passed-fits : (x : H) → w.first x ≡ gives tt → w.fields x ≡ gives tt → w.version x ≡ gives tt → w.kind.Fits x
  pub fits-passes : (x : H) → w.kind.Fits x → (w.first x ≡ gives tt) × (w.fields x ≡ gives tt) × (w.version x ≡ gives tt)

abbrev pub packet_by : {H : Type 0} → SpacePacketHeader → H → List ℕ → Packet H
packet_by h x d = record { primary = h; secondary = x; user = d }

module _ {H : Type 0} (w : Writer H) where
  abbrev pub start_by : ℕ
  start_by = start_of w.kind

  -- what it asks of a secondary header
  abbrev pub asked_of : H → Asked
  asked_of x = record { first = w.first x; fields = w.fields x; version = w.version x }

  -- the octets before the checksum, and with it, where there is one
  abbrev pub content_by : SpacePacketHeader → H → List ℕ → List ℕ
  content_by h x d = content_of w.kind (packet_by h x d)

  abbrev pub octets_by : SpacePacketHeader → H → Bool → List ℕ → List ℕ
  octets_by h x b d = closed b (content_by h x d)

  -- the kind's type, and a secondary header; the packet version number is kept
  abbrev pub as_kind : SpacePacketHeader → SpacePacketHeader
  as_kind = as_type w.kind.type

  -- the header that is made for some data, with a checksum: its length is the total minus 7
  abbrev pub made_by : SpacePacketHeader → List ℕ → SpacePacketHeader
  made_by h d = with_length (as_kind h) (start_by + length d + 2 - 7)

  -- what comes before all others, then the first field over its width
  abbrev pub check_by : SpacePacketHeader → H → Passed
  check_by h x = asked (w.first x) h (w.fields x)

  -- construction, the header that it makes: what comes first, 7, and 6 where it sets the length
  abbrev pub new_by : SpacePacketHeader → H → Bool → Bool → ℕ → Answer SpacePacketHeader
  new_by h x b set n = made_with (check_by (as_kind h) x) start_by b n set (as_kind h)

  -- the length set afresh: what comes first, 7, 6
  abbrev pub afresh_by : SpacePacketHeader → H → Bool → ℕ → Kept SpacePacketHeader
  afresh_by h x b n = afresh_with (check_by h x) start_by b n h

  -- writing into a buffer of m octets: what comes first, 7, 6 for the machine size, 1, 3; and without the checksum
  abbrev pub write_by : SpacePacketHeader → H → Bool → ℕ → ℕ → Answer ℕ
  write_by h x b n m = write_with (check_by h x) (w.version x) start_by b n m

  abbrev pub bare_by : SpacePacketHeader → H → Bool → ℕ → ℕ → Answer ℕ
  bare_by h x b n m = bare_with (check_by h x) (w.version x) start_by b n m

  -- what either of them answers, and leaves of the buffer
  abbrev pub PutWrote : Bool → SpacePacketHeader → H → Bool → List ℕ → List ℕ → Result ℕ PusError → List ℕ → Type 0
  PutWrote bare h x b d before r after =
      Wrote (put_with bare (check_by h x) (w.version x) start_by b (length d) (length before)) (put_octets bare b (content_by h x d)) before r after

  -- the checksum over all octets before it: what comes first, 7, 3
  abbrev pub own_by : SpacePacketHeader → H → List ℕ → Answer ℕ
  own_by h x d = own_with (check_by h x) (w.version x) (content_by h x d)

  -- reserving: what comes first, 7, 6 for the machine size, 1, 6 for the packet limit, 3; the answer is the total
  abbrev pub reserve_by : SpacePacketHeader → H → Bool → ℕ → ℕ → Answer ℕ
  reserve_by h x b n m = reserve_with (check_by h x) (w.version x) start_by b n m

  -- the headers that it writes: as construction makes them, with the length
  abbrev pub head_by : SpacePacketHeader → H → Bool → ℕ → List ℕ
  head_by h x b n = content_by (with_length (as_kind h) (total_for start_by b n - 7)) x []

  abbrev pub headed_by : Answer ℕ → List ℕ → List ℕ → List ℕ
  headed_by = headed_at start_by

-- headers and data of which construction or a reservation, which set the rest, make a packet under the written rules
pub record Handed {H : Type 0} (k : Kind H) (p : Packet H) : Type 0 where
  pub in-range : InRange p.primary
  pub version-zero : p.primary.version ≡ 0
  pub not-idle : is_idle p.primary.packet_id.apid ≡ false
  pub fits : k.Fits p.secondary
  pub at_most : start_of k + length p.user + 2 ≤ max_total
