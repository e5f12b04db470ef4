-- A telemetry packet written reads back as itself, and octets that verify write back as themselves.
use Prim.Native.Nat.{ℕ, ◌+◌, ◌-◌, ◌/◌}
use mathlib.Core.Path.{◌≡◌, refl, sym, ap, ◌∙◌}
use mathlib.Core.Bool.{Bool, true}
use mathlib.Core.List.{List, ◌++◌}
use native.Mathlib.Omega.{arith}
use lib.ListN.{length, get_or}
use Rattle.space_packet.specs.Answer.{Answer, gives}
use Rattle.space_packet.proofs.Answers.{gives_then}
use Rattle.ecss.specs.Frame.{Octets, trailer, closed, data_part}
use Rattle.ecss.specs.Kind.{Packet, Stated, content_of, packet_of, read_as}
use Rattle.ecss.proofs.Pieces.{primary-is, secondary-is}
use Rattle.ecss.proofs.RoundTrip as Any
use Rattle.tm_header.specs.Header.{TmHeader, timed, time_limit, tm_of, tm}
use Rattle.tm_header.proofs.Laws.{tm-laws}
use Rattle.tm_read.specs.Read.{start_in, record_in, read_in, checked_in, time_part, timestamp_in, source_data_in, raw_data_in}
use Rattle.tm_read.specs.declared.PusTmRecord.{PusTmRecord}
use Rattle.tm_read.proofs.Records.{read_is, checked-is, checked-read, raw-part}

-- ---- written, then read

module _ (t : ℕ) where
  -- what a reader reports of a packet
  abbrev pub report_of : Bool → Packet TmHeader → PusTmRecord
  report_of b p = record {
    sp_header = p.primary;
    sec_header = p.secondary.fields;
    start = start_in t;
    end = start_in t + length p.user;
    total = start_in t + length p.user + trailer b;
    crc16 = Any.checksum_of b (content_of (tm t) p);
  }

  -- the octets of a packet, with a checksum or none
  abbrev octets_of : Bool → Packet TmHeader → List ℕ
  octets_of b p = closed b (content_of (tm t) p)

module _ (t : ℕ) (good : time_limit t ≡ gives tt) where
  record_is : (b : Bool) (p : Packet TmHeader) (rest : List ℕ) → Stated (tm t) b p
      → record_in t (octets_of t b p ++ rest) b (start_in t + length p.user + trailer b) ≡ report_of t b p
  unfolding record_in tm_of
  record_is b p rest r =
      let e : start_in t + length p.user + trailer b - trailer b ≡ start_in t + length p.user = omega arith in
      λ i. record { sp_header = primary-is (tm t) b p rest r i; sec_header = (secondary-is (tm t) (tm-laws t) b p rest r i).fields; start = start_in t; end = e i; total = start_in t + length p.user + trailer b; crc16 = Any.crc-written (tm t) (tm-laws t) b p rest r i }

  -- with the choice of checksum that it was written with, and anything after it
  pub read-written : (b : Bool) (p : Packet TmHeader) (rest : List ℕ) → Stated (tm t) b p → read_in t (octets_of t b p ++ rest) b ≡ gives (report_of t b p)
  unfolding read_in
  read-written b p rest r = gives_then _ _ _ (Any.frame-written (tm t) (tm-laws t) _ good b p rest r) ∙ ap gives (record_is b p rest r)

  -- and with a checksum, also where it is compared
  pub checked-written : (p : Packet TmHeader) (rest : List ℕ) → Stated (tm t) true p → checked_in t (octets_of t true p ++ rest) ≡ gives (report_of t true p)
  unfolding checked_in
  checked-written p rest r = gives_then _ _ _ (Any.checked-written (tm t) (tm-laws t) _ good p rest r) ∙ ap gives (record_is true p rest r)

  pub time-written : (b : Bool) (p : Packet TmHeader) (rest : List ℕ) → Stated (tm t) b p → timestamp_in t (octets_of t b p ++ rest) b ≡ p.secondary.time
  unfolding tm_of
  time-written b p rest r =
      ap (λ (a : Answer ℕ). time_part t a (octets_of t b p ++ rest)) (Any.frame-written (tm t) (tm-laws t) _ good b p rest r)
      ∙ ap (λ (x : TmHeader). x.time) (secondary-is (tm t) (tm-laws t) b p rest r)

  pub data-written : (b : Bool) (p : Packet TmHeader) (rest : List ℕ) → Stated (tm t) b p → source_data_in t (octets_of t b p ++ rest) b ≡ p.user
  data-written = Any.data-written (tm t) (tm-laws t) _ good

  pub raw-written : (b : Bool) (p : Packet TmHeader) (rest : List ℕ) → Stated (tm t) b p → raw_data_in t (octets_of t b p ++ rest) b ≡ octets_of t b p
  raw-written = Any.raw-written (tm t) (tm-laws t) _ good

-- ---- read, then written

module _ (t : ℕ) where
  -- octets that verify, and whose version nibble is 2: what is reported, its headers, its time and its data, written again, is the packet
  pub report-written : (s : List ℕ) (r : PusTmRecord) → Octets s → checked_in t s ≡ gives r → get_or s 6 0 / 16 ≡ (tm t).version
      → packet_of (tm t) (record { primary = r.sp_header; secondary = timed r.sec_header (timestamp_in t s true); user = source_data_in t s true }) ≡ raw_data_in t s true
  unfolding record_in read_as tm_of
  report-written s r o p v =
      let q = checked-is t s r p in
      let g = (read_is t s true r (checked-read t s r p)).0 in
      let z = ap (λ (a : Answer ℕ). time_part t a s) g in
      let d = ap (λ (a : Answer ℕ). data_part (start_in t) true a s) g in
      let e : record { primary = r.sp_header; secondary = timed r.sec_header (timestamp_in t s true); user = source_data_in t s true } ≡ read_as (tm t) s r.total = λ i. record { primary = (q.1 i).sp_header; secondary = timed (q.1 i).sec_header (z i); user = d i } in
      ap (packet_of (tm t)) e
      ∙ Any.verified-written (tm t) (tm-laws t) _ s r.total (omega arith) o q.0 v refl
      ∙ sym (raw-part t s true r (checked-read t s r p))
