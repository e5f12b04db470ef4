-- A telecommand written reads back as itself, and octets that verify write back as themselves.
use Prim.Native.Nat.{ℕ, ◌+◌, ◌-◌, ◌/◌}
use mathlib.Core.Path.{◌≡◌, sym, ap, ◌∙◌}
use mathlib.Core.Bool.{Bool, true}
use mathlib.Core.List.{List, ◌++◌}
use native.Mathlib.Omega.{arith}
use lib.ListN.{length, get_or}
use Rattle.space_packet.specs.Answer.{Answer, gives}
use Rattle.space_packet.proofs.Answers.{gives_then}
use Rattle.ecss.specs.Frame.{Octets, trailer, closed, data_part}
use Rattle.ecss.specs.Kind.{Packet, Stated, secondary_of, content_of, packet_of, read_as}
use Rattle.ecss.proofs.After.{checked-given}
use Rattle.ecss.proofs.Pieces.{primary-is, secondary-is}
use Rattle.ecss.proofs.RoundTrip as Any
use Rattle.ecss.specs.Version.{version_number}
use Rattle.tc_header.specs.Form.{form_check, spare_rule}
use Rattle.tc_header.specs.Header.{tc}
use Rattle.tc_header.specs.declared.TcForm.{TcForm}
use Rattle.tc_header.specs.declared.PusTcSecondaryHeader.{PusTcSecondaryHeader}
use Rattle.tc_header.proofs.Laws.{laws}
use Rattle.tc_read.specs.Read.{start_in, record_in, read_in, checked_in, app_data_in, raw_data_in}
use Rattle.tc_read.specs.declared.PusTcRecord.{PusTcRecord}
use Rattle.tc_read.proofs.Records.{read_is, checked-is, checked-read, raw-part}

-- ---- written, then read

module _ (f : TcForm) where
  -- what a reader reports of a packet
  abbrev pub report_of : Bool → Packet PusTcSecondaryHeader → PusTcRecord
  report_of b p = record {
    sp_header = p.primary;
    sec_header = p.secondary;
    start = start_in f;
    end = start_in f + length p.user;
    total = start_in f + length p.user + trailer b;
    crc16 = Any.checksum_of b (content_of (tc f) p);
  }

  -- the octets of a packet, with a checksum or none
  abbrev octets_of : Bool → Packet PusTcSecondaryHeader → List ℕ
  octets_of b p = closed b (content_of (tc f) p)

module _ (f : TcForm) (good : form_check f ≡ gives tt) where
  record_is : (b : Bool) (p : Packet PusTcSecondaryHeader) (rest : List ℕ) → Stated (tc f) b p
      → record_in f (octets_of f b p ++ rest) b (start_in f + length p.user + trailer b) ≡ report_of f b p
  unfolding record_in
  record_is b p rest r =
      let e : start_in f + length p.user + trailer b - trailer b ≡ start_in f + length p.user = omega arith in
      λ i. record { sp_header = primary-is (tc f) b p rest r i; sec_header = secondary-is (tc f) (laws f good) b p rest r i; start = start_in f; end = e i; total = start_in f + length p.user + trailer b; crc16 = Any.crc-written (tc f) (laws f good) b p rest r i }

  -- with the choice of checksum that it was written with, and anything after it
  pub read-written : (b : Bool) (p : Packet PusTcSecondaryHeader) (rest : List ℕ) → Stated (tc f) b p → read_in f (octets_of f b p ++ rest) b ≡ gives (report_of f b p)
  unfolding read_in
  read-written b p rest r = gives_then _ _ _ (Any.frame-written (tc f) (laws f good) _ good b p rest r) ∙ ap gives (record_is b p rest r)

  -- and with a checksum, also where it is compared
  pub checked-written : (p : Packet PusTcSecondaryHeader) (rest : List ℕ) → Stated (tc f) true p → checked_in f (octets_of f true p ++ rest) ≡ gives (report_of f true p)
  unfolding checked_in
  checked-written p rest r = gives_then _ _ _ (Any.checked-written (tc f) (laws f good) _ good p rest r) ∙ ap gives (record_is true p rest r)

  pub data-written : (b : Bool) (p : Packet PusTcSecondaryHeader) (rest : List ℕ) → Stated (tc f) b p → app_data_in f (octets_of f b p ++ rest) b ≡ p.user
  data-written = Any.data-written (tc f) (laws f good) _ good

  pub raw-written : (b : Bool) (p : Packet PusTcSecondaryHeader) (rest : List ℕ) → Stated (tc f) b p → raw_data_in f (octets_of f b p ++ rest) b ≡ octets_of f b p
  raw-written = Any.raw-written (tc f) (laws f good) _ good

-- ---- read, then written

module _ (f : TcForm) where
  -- octets that verify, whose version nibble is the form's and whose spare octets are zeros: what is reported, its headers and its data,
  -- written again, is the packet
  pub report-written : (s : List ℕ) (r : PusTcRecord) → Octets s → checked_in f s ≡ gives r → get_or s 6 0 / 16 ≡ version_number f.version
      → spare_rule f (secondary_of (tc f).size s) ≡ gives tt → packet_of (tc f) (record { primary = r.sp_header; secondary = r.sec_header; user = app_data_in f s true }) ≡ raw_data_in f s true
  unfolding record_in read_as
  report-written s r o p v u =
      let q = checked-is f s r p in
      let g = (read_is f s true r (checked-read f s r p)).0 in
      let d = ap (λ (a : Answer ℕ). data_part (start_in f) true a s) g in
      let e : record { primary = r.sp_header; secondary = r.sec_header; user = app_data_in f s true } ≡ read_as (tc f) s r.total = λ i. record { primary = (q.1 i).sp_header; secondary = (q.1 i).sec_header; user = d i } in
      ap (packet_of (tc f)) e
      ∙ Any.verified-written (tc f) (laws f (checked-given _ _ s r.total q.0).good) _ s r.total (omega arith) o q.0 v u
      ∙ sym (raw-part f s true r (checked-read f s r p))
