-- The secondary header of a telemetry packet, over the length t of its time field in octets. ECSS-E-ST-70-41C, 7.4.3, telemetry
-- packet secondary header.
use Rattle.std.specs.Prelude.{ℕ, ◌+◌, ◌*◌, ◌%◌, ◌≤◌, ◌≡◌, Bool, not, ◌&&◌, List, [], ◌∷◌, ◌++◌, length, get_or, drop, eqb, ltb}
use Rattle.space_packet.specs.Answer.{Answer, Passed, refusal, gives, refuse_if, ◌then◌, in_range, in_buffer}
use Rattle.space_packet.specs.Bits.{bits, row, be16, word}
use Rattle.space_packet.specs.declared.PacketType.TheVariants.{Tm}
use Rattle.ecss.specs.Version.{version_number, version_is, message_at}
use Rattle.ecss.specs.Kind.{Kind}
use Rattle.ecss.specs.declared.MessageTypeId.{MessageTypeId}
use Rattle.ecss.specs.declared.PusVersion.{PusVersion}
use Rattle.ecss.specs.declared.PusVersion.TheVariants.{PusC}
use Rattle.tm_header.specs.declared.PusTmSecondaryHeader.{PusTmSecondaryHeader}

-- ---- the time field

-- the mission fixes its length: 0 to 16 octets, opaque to us; a longer one is refused with 14, before all others
unfoldable pub time_limit : ℕ → Passed
time_limit t = refuse_if (ltb 16 t) (refusal 14 []) (gives tt)

-- and so is a time field of n octets, where the mission has t
unfoldable pub time_check : ℕ → ℕ → Passed
time_check t n = time_limit t then λ _. refuse_if (not (eqb n t)) (refusal 14 []) (gives tt)

-- ---- the layout

-- what a secondary header holds: the fields of the record, and beside them the octets of the time
pub record TmHeader : Type 0 where
  pub fields : PusTmSecondaryHeader
  pub time : List ℕ

abbrev pub timed : PusTmSecondaryHeader → List ℕ → TmHeader
timed x l = record { fields = x; time = l }

-- TM packet PUS version number 4 bits, spacecraft time reference status 4, service type 8, message subtype 8, message type counter
-- 16, destination ID 16, time; the standard's row may end in spare bits, and there are none here
unfoldable pub tm_row : TmHeader → List Bool
tm_row x =
    bits 4 (version_number x.fields.pus_version) ++ bits 4 x.fields.sc_time_ref_status
    ++ bits 8 x.fields.message_type_id.type_id ++ bits 8 x.fields.message_type_id.subtype_id
    ++ bits 16 x.fields.msg_counter ++ bits 16 x.fields.dest_id ++ row x.time

-- the same in octets; that their bits are that row is the theorem `layout`
abbrev pub field_octets : PusTmSecondaryHeader → List ℕ
field_octets x =
    (version_number x.pus_version * 16 + x.sc_time_ref_status) ∷ x.message_type_id.type_id
    ∷ x.message_type_id.subtype_id ∷ be16 x.msg_counter ++ be16 x.dest_id

unfoldable pub tm_octets : TmHeader → List ℕ
tm_octets x = field_octets x.fields ++ x.time

abbrev pub sec_from : PusVersion → ℕ → MessageTypeId → ℕ → ℕ → PusTmSecondaryHeader
sec_from v s m n d =
    record { pus_version = v; sc_time_ref_status = s; message_type_id = m; msg_counter = n; dest_id = d }

-- the header that octets are; its version is always reported as C
unfoldable pub fields_of : List ℕ → PusTmSecondaryHeader
fields_of l = sec_from PusC (get_or l 0 0 % 16) (message_at l) (word l 3) (word l 5)

-- the time stands behind seven octets
abbrev pub time_of : List ℕ → List ℕ
time_of l = drop 7 l

unfoldable pub tm_of : List ℕ → TmHeader
tm_of l = timed (fields_of l) (time_of l)

-- ---- the kind

pub record Fits (t : ℕ) (x : TmHeader) : Type 0 where
  pub version-is : x.fields.pus_version ≡ PusC
  pub status-fits : x.fields.sc_time_ref_status ≤ 15
  pub time-length : length x.time ≡ t

-- telemetry with a time of t octets; the strict checks ask nothing more than every kind's
abbrev pub tm : ℕ → Kind TmHeader
tm t = record {
  type = Tm;
  other = refusal 13 [];
  version = version_number PusC;
  size = 7 + t;
  enc = tm_octets;
  dec = tm_of;
  rule = λ l. gives tt;
  Fits = Fits t;
}

-- ---- the calls

-- four bits; its place in a refusal is 4
abbrev pub status_check : ℕ → Passed
status_check s = in_range 4 15 s

-- what writers ask: 14 of the time before all others, 7 of the fields, and 3 after the room
abbrev pub asked_time : ℕ → TmHeader → Passed
asked_time t x = time_check t (length x.time)

abbrev pub asked_fields : TmHeader → Passed
asked_fields x = status_check x.fields.sc_time_ref_status

abbrev pub asked_version : TmHeader → Passed
asked_version x = version_is PusC x.fields.pus_version

-- write_to_slice, on a buffer of n octets: 14, 7, 1, 3
unfoldable pub sec_checks : ℕ → TmHeader → ℕ → Passed
sec_checks t x n = asked_time t x then λ _. asked_fields x then λ _. in_buffer n (tm t).size then λ _. asked_version x

unfoldable pub sec_write : ℕ → TmHeader → ℕ → Answer ℕ
sec_write t x n = sec_checks t x n then λ _. gives (tm t).size

-- from_be_bytes: 14, 2
unfoldable pub sec_read : ℕ → List ℕ → Answer PusTmSecondaryHeader
sec_read t s =
    time_limit t then λ _. refuse_if (ltb (length s) (tm t).size) (refusal 2 (length s ∷ (tm t).size ∷ [])) (gives (fields_of s))

-- the header that the setter makes
abbrev pub with_status : PusTmSecondaryHeader → ℕ → PusTmSecondaryHeader
with_status x s = sec_from x.pus_version s x.message_type_id x.msg_counter x.dest_id

-- every field is the same; that the headers then are equal, and only then, is the theorem `same-sec`
unfoldable pub same_sec : PusTmSecondaryHeader → PusTmSecondaryHeader → Bool
same_sec x y =
    eqb x.message_type_id.type_id y.message_type_id.type_id
    && (eqb x.message_type_id.subtype_id y.message_type_id.subtype_id
    && (eqb x.msg_counter y.msg_counter
    && (eqb x.dest_id y.dest_id
    && (eqb x.sc_time_ref_status y.sc_time_ref_status
    && eqb (version_number x.pus_version) (version_number y.pus_version)))))
