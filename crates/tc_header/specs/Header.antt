-- The secondary header of a telecommand, over its form. ECSS-E-ST-70-41C, 7.4.4, telecommand packet secondary header; ECSS-E-70-41A,
-- the data field header of telecommand packets.
use Rattle.std.specs.Prelude.{ℕ, ◌+◌, ◌*◌, ◌/◌, ◌%◌, ◌≤◌, ◌≡◌, Bool, ◌&&◌, List, [], ◌∷◌, ◌++◌, length, get_or, replicate, eqb, ltb}
use Rattle.space_packet.specs.Bits.{bits, flag_number}
use Rattle.space_packet.specs.Answer.{Answer, Passed, refusal, gives, refuse_if, ◌then◌, in_range, in_buffer}
use Rattle.space_packet.specs.declared.PacketType.TheVariants.{Tc}
use Rattle.ecss.specs.Version.{version_number, version_is, message_at}
use Rattle.ecss.specs.Kind.{Kind}
use Rattle.ecss.specs.declared.MessageTypeId.{MessageTypeId}
use Rattle.ecss.specs.declared.PusVersion.{PusVersion}
use Rattle.tc_header.specs.Form.{form_c, form_check, source_len, source_octets, source_at, SourceFits, source_check, spare_at, spare_rule}
use Rattle.tc_header.specs.declared.AckFlags.{AckFlags}
use Rattle.tc_header.specs.declared.PusTcSecondaryHeader.{PusTcSecondaryHeader}
use Rattle.tc_header.specs.declared.TcForm.{TcForm}

-- ---- the acknowledgement flags: acceptance 8, start 4, progress 2, completion 1, in the order of the Rust crate

-- four bits; its place in a refusal is 4
abbrev pub ack_check : AckFlags → Passed
ack_check a = in_range 4 15 a.0

abbrev pub ack_of : ℕ → AckFlags
ack_of n = record { 0 = n }

-- the flags with the bit of a weight set or cleared, the others as they were
abbrev pub with_flag : ℕ → AckFlags → Bool → AckFlags
with_flag weight a v =
    ack_of (a.0 / (2 * weight) * (2 * weight) + flag_number v * weight + a.0 % weight)

-- ---- the layout

-- what both editions draw behind the version: acknowledgement flags 4 bits, service type 8, message subtype 8, source ID as wide as
-- the form says
abbrev pub fields_row : ℕ → PusTcSecondaryHeader → List Bool
fields_row width x =
    bits 4 x.ack_flags.0 ++ bits 8 x.message_type_id.type_id ++ bits 8 x.message_type_id.subtype_id
    ++ bits width x.source_id

-- PUS C: TC packet PUS version number 4 bits, source ID 16, and spare bits that are zero, here of n octets
unfoldable pub sec_row : ℕ → PusTcSecondaryHeader → List Bool
sec_row n x = bits 4 (version_number x.version) ++ fields_row 16 x ++ bits (8 * n) 0

-- PUS A: a bit that is zero, TC packet PUS version number 3 bits; no spare
unfoldable pub row_a : ℕ → PusTcSecondaryHeader → List Bool
row_a width x = bits 1 0 ++ bits 3 (version_number x.version) ++ fields_row width x

-- the same in octets, for every form; the theorems `layout` and `layout-a` say that their bits are those rows
abbrev pub first_octets : PusTcSecondaryHeader → List ℕ
first_octets x =
    (version_number x.version * 16 + x.ack_flags.0) ∷ x.message_type_id.type_id
    ∷ x.message_type_id.subtype_id ∷ []

unfoldable pub tc_octets : TcForm → PusTcSecondaryHeader → List ℕ
tc_octets f x = first_octets x ++ source_octets (source_len f) x.source_id ++ replicate f.spare_len 0

abbrev pub sec_octets : PusTcSecondaryHeader → List ℕ
sec_octets = tc_octets form_c

abbrev pub sec_from : MessageTypeId → AckFlags → ℕ → PusVersion → PusTcSecondaryHeader
sec_from m a n v = record { message_type_id = m; source_id = n; ack_flags = a; version = v }

-- the header that octets are; its version is always reported as the form's, and its spare octets are skipped
unfoldable pub tc_of : TcForm → List ℕ → PusTcSecondaryHeader
tc_of f l = sec_from (message_at l) (ack_of (get_or l 0 0 % 16)) (source_at (source_len f) l) f.version

abbrev pub sec_of : List ℕ → PusTcSecondaryHeader
sec_of = tc_of form_c

-- ---- the kind

-- only the form's version is written
abbrev pub version_in : TcForm → PusVersion → Passed
version_in f = version_is f.version

abbrev pub version_check : PusVersion → Passed
version_check = version_in form_c

-- the first field over its width
abbrev pub fields_check : TcForm → PusTcSecondaryHeader → Passed
fields_check f x = ack_check x.ack_flags then λ _. source_check (source_len f) x.source_id

pub record Fits (f : TcForm) (x : PusTcSecondaryHeader) : Type 0 where
  pub version-is : x.version ≡ f.version
  pub ack-fits : x.ack_flags.0 ≤ 15
  pub source_fits : SourceFits (source_len f) x.source_id

-- telecommands of a form; besides what every kind is asked, the strict checks ask for zeros in the spare octets
abbrev pub tc : TcForm → Kind PusTcSecondaryHeader
tc f = record {
  type = Tc;
  other = refusal 10 [];
  version = version_number f.version;
  size = spare_at f + f.spare_len;
  enc = tc_octets f;
  dec = tc_of f;
  rule = spare_rule f;
  Fits = Fits f;
}

-- PUS C with no spare: version 2, and a secondary header of five octets
abbrev pub pus_c : Kind PusTcSecondaryHeader
pus_c = tc form_c

-- ---- the calls

-- the form, and the fields in it: 32, 19, 7
abbrev pub widths_check : TcForm → PusTcSecondaryHeader → Passed
widths_check f x = form_check f then λ _. fields_check f x

-- new_in: 32, 19, 7
abbrev pub sec_made : TcForm → PusTcSecondaryHeader → Answer PusTcSecondaryHeader
sec_made f x = widths_check f x then λ _. gives x

-- what write_to_slice_in asks, on a buffer of n octets: 32, 19, 7, 1, 3
unfoldable pub sec_checks : TcForm → PusTcSecondaryHeader → ℕ → Passed
sec_checks f x n = widths_check f x then λ _. in_buffer n (tc f).size then λ _. version_in f x.version

unfoldable pub sec_write_in : TcForm → PusTcSecondaryHeader → ℕ → Answer ℕ
sec_write_in f x n = sec_checks f x n then λ _. gives (tc f).size

abbrev pub sec_write : PusTcSecondaryHeader → ℕ → Answer ℕ
sec_write = sec_write_in form_c

-- from_be_bytes_in: 32, 19, 2
unfoldable pub sec_read_in : TcForm → List ℕ → Answer PusTcSecondaryHeader
sec_read_in f s =
    form_check f then λ _. refuse_if (ltb (length s) (tc f).size) (refusal 2 (length s ∷ (tc f).size ∷ [])) (gives (tc_of f s))

abbrev pub sec_read : List ℕ → Answer PusTcSecondaryHeader
sec_read = sec_read_in form_c

-- every field is the same; that the headers then are equal, and only then, is the theorem `same-sec`
unfoldable pub same_sec : PusTcSecondaryHeader → PusTcSecondaryHeader → Bool
same_sec x y =
    eqb x.message_type_id.type_id y.message_type_id.type_id
    && (eqb x.message_type_id.subtype_id y.message_type_id.subtype_id
    && (eqb x.source_id y.source_id
    && (eqb x.ack_flags.0 y.ack_flags.0 && eqb (version_number x.version) (version_number y.version))))
