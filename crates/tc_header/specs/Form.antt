-- The form of a telecommand: its edition, the width of its source ID in bits, and how many spare octets end its secondary header. From
-- it follow the version number, the octets of the source ID, the size of the secondary header, and where the data starts.
use Rattle.std.specs.Prelude.{ℕ, zero, suc, ◌+◌, ◌-◌, ◌/◌, ◌≤◌, Bool, true, not, ◌&&◌, ◌||◌, List, [], ◌∷◌, get_or, take, drop, eqb, ltb}
use Rattle.space_packet.specs.Bits.{be16, word}
use Rattle.space_packet.specs.Answer.{Passed, refusal, gives, refuse_if, in_range}
use Rattle.ecss.specs.Version.{version_number}
use Rattle.ecss.specs.declared.PusVersion.TheVariants.{PusA, PusC}
use Rattle.tc_header.specs.declared.TcForm.{TcForm}

-- ECSS-E-ST-70-41C, 7.4.4, telecommand packet secondary header: version 2, a source ID of 16 bits, and spare bits as the mission fixes
-- them, here of n whole octets
abbrev pub form_spare : ℕ → TcForm
form_spare n = record { version = PusC; source_width = 16; spare_len = n }

-- PUS C with no spare
abbrev pub form_c : TcForm
form_c = form_spare 0

-- ECSS-E-70-41A, the data field header of telecommand packets: version 1, a source ID of as many bits as the mission fixes, no spare
abbrev pub form_a : ℕ → TcForm
form_a width = record { version = PusA; source_width = width; spare_len = 0 }

abbrev pub is_width : ℕ → Bool
is_width w = eqb w 16 || (eqb w 8 || eqb w 0)

-- another width is refused with 32, and more than four spare octets with 19, before all others; the code makes no form but `form_spare`
-- and `form_a`, each of which has one of the two at most, and what is said of forms holds of every version with one of these widths and
-- that many spare octets
unfoldable pub form_check : TcForm → Passed
form_check f =
    refuse_if (not (is_width f.source_width)) (refusal 32 []) (refuse_if (ltb 4 f.spare_len) (refusal 19 []) (gives tt))

-- the octets of the source ID
abbrev pub source_len : TcForm → ℕ
source_len f = f.source_width / 8

-- the same edition, width and spare length
unfoldable pub same_form : TcForm → TcForm → Bool
same_form f g =
    eqb (version_number f.version) (version_number g.version)
    && (eqb f.source_width g.source_width && eqb f.spare_len g.spare_len)

-- ---- a source ID of n octets

-- the low n octets of sixteen bits
abbrev pub source_octets : ℕ → ℕ → List ℕ
source_octets n v = drop (2 - n) (be16 v)

-- what stands at octet 3 of the secondary header; no octet reads as source 0
abbrev pub source_at : ℕ → List ℕ → ℕ
source_at zero l = 0
source_at (suc zero) l = get_or l 3 0
source_at (suc (suc n)) l = word l 3

-- within its width; sixteen bits hold every value of the record's field
abbrev pub SourceFits : ℕ → ℕ → Type 0
SourceFits zero v = v ≤ 0
SourceFits (suc zero) v = v ≤ 255
SourceFits (suc (suc n)) v = Unit {0}

-- over its width it is refused; its place in a refusal is 5
abbrev pub source_check : ℕ → ℕ → Passed
source_check zero v = in_range 5 0 v
source_check (suc zero) v = in_range 5 255 v
source_check (suc (suc n)) v = gives tt

-- ---- the spare octets

-- they stand behind three octets and the source ID
abbrev pub spare_at : TcForm → ℕ
spare_at f = 3 + source_len f

abbrev pub spare_of : TcForm → List ℕ → List ℕ
spare_of f l = take f.spare_len (drop (spare_at f) l)

unfoldable pub all_zero : List ℕ → Bool
all_zero [] = true
all_zero (o ∷ l) = eqb o 0 && all_zero l

-- and are zeros, which the strict checks ask
abbrev pub spare_rule : TcForm → List ℕ → Passed
spare_rule f l = refuse_if (not (all_zero (spare_of f l))) (refusal 20 []) (gives tt)
