-- The PUS version number, and the records that every PUS packet has.
use Rattle.std.specs.Prelude.{ℕ, true, not, eqb, List, [], ◌∷◌, get_or}
use Rattle.space_packet.specs.Bits.{pick}
use Rattle.space_packet.specs.Answer.{Answer, Passed, gives, refuses, refusal, refuse_if}
use Rattle.ecss.specs.declared.PusVersion.{PusVersion}
use Rattle.ecss.specs.declared.PusVersion.TheVariants.{EsaPus, PusA, PusC}
use Rattle.ecss.specs.declared.MessageTypeId.{MessageTypeId}
use Rattle.ecss.specs.declared.CreatorConfig.{CreatorConfig}

-- ECSS-E-ST-70-41C, 7.4.3 and 7.4.4, TM and TC packet PUS version number: this standard's version number is 2; ECSS-E-70-41A's is 1, and
-- the ESA standard's before it 0
abbrev pub version_number : PusVersion → ℕ
version_number EsaPus = 0
version_number PusA = 1
version_number PusC = 2

-- the version of a nibble
unfoldable pub version_of : ℕ → Answer PusVersion
version_of n =
    pick (eqb n 0) (gives EsaPus)
    (pick (eqb n 1) (gives PusA) (pick (eqb n 2) (gives PusC) (refuses (refusal 3 (n ∷ [])))))

-- only one version is written; another is refused with its number
abbrev pub version_is : PusVersion → PusVersion → Passed
version_is own v = refuse_if (not (eqb (version_number v) (version_number own))) (refusal 3 (version_number v ∷ [])) (gives tt)

abbrev pub message_type_of : ℕ → ℕ → MessageTypeId
message_type_of t u = record { type_id = t; subtype_id = u }

-- what stands behind the first octet of a secondary header
abbrev pub message_at : List ℕ → MessageTypeId
message_at l = message_type_of (get_or l 1 0) (get_or l 2 0)

abbrev pub default_config : CreatorConfig
default_config = record { set_ccsds_len = true; has_checksum = true }
