-- A bound is needed where one, two or three changed bits are refused: of 4,097 octets, two bits that the checksum cannot tell from none
-- stand in the APID and in the last octet, and with both changed an accepted command is another accepted one.
use Rattle.std.specs.Prelude.{ℕ, ◌≡◌, List, [], ◌∷◌, ◌++◌, replicate}
use Rattle.crc_register.specs.Added.{add_octets}
use Rattle.detect.specs.Errors.{UpToThree}
use Rattle.space_packet.specs.Answer.{gives}
use Rattle.ecss.specs.Frame.{sealed, stated_of}
use Rattle.exactness.specs.Changed.{ChangedIn}
use Rattle.tc_read.specs.declared.PusTcRecord.{PusTcRecord}
use Rattle.tc_strict.specs.Verdict.{strict_of}

-- a command of service 17, subtype 1, with 4,084 octets of data, all 0
abbrev pub content : List ℕ
content = 0x19 ∷ 0x23 ∷ 0xC0 ∷ 0x05 ∷ 0x0F ∷ 0xFA ∷ 0x2F ∷ 0x11 ∷ 0x01 ∷ 0x00 ∷ 0x00 ∷ replicate 4084 0

abbrev pub sent : List ℕ
sent = sealed content

-- bits 5 and 32,772
abbrev pub error : List ℕ
error = 0x04 ∷ (replicate 4095 0 ++ (0x08 ∷ []))

abbrev pub received : List ℕ
received = add_octets sent error

pub record Beyond : Type 0 where
  pub total : stated_of sent ≡ 4097
  pub changed : ChangedIn UpToThree sent received (stated_of sent)
  pub sent-accepted : (r : PusTcRecord) × (strict_of sent ≡ gives r)
  pub received-accepted : (r : PusTcRecord) × (strict_of received ≡ gives r)
