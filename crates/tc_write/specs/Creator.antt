-- The telecommand's creator: construction, the length, and what is written. Its data d, or their number n, travel beside it.
use Rattle.std.specs.Prelude.{ℕ, Bool, ◌&&◌, List, eqb, length, Option, Result}
use Rattle.space_packet.specs.Answer.{Answer, Kept, gives, ◌then◌}
use Rattle.space_packet.specs.declared.PusError.{PusError}
use Rattle.space_packet.specs.Bits.{flag_number}
use Rattle.space_packet.specs.Header.{same_header}
use Rattle.space_packet.specs.Wrote.{Wrote}
use Rattle.space_packet.specs.declared.SpacePacketHeader.{SpacePacketHeader}
use Rattle.ecss.specs.Frame.{same_octets}
use Rattle.ecss.specs.declared.CreatorConfig.{CreatorConfig}
use Rattle.ecss_write.specs.Write.{checksum_with, kept_with}
use Rattle.ecss_write.specs.Writer.{content_by, octets_by, new_by, afresh_by, write_by, bare_by, own_by}
use Rattle.tc_header.specs.Form.{form_c, same_form}
use Rattle.tc_header.specs.Header.{same_sec}
use Rattle.tc_write.specs.Command.{command_in}
use Rattle.tc_header.specs.declared.PusTcSecondaryHeader.{PusTcSecondaryHeader}
use Rattle.tc_header.specs.declared.TcForm.{TcForm}
use Rattle.tc_write.specs.declared.PusTcCreator.{PusTcCreator}

abbrev pub creator_in : TcForm → SpacePacketHeader → PusTcSecondaryHeader → Bool → PusTcCreator
creator_in f h x b = record { form = f; sp_header = h; sec_header = x; has_checksum = b }

abbrev pub creator_of : SpacePacketHeader → PusTcSecondaryHeader → Bool → PusTcCreator
creator_of = creator_in form_c

-- its octets before the checksum, and with it, where it has one
abbrev pub content_for : PusTcCreator → List ℕ → List ℕ
content_for t d = content_by (command_in t.form) t.sp_header t.sec_header d

abbrev pub octets_for : PusTcCreator → List ℕ → List ℕ
octets_for t d = octets_by (command_in t.form) t.sp_header t.sec_header t.has_checksum d

-- ---- the calls

-- construction: 32, 19, 7, and 6 where it sets the length
abbrev pub new_in : TcForm → SpacePacketHeader → PusTcSecondaryHeader → ℕ → CreatorConfig → Answer PusTcCreator
new_in f h x n config =
    new_by (command_in f) h x config.has_checksum config.set_ccsds_len n
    then λ g. gives (creator_in f g x config.has_checksum)

abbrev pub new_of : SpacePacketHeader → PusTcSecondaryHeader → ℕ → CreatorConfig → Answer PusTcCreator
new_of = new_in form_c

-- an edit is refused for what is handed in only, and then keeps the old record

abbrev pub with_header : PusTcCreator → SpacePacketHeader → PusTcCreator
with_header t h = creator_in t.form h t.sec_header t.has_checksum

abbrev pub with_sec : PusTcCreator → PusTcSecondaryHeader → PusTcCreator
with_sec t x = creator_in t.form t.sp_header x t.has_checksum

-- update_ccsds_data_len: 32, 19, 7, 6
abbrev pub updated : PusTcCreator → ℕ → Kept PusTcCreator
updated t n = kept_with (with_header t) (afresh_by (command_in t.form) t.sp_header t.sec_header t.has_checksum n)

-- the checksum over all octets before it: 32, 19, 7, 3
abbrev pub own_checksum : PusTcCreator → List ℕ → Answer ℕ
own_checksum t d = own_by (command_in t.form) t.sp_header t.sec_header d

-- the checksum that is written: none, or its own
abbrev pub checksum_of : PusTcCreator → List ℕ → Answer (Option ℕ)
checksum_of t d = checksum_with t.has_checksum (own_checksum t d)

-- writing into a buffer of m octets: 32, 19, 7, 6 for the machine size, 1, 3
abbrev pub write_of : PusTcCreator → ℕ → ℕ → Answer ℕ
write_of t n m = write_by (command_in t.form) t.sp_header t.sec_header t.has_checksum n m

-- and without the checksum, for which there still must be room
abbrev pub bare_of : PusTcCreator → ℕ → ℕ → Answer ℕ
bare_of t n m = bare_by (command_in t.form) t.sp_header t.sec_header t.has_checksum n m

-- the packet stands over the first octets of the buffer, and its length is answered; refused, the buffer is as it was
abbrev pub PacketWrote : PusTcCreator → List ℕ → List ℕ → Result ℕ PusError → List ℕ → Type 0
PacketWrote t d before r after = Wrote (write_of t (length d) (length before)) (octets_for t d) before r after

-- and without the checksum, whose places are left as they were
abbrev pub ContentWrote : PusTcCreator → List ℕ → List ℕ → Result ℕ PusError → List ℕ → Type 0
ContentWrote t d before r after = Wrote (bare_of t (length d) (length before)) (content_for t d) before r after

-- the form, the headers, the data and the choice of checksum are the same
unfoldable pub same_creator : PusTcCreator → List ℕ → PusTcCreator → List ℕ → Bool
same_creator t d u e =
    same_form t.form u.form
    && (same_header t.sp_header u.sp_header
    && (same_sec t.sec_header u.sec_header
    && (same_octets d e && eqb (flag_number t.has_checksum) (flag_number u.has_checksum))))
