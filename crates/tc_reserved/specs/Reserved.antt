-- The telecommand whose data is filled in its buffer.
use Rattle.std.specs.Prelude.{ℕ, Bool, List, length}
use Rattle.space_packet.specs.Answer.{Answer, gives, ◌then◌}
use Rattle.space_packet.specs.declared.SpacePacketHeader.{SpacePacketHeader}
use Rattle.ecss.specs.Kind.{start_of}
use Rattle.ecss_write.specs.Writer.{reserve_by, head_by, headed_by}
use Rattle.tc_header.specs.Form.{form_c}
use Rattle.tc_header.specs.Header.{tc}
use Rattle.tc_write.specs.Command.{command_in}
use Rattle.tc_header.specs.declared.PusTcSecondaryHeader.{PusTcSecondaryHeader}
use Rattle.tc_header.specs.declared.TcForm.{TcForm}
use Rattle.tc_reserved.specs.declared.PusTcCreatorWithReservedAppData.{PusTcCreatorWithReservedAppData}

abbrev pub reservation_in : TcForm → ℕ → Bool → PusTcCreatorWithReservedAppData
reservation_in f total b = record { held = record { start = start_of (tc f); total = total; has_checksum = b }; form = f }

abbrev pub reservation_of : ℕ → Bool → PusTcCreatorWithReservedAppData
reservation_of = reservation_in form_c

-- reserving n octets in a buffer of m: 32, 19, 7, 6 for the machine size, 1, 6 for the packet limit, 3
abbrev pub reserve_in : TcForm → SpacePacketHeader → PusTcSecondaryHeader → ℕ → Bool → ℕ → Answer PusTcCreatorWithReservedAppData
reserve_in f h x n b m = reserve_by (command_in f) h x b n m then λ total. gives (reservation_in f total b)

abbrev pub reserve_of : SpacePacketHeader → PusTcSecondaryHeader → ℕ → Bool → ℕ → Answer PusTcCreatorWithReservedAppData
reserve_of = reserve_in form_c

-- what it leaves: the headers, as construction sets them, with the length; refused, what was there
abbrev pub reserved_left_in : TcForm → SpacePacketHeader → PusTcSecondaryHeader → ℕ → Bool → List ℕ → List ℕ
reserved_left_in f h x n b before =
    headed_by (command_in f) (reserve_by (command_in f) h x b n (length before)) (head_by (command_in f) h x b n) before

abbrev pub reserved_left : SpacePacketHeader → PusTcSecondaryHeader → ℕ → Bool → List ℕ → List ℕ
reserved_left = reserved_left_in form_c
