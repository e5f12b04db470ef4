-- `SpacePacketHeader::rest_of_be_bytes` meets its contract: of fewer than six octets nothing is left, else all behind the sixth.
use mathlib.Core.Path.{sym}
use Prim.Native.Nat.{◌-◌}
use lib.ListN.{length, drop, drop_of_length-le, length-drop}
use lib.Seq.{take_all}
use native.Mathlib.Omega.{arith}
use Rattle.space_packet.proofs.Parts.{reached-none, reached-all}
use Rattle.space_packet.proofs.SpacePacketHeader.rest_of_be_bytes.Goals as goal

pub returns-then-buf-lt-CCSDS_HEADER_LEN : goal.returns-then-buf-lt-CCSDS_HEADER_LEN
returns-then-buf-lt-CCSDS_HEADER_LEN c =
    let b = c.args.buf in record { result_value = sym (drop_of_length-le b.now {i = 6} (omega arith)); ref_ptr_value = reached-none 6 b.now b.ref_ptr c.if-buf-lt-CCSDS_HEADER_LEN.true }

pub returns : goal.returns
returns c =
    let b = c.args.buf in record { result_value = take_all (length b.now - 6) (drop 6 b.now) (simp length-drop (omega arith)); ref_ptr_value = reached-all 6 b.now b.ref_ptr c.if-buf-lt-CCSDS_HEADER_LEN.false }
