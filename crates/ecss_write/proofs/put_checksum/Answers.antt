-- `ecss_write::put_checksum` meets its contract: two writes in a row leave the two octets of the checksum behind the first `end`.
use native.Mathlib.Omega.{arith}
use native.Mathlib.Numerals.{add-one}
use lib.Seq.{sets-eq}
use lib.ListN.{take, length-set}
use Rattle.space_packet.specs.Bits.{be16}
use Rattle.crc_register.specs.Crc.{crc_of}
use Rattle.ecss.specs.Frame.{sealed}
use Rattle.ecss_write.proofs.put_checksum.Goals as goal

pub bounds-buf-end-2 : goal.bounds-buf-end-2
bounds-buf-end-2 c =
    simp length-set (omega arith)

pub returns : goal.returns
unfolding sealed
returns c =
    let a = c.args in rw (c.crc_ccitt_false_no_table-w.ensures, c.front.ensures.result_value, add-one a.end, sets-eq (be16 (crc_of (take a.end a.buf.now))) a.buf.now a.end (omega arith))
