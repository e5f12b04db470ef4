-- `SpacePacketHeader::put` meets its contract: the three words, of which the first cannot wrap: a packet ID is below 8192.
use Prim.Native.Nat.{◌+◌, ◌*◌}
use native.Mathlib.Omega.{arith}
use mathlib.Core.Path.{◌∙◌}
use mathlib.Core.List.{◌++◌}
use lib.ListN.{drop}
use Rattle.space_packet.specs.Bits.{be16}
use Rattle.space_packet.specs.Header.{header_octets}
use Rattle.space_packet.proofs.Numbers.{id-raw-lt}
use Rattle.space_packet.proofs.SpacePacketHeader.put.Goals as goal

pub overflow_add-w0 : goal.overflow_add-w0
overflow_add-w0 c =
    omega (arith, id-raw-lt c.args.self.packet_id)

pub returns : goal.returns
unfolding header_octets
returns c =
    let a = c.args in let h = a.self in c.put_words.ensures ∙ (λ i. (be16 (h.version * 8192 + c.packet_id_raw.ensures i) ++ be16 (c.psc_raw.ensures i) ++ be16 h.data_len) ++ drop 6 a.buf.now)
