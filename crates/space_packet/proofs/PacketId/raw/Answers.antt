-- `PacketId::raw` meets its contract: the type's number and the flag's are at most 1, so no sum can wrap.
use native.Mathlib.Omega.{arith}
use Rattle.space_packet.proofs.Numbers.{type-le, bool_le, bool-flag}
use Rattle.space_packet.specs.Fields.{id_raw}
use Rattle.space_packet.proofs.PacketId.raw.Goals as goal

pub overflow_mul-result : goal.overflow_mul-result
overflow_mul-result c =
    omega (arith, type-le c.args.self.packet_type)

pub overflow_mul-result-2 : goal.overflow_mul-result-2
overflow_mul-result-2 c =
    omega (arith, bool_le c.args.self.sec_header_flag)

pub overflow_add-result : goal.overflow_add-result
overflow_add-result c =
    omega (arith, type-le c.args.self.packet_type, bool_le c.args.self.sec_header_flag)

pub overflow_add-result-2 : goal.overflow_add-result-2
overflow_add-result-2 c =
    let i = c.args.self in omega (arith, type-le i.packet_type, bool_le i.sec_header_flag)

pub returns : goal.returns
unfolding id_raw
returns c =
    omega (arith, bool-flag c.args.self.sec_header_flag)
