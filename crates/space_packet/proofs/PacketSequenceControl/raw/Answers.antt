-- `PacketSequenceControl::raw` meets its contract: the flags' number is at most 3, so the sum cannot wrap.
use native.Mathlib.Omega.{arith}
use Rattle.space_packet.proofs.Numbers.{flags-le}
use Rattle.space_packet.specs.Fields.{psc_raw}
use Rattle.space_packet.proofs.PacketSequenceControl.raw.Goals as goal

pub overflow_mul-result : goal.overflow_mul-result
overflow_mul-result c =
    omega (arith, flags-le c.args.self.seq_flags)

pub overflow_add-result : goal.overflow_add-result
overflow_add-result c =
    omega (arith, flags-le c.args.self.seq_flags)

pub returns : goal.returns
unfolding psc_raw
returns c =
    omega arith
