-- `packet::put_head` meets its contract: a header in range is written, and `sec` has room behind its six octets.
use native.Mathlib.Omega.{arith}
use Rattle.ecss_write.proofs.Written.{head-left}
use Rattle.ecss_write.proofs.packet.put_head.Goals as goal

pub returns : goal.returns
returns c =
    let a = c.args in head-left a.h a.sec.now a.buf.now _ _ c.requires.0 c.requires.1 (omega arith) c.write_to_slice.ensures.left c.fill.ensures.left
