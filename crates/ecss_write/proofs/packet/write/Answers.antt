-- `packet::write` meets its contract: refused, without a checksum, or with the checksum over what was just written.
use Prim.Native.Nat.{◌+◌}
use mathlib.Core.List.{◌++◌}
use lib.ListN.{length}
use Rattle.space_packet.specs.Answer.{answer_of}
use Rattle.space_packet.specs.Header.{header_octets}
use mathlib.Core.Path.{sym}
use native.Mathlib.Omega.{arith}
use Rattle.ecss_write.specs.Write.{asked_by}
use Rattle.ecss_write.proofs.Written.{content-length, sealed-wrote}
use Rattle.ecss_write.proofs.packet.write.Goals as goal

pub returns-then-has_checksum : goal.returns-then-has_checksum
returns-then-has_checksum c =
    let a = c.args in let w = c.in_ok-end.ensures in let p = sym w.answered in sealed-wrote (asked_by a.asks a.h) (answer_of a.asks.version) (6 + length a.sec.now) a.has_checksum (length a.«data».now) (header_octets a.h ++ a.sec.now ++ a.«data».now) a.buf.now (content-length a.h a.sec.now a.«data».now) _ _ _ _ c.if-has_checksum.true p (omega arith) (omega arith) w.left c.seal.ensures
