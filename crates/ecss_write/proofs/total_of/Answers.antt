-- `ecss_write::total_of` meets its contract: neither sum can wrap once its test has passed.
use mathlib.Core.Path.{sym}
use native.Mathlib.Omega.{arith}
use Prim.Native.Nat.{◌<◌}
use borrow.Author.Tests.{lt-ltb}
use Rattle.space_packet.proofs.Answers.{refuse-yes}
use Rattle.ecss_write.specs.Write.{total_for, machine_total}
use Rattle.ecss_write.proofs.Totals.{trailer-le, total-length}
use Rattle.ecss_write.proofs.total_of.Goals as goal

pub overflow_sub-most : goal.overflow_sub-most
overflow_sub-most c =
    omega (arith, trailer-le c.args.has_checksum)

pub returns-then-most-start : goal.returns-then-most-start
unfolding machine_total
returns-then-most-start c =
    let a = c.args in
    let t = total_for a.start a.has_checksum a.data_len in
    let k = trailer-le a.has_checksum in
    let h : 18446744073709551615 < t = omega arith in sym (refuse-yes _ _ _ (lt-ltb 18446744073709551615 t h))

pub returns-then-most-start-2 : goal.returns-then-most-start-2
unfolding machine_total
returns-then-most-start-2 c =
    let a = c.args in
    let t = total_for a.start a.has_checksum a.data_len in
    let k = trailer-le a.has_checksum in
    let h : 18446744073709551615 < t = omega arith in sym (refuse-yes _ _ _ (lt-ltb 18446744073709551615 t h))

pub returns : goal.returns
returns c =
    let a = c.args in
    let k = trailer-le a.has_checksum in
    sym (total-length a.start a.has_checksum a.data_len _ (omega arith) (omega arith))
