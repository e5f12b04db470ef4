-- `space_packet::put_words` meets its contract: six octets set one after the other are the three words and what stood behind.
use native.Mathlib.Omega.{arith}
use mathlib.Core.List.{◌++◌}
use lib.ListN.{length-set}
use lib.Seq.{sets-eq}
use Rattle.space_packet.specs.Bits.{be16}
use Rattle.space_packet.proofs.put_words.Goals as goal

pub bounds-buf-1 : goal.bounds-buf-1
bounds-buf-1 c =
    simp length-set (omega arith)

pub bounds-buf-2 : goal.bounds-buf-2
bounds-buf-2 c =
    simp length-set (omega arith)

pub bounds-buf-3 : goal.bounds-buf-3
bounds-buf-3 c =
    simp length-set (omega arith)

pub bounds-buf-4 : goal.bounds-buf-4
bounds-buf-4 c =
    simp length-set (omega arith)

pub returns : goal.returns
returns c =
    let a = c.args in sets-eq (be16 a.w0 ++ be16 a.w1 ++ be16 a.w2) a.buf.now 0 (omega arith)
