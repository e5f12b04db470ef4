-- `crc_fold::words::join` meets its contract: each octet is read out again.
use native.Mathlib.Omega.{arith}
use Rattle.crc_fold.proofs.Word.{joined}
use Rattle.crc_fold.proofs.words.join.Goals as goal

pub returns : goal.returns
returns c =
    let a = c.args in
    joined a.a a.b a.c a.d a.e a.f a.g a.h (omega arith) (omega arith) (omega arith) (omega arith) (omega arith) (omega arith) (omega arith) (omega arith)
