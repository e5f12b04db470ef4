-- `answers::lines::buffer` meets its contract by a law: to count its zeros takes too long.
use Prim.Native.Nat.{ℕ}
use mathlib.Core.Path.{sym}
use lib.ListN.{length-replicate}
use Rattle.answers.proofs.lines.buffer.Goals as goal

pub returns : goal.returns
returns c =
    sym (length-replicate {A = ℕ} 1048576 0)
