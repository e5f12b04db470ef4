-- `crc_fold::words::below_eight` meets its contract: four octets are taken in where there are four, and fewer are left.
use mathlib.Core.Path.{◌∙◌}
use native.Mathlib.Omega.{arith}
use Rattle.crc_fold.proofs.Rows.{start, along}
use Rattle.crc_fold.proofs.words.below_eight.Goals as goal

pub returns-then-s-i-ge4 : goal.returns-then-s-i-ge4
returns-then-s-i-ge4 c =
    let a = c.args in
    c.below_four.ensures ∙ (along 4 (start a.s.now a.i a.r (omega arith)) (omega arith) c.four_in.ensures).will
