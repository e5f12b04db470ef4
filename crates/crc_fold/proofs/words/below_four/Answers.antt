-- `crc_fold::words::below_four` meets its contract: two octets are taken in where there are two, and fewer are left.
use mathlib.Core.Path.{◌∙◌}
use native.Mathlib.Omega.{arith}
use Rattle.crc_fold.proofs.Rows.{start, along}
use Rattle.crc_fold.proofs.words.below_four.Goals as goal

pub returns-then-s-i-ge2 : goal.returns-then-s-i-ge2
returns-then-s-i-ge2 c =
    let a = c.args in
    c.below_two.ensures ∙ (along 2 (start a.s.now a.i a.r (omega arith)) (omega arith) c.two_in.ensures).will
