-- `crc_fold::folded::in_hand` meets its contract: below 256 octets the first 32 are taken in, else it is `by_sixteen`.
use mathlib.Core.Path.{ap, ◌∙◌}
use native.Mathlib.Omega.{arith}
use Rattle.crc_register.specs.Crc.{crc_from}
use Rattle.crc_fold.proofs.Rows.{start, along}
use Rattle.crc_fold.proofs.folded.in_hand.Goals as goal

pub returns-then-s-lt256 : goal.returns-then-s-lt256
returns-then-s-lt256 c =
    let a = c.args in
    along 32 (start a.s.now 0 a.register (omega arith)) (omega arith)
    (ap (crc_from 0) c.turned.ensures ∙ c.first.ensures)
