-- `crc_fold::words::two_in` meets its contract: zero octets in front leave nothing, and the register is added to the last two.
use mathlib.Core.Path.{refl, ap, ◌∙◌}
use native.Mathlib.Omega.{arith}
use Rattle.crc_register.specs.Crc.{◌⊕◌, crc_from}
use Rattle.crc_fold.proofs.Word.{met2, gets, octets-at}
use Rattle.crc_fold.proofs.words.two_in.Goals as goal

pub returns : goal.returns
unfolding ◌⊕◌ gets
returns c =
    let a = c.args in
    c.reduced.ensures
    ∙ met2 a.r c.join.result (omega arith) c.join.ensures refl
    ∙ ap (crc_from a.r) (octets-at 1 a.s.now a.i (omega arith))
