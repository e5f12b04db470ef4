-- `crc_fold::words::stepped` meets its contract: each turn takes in the eight octets from i on.
use mathlib.Core.Path.{refl, ap, ◌∙◌}
use native.Mathlib.Omega.{arith}
use Rattle.crc_register.specs.Crc.{crc_from}
use Rattle.crc_fold.proofs.Rows.{along}
use Rattle.crc_fold.proofs.words.stepped.Goals as goal

pub loop-i-init : goal.loop-i-init
loop-i-init c =
    record { within = omega arith; will = refl }

pub loop-i-preserved : goal.loop-i-preserved
loop-i-preserved c =
    let l = c.loop-i in
    along 8 l.invariant (omega arith)
    (c.word_in-r.ensures ∙ ap (crc_from l.r) (c.swapped.ensures.0 ∙ c.low_at.ensures))

pub returns : goal.returns
returns c =
    c.below_eight.ensures ∙ c.loop-i.invariant.will
