-- `crc_fold::folded::by_four` meets its contract: each turn takes in the 32 octets from i on.
use mathlib.Core.Path.{refl, ap, ◌∙◌}
use native.Mathlib.Omega.{arith}
use Rattle.crc_register.specs.Crc.{crc_from}
use Rattle.crc_fold.specs.Folded.{octs4}
use Rattle.crc_fold.proofs.Rows.{along, same}
use Rattle.crc_fold.proofs.folded.by_four.Goals as goal

pub loop-i-init : goal.loop-i-init
loop-i-init c =
    record { within = omega arith; will = refl }

pub loop-i-preserved : goal.loop-i-preserved
loop-i-preserved c =
    let l = c.loop-i in
    along 32 l.invariant (omega arith)
    (c.fold_four-f.ensures
    ∙ ap (crc_from (crc_from 0 (octs4 l.f))) (c.turned.ensures ∙ c.low_four_at.ensures))

pub returns : goal.returns
returns c =
    same c.closed.ensures c.loop-i.invariant
