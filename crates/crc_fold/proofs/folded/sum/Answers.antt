-- `crc_fold::folded::sum` meets its contract: a sum of words is the sum of their octets, for each of the four.
use Rattle.crc_register.specs.Crc.{◌⊕◌}
use Rattle.crc_fold.specs.Folded.{lows4}
use Rattle.crc_fold.proofs.Fold.{sum-words}
use Rattle.crc_fold.proofs.folded.sum.Goals as goal

pub returns : goal.returns
unfolding ◌⊕◌ lows4
returns c =
    sum-words c.args.x c.args.y
