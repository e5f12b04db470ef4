-- `crc_fold::folded::turned` meets its contract: each of the four words is swapped.
use Rattle.crc_fold.specs.Folded.{octs4, lows4}
use Rattle.crc_fold.proofs.Rows.{four-alike}
use Rattle.crc_fold.proofs.folded.turned.Goals as goal

pub returns : goal.returns
unfolding octs4 lows4
returns c =
    four-alike c.swapped.ensures.0 c.swapped-2.ensures.0
    c.swapped-3.ensures.0
    c.swapped-4.ensures.0
