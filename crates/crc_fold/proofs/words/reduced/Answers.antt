-- `crc_fold::words::reduced` meets its contract: a test at each of the 64 bits.
use native.Mathlib.Omega.{arith}
use Rattle.crc_register.specs.Crc.{◌⊕◌}
use Rattle.crc_fold.proofs.Word.{shifts8, by-shifts}
use Rattle.crc_fold.proofs.words.reduced.Goals as goal

pub returns : goal.returns
unfolding ◌⊕◌ shifts8
returns c =
    by-shifts c.args.w (omega arith)
