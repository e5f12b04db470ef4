-- `crc_fold::words::word_in` meets its contract: a register is the same as its two octets added to the first two of the word.
use mathlib.Core.Path.{◌∙◌}
use native.Mathlib.Omega.{arith}
use Rattle.crc_register.specs.Crc.{◌⊕◌}
use Rattle.crc_fold.proofs.Word.{met8}
use Rattle.crc_fold.proofs.words.word_in.Goals as goal

pub returns : goal.returns
unfolding ◌⊕◌
returns c =
    c.reduced.ensures ∙ met8 c.args.r c.args.w (omega arith)
