-- `crc_fold::words::swapped` meets its contract: the joined octets are those of the word, the lowest first.
use Rattle.crc_fold.proofs.Word.{swaps}
use Rattle.crc_fold.proofs.words.swapped.Goals as goal

pub returns : goal.returns
returns c =
    swaps c.join.result c.args.w c.join.ensures
