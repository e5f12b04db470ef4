-- `crc_fold::folded::closed` meets its contract: the four words are taken in one after the other.
use Rattle.crc_fold.specs.Word.{octs}
use Rattle.crc_fold.specs.Folded.{octs4}
use Rattle.crc_fold.proofs.Rows.{in-turn}
use Rattle.crc_fold.proofs.folded.closed.Goals as goal

pub returns : goal.returns
unfolding octs4
returns c =
    let f = c.args.f in
    in-turn 0 (octs 8 f.a) (octs 8 f.b) (octs 8 f.c) (octs 8 f.d) c.word_in.ensures
    c.word_in-2.ensures
    c.word_in-3.ensures
    c.word_in-4.ensures
