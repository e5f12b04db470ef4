-- `crc_fold::folded::fold_four` meets its contract: the four words are folded in one after the other.
use Rattle.crc_register.specs.Crc.{crc_from}
use Rattle.crc_fold.specs.Word.{octs}
use Rattle.crc_fold.specs.Folded.{octs4}
use Rattle.crc_fold.proofs.Rows.{in-turn}
use Rattle.crc_fold.proofs.folded.fold_four.Goals as goal

pub returns : goal.returns
unfolding octs4
returns c =
    let a = c.args in
    let v = a.v in
    in-turn (crc_from 0 (octs4 a.f)) (octs 8 v.a) (octs 8 v.b) (octs 8 v.c) (octs 8 v.d) c.fold.ensures
    c.fold-2.ensures
    c.fold-3.ensures
    c.fold-4.ensures
