-- `crc_fold::folded::fold_four_rows` meets its contract: 64 octets from i on, and 64 more.
use Rattle.crc_register.specs.Crc.{crc_from}
use Rattle.crc_fold.specs.Folded.{lows16}
use Rattle.crc_fold.proofs.Rows.{twice}
use Rattle.crc_fold.proofs.folded.fold_four_rows.Goals as goal

pub returns : goal.returns
returns c =
    let a = c.args in
    twice (crc_from 0 (lows16 a.f)) 64 a.i a.s.now c.fold_two_rows.ensures c.fold_two_rows-2.ensures
