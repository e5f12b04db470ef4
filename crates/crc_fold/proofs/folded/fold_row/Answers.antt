-- `crc_fold::folded::fold_row` meets its contract: what is added is a multiple of G^64, which leaves an empty register.
use Rattle.crc_fold.specs.Folded.{lows16}
use Rattle.crc_fold.proofs.Fold.{fold-rows}
use Rattle.crc_fold.proofs.folded.fold_row.Goals as goal

pub returns : goal.returns
unfolding lows16
returns c =
    let a = c.args in
    fold-rows a.f.a a.f.b a.f.c a.f.d a.v c.sum.ensures
    c.sum-2.ensures c.sum-3.ensures c.sum-4.ensures
