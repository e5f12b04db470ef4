-- `crc_fold::folded::fold` meets its contract: what is added is a multiple of G^16, which leaves an empty register.
use native.Mathlib.Omega.{arith}
use Rattle.crc_register.specs.Crc.{◌⊕◌}
use Rattle.crc_fold.specs.Folded.{octs4}
use Rattle.crc_fold.proofs.Fold.{fold_words}
use Rattle.crc_fold.proofs.folded.fold.Goals as goal

pub returns : goal.returns
unfolding ◌⊕◌ octs4
returns c =
    let a = c.args in
    fold_words a.f.a a.f.b a.f.c a.f.d a.v (omega arith)
