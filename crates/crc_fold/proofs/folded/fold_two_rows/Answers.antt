-- `crc_fold::folded::fold_two_rows` meets its contract: 32 octets from i on, and 32 more.
use mathlib.Core.Path.{ap, ◌∙◌}
use Rattle.crc_register.specs.Crc.{crc_from}
use Rattle.crc_fold.specs.Folded.{lows16}
use Rattle.crc_fold.proofs.Rows.{twice}
use Rattle.crc_fold.proofs.folded.fold_two_rows.Goals as goal

pub returns : goal.returns
returns c =
    let a = c.args in
    twice (crc_from 0 (lows16 a.f)) 32 a.i a.s.now
    (c.fold_row.ensures ∙ ap (crc_from _) c.low_four_at.ensures)
    (c.fold_row-2.ensures ∙ ap (crc_from _) c.low_four_at-2.ensures)
