-- `crc_fold::folded::down` meets its contract: the four rows, turned, are taken in one after the other.
use mathlib.Core.Path.{ap, ◌∙◌}
use Rattle.crc_register.specs.Crc.{crc_from}
use Rattle.crc_fold.specs.Folded.{lows4, lows16}
use Rattle.crc_fold.proofs.Rows.{in-turn}
use Rattle.crc_fold.proofs.folded.down.Goals as goal

pub returns : goal.returns
unfolding lows16
returns c =
    let f = c.args.f in
    in-turn 0 (lows4 f.a) (lows4 f.b) (lows4 f.c) (lows4 f.d)
    (ap (crc_from 0) c.turned.ensures)
    (c.fold_four.ensures ∙ ap (crc_from _) c.turned-2.ensures)
    (c.fold_four-2.ensures ∙ ap (crc_from _) c.turned-3.ensures)
    (c.fold_four-3.ensures ∙ ap (crc_from _) c.turned-4.ensures)
