-- `crc_fold::folded::low_four_at` meets its contract: 32 octets are four times eight, and each word is read by `low_at`.
use mathlib.Core.Path.{sym, ◌∙◌}
use Rattle.crc_fold.specs.Folded.{lows4}
use Rattle.crc_fold.proofs.Rows.{four-alike, quarters}
use Rattle.crc_fold.proofs.folded.low_four_at.Goals as goal

pub returns : goal.returns
unfolding lows4
returns c =
    let a = c.args in
    four-alike c.low_at.ensures c.low_at-2.ensures c.low_at-3.ensures
    c.low_at-4.ensures
    ∙ sym (quarters 8 a.i a.s.now)
