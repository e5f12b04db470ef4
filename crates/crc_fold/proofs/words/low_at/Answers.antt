-- `crc_fold::words::low_at` meets its contract: the joined octets in the other order are the eight from i on.
use mathlib.Core.Path.{ap, ◌∙◌}
use mathlib.Core.List.{reverse}
use native.Mathlib.Omega.{arith}
use Rattle.crc_fold.specs.Word.{lows}
use Rattle.crc_fold.proofs.Word.{gets, octets-at}
use Rattle.crc_fold.proofs.words.low_at.Goals as goal

pub returns : goal.returns
unfolding lows gets
returns c =
    let a = c.args in
    ap reverse c.join.ensures ∙ octets-at 7 a.s.now a.i (omega arith)
