-- `crc_fold::folded::first` meets its contract: a register stands for two octets, and these are added to the first word.
use mathlib.Core.Path.{refl, sym, ap, ◌∙◌}
use native.Mathlib.Omega.{arith}
use Rattle.crc_register.specs.Crc.{◌⊕◌, crc_from}
use Rattle.crc_fold.specs.Word.{lows}
use Rattle.crc_fold.specs.Folded.{lows4}
use Rattle.crc_fold.proofs.Word.{met-low}
use Rattle.crc_fold.proofs.Rows.{in-turn}
use Rattle.crc_fold.proofs.folded.first.Goals as goal

pub returns : goal.returns
unfolding ◌⊕◌ lows4
returns c =
    let r = c.args.register in
    let f = c.low_four_at-f.result in
    let p = c.swapped.result in
    sym (in-turn 0 (lows (f.a ⊕ p)) (lows f.b) (lows f.c) (lows f.d) refl refl refl refl)
    ∙ in-turn r (lows f.a) (lows f.b) (lows f.c) (lows f.d)
    (met-low r f.a p (omega arith) c.swapped.ensures.1)
    refl
    refl
    refl
    ∙ ap (crc_from r) c.low_four_at-f.ensures
