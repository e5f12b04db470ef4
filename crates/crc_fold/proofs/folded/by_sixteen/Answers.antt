-- `crc_fold::folded::by_sixteen` meets its contract: each turn takes in the 128 octets from i on.
use mathlib.Core.Path.{refl, sym, ap, ◌∙◌}
use native.Mathlib.Omega.{arith}
use lib.ListN.{take, drop}
use Rattle.crc_register.specs.Crc.{crc_from}
use Rattle.crc_fold.specs.Folded.{lows4, lows16}
use Rattle.crc_fold.proofs.Rows.{start, along, same, in-turn, quarters}
use Rattle.crc_fold.proofs.folded.by_sixteen.Goals as goal

pub loop-i-init : goal.loop-i-init
unfolding lows16
loop-i-init c =
    let a = c.args in
    let r = a.register in
    let s = a.s.now in
    along 128 (start s 0 r (omega arith)) (omega arith)
    (sym
    (in-turn 0 (lows4 c.first.result) (lows4 c.low_four_at.result)
    (lows4 c.low_four_at-2.result)
    (lows4 c.low_four_at-3.result)
    refl
    refl
    refl
    refl)
    ∙ in-turn r (take 32 s) (take 32 (drop 32 s)) (take 32 (drop 64 s)) (take 32 (drop 96 s))
    c.first.ensures
    (ap (crc_from _) c.low_four_at.ensures)
    (ap (crc_from _) c.low_four_at-2.ensures)
    (ap (crc_from _) c.low_four_at-3.ensures)
    ∙ ap (crc_from r) (sym (quarters 32 0 s)))

pub overflow_add-i : goal.overflow_add-i
overflow_add-i c =
    omega (arith, c.well_formed)

pub loop-i-preserved : goal.loop-i-preserved
loop-i-preserved c =
    along 128 c.loop-i.invariant (omega arith) c.fold_four_rows-f.ensures

pub returns : goal.returns
returns c =
    same c.down.ensures c.loop-i.invariant
