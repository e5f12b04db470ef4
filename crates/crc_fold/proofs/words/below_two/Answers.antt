-- `crc_fold::words::below_two` meets its contract: the one octet that is left is taken in, or there is none.
use mathlib.Core.Path.{refl}
use native.Mathlib.Omega.{arith}
use lib.ListN.{drop}
use Rattle.crc_register.specs.Crc.{crc_from}
use Rattle.crc_fold.proofs.Loop.{StillMakes, turn, end}
use Rattle.crc_fold.proofs.words.below_two.Goals as goal

pub returns-then-i-s : goal.returns-then-i-s
returns-then-i-s c =
    let a = c.args in
    let k : StillMakes a.s.now (crc_from a.r (drop a.i a.s.now)) a.i a.r = record { kept = refl } in
    end (turn k (omega arith) c.no_table_octet.ensures) (omega arith)

pub returns : goal.returns
returns c =
    let a = c.args in
    let k : StillMakes a.s.now (crc_from a.r (drop a.i a.s.now)) a.i a.r = record { kept = refl } in
    end k (omega arith)
