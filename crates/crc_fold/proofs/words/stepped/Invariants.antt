-- `crc_fold::words::stepped` meets its contract: each turn takes in the eight octets from i on.
use Prim.Native.Nat.{◌-◌}
use lib.ListN.{length, drop}
use Rattle.crc_register.specs.Crc.{crc_from}
use Rattle.crc_fold.specs.Word.{Left}
use Rattle.crc_fold.proofs.words.stepped.Given as goal

abbrev pub invariant-loop-i : goal.invariant-loop-i
invariant-loop-i l =
    Left l.s (crc_from l.register (drop l.from l.s)) l.i l.r

abbrev pub decreases-loop-i : goal.decreases-loop-i
decreases-loop-i l =
    length l.s - l.i
