-- `crc_fold::folded::by_four` meets its contract: each turn takes in the 32 octets from i on.
use Prim.Native.Nat.{◌-◌}
use lib.ListN.{length, drop}
use Rattle.crc_register.specs.Crc.{crc_from}
use Rattle.crc_fold.specs.Word.{Left}
use Rattle.crc_fold.specs.Folded.{octs4}
use Rattle.crc_fold.proofs.folded.by_four.Given as goal

abbrev pub invariant-loop-i : goal.invariant-loop-i
invariant-loop-i l =
    Left l.s (crc_from (crc_from 0 (octs4 l.initial.f)) (drop l.from l.s)) l.i (crc_from 0 (octs4 l.f))

abbrev pub decreases-loop-i : goal.decreases-loop-i
decreases-loop-i l =
    length l.s - l.i
