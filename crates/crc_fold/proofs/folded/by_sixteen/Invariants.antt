-- `crc_fold::folded::by_sixteen` meets its contract: each turn takes in the 128 octets from i on.
use Prim.Native.Nat.{◌-◌}
use lib.ListN.{length}
use Rattle.crc_register.specs.Crc.{crc_from}
use Rattle.crc_fold.specs.Word.{Left}
use Rattle.crc_fold.specs.Folded.{lows16}
use Rattle.crc_fold.proofs.folded.by_sixteen.Given as goal

abbrev pub invariant-loop-i : goal.invariant-loop-i
invariant-loop-i l =
    Left l.s (crc_from l.register l.s) l.i (crc_from 0 (lows16 l.f))

abbrev pub decreases-loop-i : goal.decreases-loop-i
decreases-loop-i l =
    length l.s - l.i
