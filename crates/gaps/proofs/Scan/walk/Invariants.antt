-- `Scan::walk` meets its contract: each turn takes the piece at the cursor, and lists its gap.
use Prim.Native.Nat.{◌-◌}
use lib.ListN.{length}
use Rattle.gaps.proofs.Walks.{Here}
use Rattle.gaps.proofs.Scan.walk.Given as goal

abbrev pub invariant-loop-next : goal.invariant-loop-next
invariant-loop-next l = Here l.capture l.initial.list l.list l.self l.cursor.at

abbrev pub decreases-loop-next : goal.decreases-loop-next
decreases-loop-next l = length l.capture - l.cursor.at
