-- `report::put_lines` meets its contract: each turn lays the line of the piece at the cursor.
use Rattle.report.proofs.Lines.{on}
use Rattle.report.proofs.put_lines.Goals as goal

pub loop-cursor-smaller : goal.loop-cursor-smaller
loop-cursor-smaller c =
    (on _ _ _ _ _ _ _ _ c.loop-cursor.invariant c.in-Some.is c.step-step.ensures c.put_step-at.ensures c.onward-cursor.ensures).further

pub loop-cursor-preserved : goal.loop-cursor-preserved
loop-cursor-preserved c =
    (on _ _ _ _ _ _ _ _ c.loop-cursor.invariant c.in-Some.is c.step-step.ensures c.put_step-at.ensures c.onward-cursor.ensures).left
