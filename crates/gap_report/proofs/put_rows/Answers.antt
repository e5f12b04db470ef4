-- `gap_report::put_rows` meets its contract: each turn lays the line of one row.
use Rattle.std.proofs.Common.{refl}
use Rattle.gap_report.proofs.Lines.{on, done}
use Rattle.gap_report.proofs.put_rows.Goals as goal

pub loop-row-preserved : goal.loop-row-preserved
loop-row-preserved c =
    on _ _ _ _ _ _ _ c.loop-row.invariant c.loop-row-test.true refl c.put_row-at.ensures

pub returns : goal.returns
returns c =
    done _ _ _ _ c.loop-row.invariant c.loop-row-test.false
