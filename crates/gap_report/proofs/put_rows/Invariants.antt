-- `gap_report::put_rows` meets its contract: each turn lays the line of one row.
use Rattle.text.specs.Page.{page, laid}
use Rattle.gap_report.specs.Report.{rows_text}
use Rattle.gap_report.proofs.Lines.{Left}
use Rattle.gap_report.proofs.put_rows.Given as goal

abbrev pub invariant-loop-row : goal.invariant-loop-row
invariant-loop-row l =
    Left l.rows (laid (page l.initial.out l.initial.at) (rows_text l.rows)) l.row-index (page l.out l.at)
