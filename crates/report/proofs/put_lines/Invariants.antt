-- `report::put_lines` meets its contract: each turn lays the line of the piece at the cursor.
use Rattle.text.specs.Page.{page, laid}
use Rattle.tc_strict.specs.Split.{walk}
use Rattle.report.specs.Report.{lines_of}
use Rattle.report.proofs.Lines.{LeftAt, ahead}
use Rattle.report.proofs.put_lines.Given as goal

abbrev pub invariant-loop-cursor : goal.invariant-loop-cursor
invariant-loop-cursor l =
    LeftAt l.capture (laid (page l.initial.out l.initial.at) (lines_of (walk l.capture))) l.cursor (page l.out l.at)

abbrev pub decreases-loop-cursor : goal.decreases-loop-cursor
decreases-loop-cursor l = ahead l.capture l.cursor
