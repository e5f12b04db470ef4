-- `gap_report::render` meets its contract: the first line and the body, which `room` octets hold.
use mathlib.Core.Path.{◌∙◌}
use Rattle.text.proofs.Pages.{and_then, laid-start}
use Rattle.gap_report.specs.Report.{report_text}
use Rattle.gap_report.proofs.Room.{report-length}
use Rattle.gap_report.proofs.render.Goals as goal

pub returns : goal.returns
unfolding report_text
returns c =
    record {
      shown = and_then _ _ _ c.put_text-at.ensures c.put_body.ensures ∙ laid-start (report_text c.args.capture.now) c.args.out.now;
      whole = report-length c.args.capture.now;
    }
