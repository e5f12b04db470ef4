-- `report::render` meets its contract: the first line and the body, which `room` octets hold.
use mathlib.Core.Path.{◌∙◌}
use Rattle.text.proofs.Pages.{and_then, laid-start}
use Rattle.report.specs.Report.{report_text}
use Rattle.report.proofs.Room.{report-length}
use borrow.Author.Rules.{rules}
use Rattle.report.proofs.render.Goals as goal

pub returns : goal.returns
unfolding report_text
returns c =
    let capture = c.args.capture.now in
    let laid-all = and_then _ _ _ c.put_text-at.ensures c.put_body.ensures in
    record {
      shown = laid-all ∙ laid-start (report_text capture) c.args.out.now;
      whole = report-length capture (search rules);
    }
