-- `gap_report::answer` meets its contract: the report of what was read, or that it cannot be read.
use mathlib.Core.Path.{◌∙◌}
use native.Mathlib.Omega.{arith}
use Rattle.text.specs.Ascii.{ascii}
use Rattle.input.proofs.Readings.{printed-octets, printed-failed}
use Rattle.input.proofs.Shown.{laid-counts, laid-text, rendered-counts, rendered-text}
use Rattle.gap_report.specs.Report.{report_text}
use Rattle.gap_report.proofs.answer.Goals as goal

pub returns-in-Ok : goal.returns-in-Ok
returns-in-Ok c =
    let r = c.render.ensures in
    let room = c.requires in record { prefix_len = rendered-counts r room; out_after = rendered-text r room ∙ printed-octets (ascii "tcgaps 1\n") report_text _ _ _ _ c.in-Ok.is c.part.ensures }

pub returns-in-Err : goal.returns-in-Err
returns-in-Err c =
    let e = c.put_text.ensures in
    let room = c.requires in record { prefix_len = laid-counts _ _ _ _ e (omega (arith, room)); out_after = laid-text _ _ _ _ e (omega (arith, room)) ∙ printed-failed (ascii "tcgaps 1\n") report_text _ _ c.in-Err.is }
