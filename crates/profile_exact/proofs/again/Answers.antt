-- `profile_exact::again` meets its contract: what is accepted is not refused, and what is built of it is the packet.
use mathlib.Core.Path.{◌∙◌}
use native.Mathlib.Omega.{arith}
use Rattle.space_packet.proofs.Answers.{gives-inj, never}
use Rattle.ecss.specs.Frame.{Octets}
use Rattle.profile_exact.proofs.Building.{copied-written}
use Rattle.profile_exact.proofs.again.Goals as goal

pub returns-in_err-report : goal.returns-in_err-report
returns-in_err-report c =
    λ p q f. absurd (never _ _ (c.in_err-report.ensures ∙ q))

pub returns : goal.returns
returns c =
    let a = c.args in
    let o : Octets a.octets.now = λ i. omega (arith, c.type_inv.octets i) in
    λ p q f.
    copied-written a.octets.now p _ _ _ a.buf.now _ _ o q f (gives-inj _ p (c.in_ok-report.ensures ∙ q)) c.copied.ensures c.app_data.ensures.result_value c.made.ensures
