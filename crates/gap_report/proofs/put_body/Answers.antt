-- `gap_report::put_body` meets its contract: too long, or the gaps and the end with 5,041 places.
use Prim.Native.Nat.{ℕ}
use mathlib.Core.Path.{ap, ◌∙◌}
use native.Mathlib.Omega.{arith}
use lib.ListN.{replicate, length-replicate}
use Rattle.text.specs.Page.{laid}
use Rattle.gap_report.proofs.Body.{body-long, body-whole}
use Rattle.gap_report.proofs.put_body.Goals as goal

pub returns-then-capture-gt65536 : goal.returns-then-capture-gt65536
returns-then-capture-gt65536 c =
    c.put_text.ensures ∙ ap (laid _) (body-long _ (omega (arith, c.if-capture-gt65536.true)))

pub returns : goal.returns
returns c =
    let row = replicate {A = ℕ} 3 0 in
    c.put_gaps.ensures ∙ ap (laid _) (body-whole _ (replicate 5041 row) (length-replicate 5041 row) (omega (arith, c.if-capture-gt65536.false)))
