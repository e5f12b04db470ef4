-- `stations_handover::judged` meets its contract: the verdict is the strict one on the part, of which `part-judged` speaks.
use mathlib.Core.Path.{sym, ap, ◌∙◌, subst}
use native.Mathlib.Omega.{arith}
use Rattle.ecss.specs.Frame.{Octets}
use Rattle.tm_strict.specs.Verdict.{strict_in}
use Rattle.stations_handover.specs.Handover.{Judged}
use Rattle.stations_handover.proofs.Parts.{part-judged}
use Rattle.stations_handover.proofs.judged.Goals as goal

pub returns : goal.returns
returns c =
    let a = c.args in
    let e = c.judge.ensures ∙ ap (strict_in a.time_len) c.best.ensures.result_value in
    let o : Octets a.first.now = λ i. omega (arith, c.shared_slice_known-1.given i) in
    let k : Octets a.second.now = λ i. omega (arith, c.shared_slice_known-2-1.given i) in
    subst (Judged a.time_len a.first.now a.second.now) (sym e) (part-judged _ _ _ o k)
