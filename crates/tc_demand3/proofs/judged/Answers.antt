-- `tc_demand3::judged` meets its contract: the verdict is the strict one, of which theorems 1, 2, 7 and 8 speak.
use mathlib.Core.Path.{sym, subst}
use native.Mathlib.Omega.{arith}
use Rattle.space_packet.specs.Answer.{Answer}
use Rattle.ecss.specs.Frame.{Octets}
use Rattle.exactness.specs.Demand3.{Exact}
use Rattle.tc_header.specs.Header.{tc}
use Rattle.tc_read.specs.declared.PusTcRecord.{PusTcRecord}
use Rattle.tc_demand3.specs.Rules.{report_for}
use Rattle.tc_demand3.proofs.Demand3.{exact}
use Rattle.tc_demand3.proofs.judged.Goals as goal

pub returns : goal.returns
returns c =
    let a = c.args in
    let s = a.octets.now in
    let e = c.judge_in.ensures in
    let o : Octets s = λ i. omega (arith, c.type_inv.octets i) in
    λ good. subst (λ (v : Answer PusTcRecord). Exact (tc a.form) (report_for a.form) v s) (sym e) (exact a.form good s o)
