-- `tm_demand3::judged` meets its contract: the verdict is the strict one, of which theorems 1, 2, 7 and 8 speak.
use mathlib.Core.Path.{sym, subst}
use native.Mathlib.Omega.{arith}
use Rattle.space_packet.specs.Answer.{Answer}
use Rattle.ecss.specs.Frame.{Octets}
use Rattle.exactness.specs.Demand3.{Exact}
use Rattle.tm_header.specs.Header.{tm}
use Rattle.tm_read.specs.declared.PusTmRecord.{PusTmRecord}
use Rattle.tm_demand3.specs.Rules.{report_for}
use Rattle.tm_demand3.proofs.Demand3.{exact}
use Rattle.tm_demand3.proofs.judged.Goals as goal

pub returns : goal.returns
returns c =
    let a = c.args in
    let t = a.time_len in
    let s = a.octets.now in
    let e = c.judge.ensures in
    let o : Octets s = λ i. omega (arith, c.type_inv.octets i) in
    λ good. subst (λ (v : Answer PusTmRecord). Exact (tm t) (report_for t) v s) (sym e) (exact t good s o)
