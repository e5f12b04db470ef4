-- `profile_exact::judged` meets its contract: the verdict is the profile's, of which `exact` and `tells_first` speak.
use mathlib.Core.Path.{sym, subst}
use native.Mathlib.Omega.{arith}
use Rattle.space_packet.specs.Answer.{Answer}
use Rattle.ecss.specs.Frame.{Octets}
use Rattle.tc_read.specs.declared.PusTcRecord.{PusTcRecord}
use Rattle.profile_exact.specs.First.{TellsFirst}
use Rattle.profile_exact.specs.Within.{Exactly}
use Rattle.profile_exact.proofs.Exactly.{exact}
use Rattle.profile_exact.proofs.First.{tells_first}
use Rattle.profile_exact.proofs.judged.Goals as goal

pub returns : goal.returns
returns c =
    let s = c.args.octets.now in
    let o : Octets s = λ i. omega (arith, c.shared_slice_known-1.given i) in
    subst (λ (v : Answer PusTcRecord). Exactly v s × TellsFirst v s) (sym c.judge.ensures) (exact s o, tells_first s)
