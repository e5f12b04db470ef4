-- `params_exact::received` meets its contract: what the verdict accepts and is read is the command of its pairs, and the other way round.
use mathlib.Core.Path.{sym, ap, ◌∙◌}
use native.Mathlib.Omega.{arith}
use Rattle.ecss.specs.Frame.{Octets}
use Rattle.params.specs.Request.{read_request, kept_of}
use Rattle.params_exact.proofs.Whole.{read-commands, commands-read, kept_gives}
use Rattle.params_exact.proofs.received.Goals as goal

pub returns : goal.returns
returns c =
    let a = c.args in
    let s = a.octets.now in
    let l = a.list.now in
    let o : Octets s = λ i. omega (arith, c.shared_slice_known-1.given i) in
    let v = c.judge_in-verdict.ensures in
    let d = c.app_data_in.ensures.result_value in
    record {
      commands = λ ps t. read-commands a.form l s ps o
          (record { record_of = t.record_of; accepted = sym v ∙ t.accepted; type-is = t.type-is; read = ap (read_request l) (sym d) ∙ kept_gives _ ps (sym c.read_params-read.ensures ∙ t.read) });
      tells = λ good ps w k.
          let r = commands-read a.form l s ps good w k in
          record { record_of = r.record_of; accepted = v ∙ r.accepted; type-is = r.type-is; read = c.read_params-read.ensures ∙ ap kept_of (ap (read_request l) d ∙ r.read) };
    }
