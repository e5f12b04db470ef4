-- `params_exact::carried` meets its contract: what the write leaves is accepted, and read as the pairs.
use mathlib.Core.Path.{ap, ◌∙◌}
use native.Mathlib.Omega.{arith}
use Rattle.ecss_write.specs.Writer.{packet_by}
use Rattle.params.specs.Request.{read_request, kept_of}
use Rattle.params_exact.proofs.Whole.{judged-by, data-by, sent-accepted, sent-read}
use Rattle.params_exact.proofs.carried.Goals as goal

pub returns : goal.returns
returns c =
    let a = c.args in
    let t = a.creator in
    let l = a.list.now in
    let d = a.«data».now in
    let e = c.form-form.ensures in
    λ ps w q k.
    let good = k.form-good in
    let r = sent-accepted t good d a.buf.now _ _ k.checksummed k.rules (record { fits = k.fits; is_slice = omega (arith, c.well_formed) }) c.write_to_slice.ensures in
    record {
      accepted = c.judge_in-verdict.ensures ∙ judged-by _ _ _ e ∙ r.accepted;
      read = c.read_params-read.ensures ∙ ap kept_of (ap (read_request l) (c.app_data_in.ensures.result_value ∙ data-by _ _ _ e) ∙ sent-read t.form good l ps (packet_by t.sp_header t.sec_header d) a.buf.now _ _ w q k.rules r);
    }
