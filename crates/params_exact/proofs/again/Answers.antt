-- `params_exact::again` meets its contract: what was written, and no more, is read.
use mathlib.Core.Path.{ap, ◌∙◌}
use Rattle.params.specs.Request.{pairs_of, read_request, kept_of}
use Rattle.params_exact.proofs.Inverse.{read-written}
use Rattle.params_exact.proofs.Machine.{values-held, places}
use Rattle.params_exact.proofs.Calls.{request-held, front-is}
use Rattle.params_exact.proofs.again.Goals as goal

pub returns : goal.returns
returns c =
    let p = c.args.params in
    let l = c.args.list.now in
    let g = c.well_formed.0 in
    λ o e h.
    let f = front-is l p o _ _ _ e h c.write_to_slice.ensures _ c.unwrap_or-n.ensures in
    c.read_params.ensures ∙ ap kept_of (ap (read_request l) (c.front.ensures.result_value ∙ f) ∙ read-written l (pairs_of p) o (values-held p _ g) (request-held l p o (places p _ g) e))
