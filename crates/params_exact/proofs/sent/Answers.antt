-- `params_exact::sent` meets its contract: what was written, and no more, is carried.
use Prim.Native.Nat.{ℕ}
use mathlib.Core.Path.{◌≡◌, ◌∙◌, subst}
use mathlib.Core.List.{List}
use Rattle.space_packet.specs.Answer.{gives}
use Rattle.params.specs.Request.{pairs_of}
use Rattle.params_exact.specs.Requests.{request_for}
use Rattle.params_exact.specs.Command.{Sendable, Arrives}
use Rattle.params_exact.proofs.Machine.{values-held, places}
use Rattle.params_exact.proofs.Calls.{request-held, front-is}
use Rattle.params_exact.proofs.sent.Goals as goal

pub returns : goal.returns
returns c =
    let t = c.args.creator in
    let p = c.args.params in
    let l = c.args.list.now in
    let g = c.well_formed.1.0 in
    λ o e h u.
    let f = c.front.ensures.result_value ∙ front-is l p o _ _ _ e h c.write_to_slice.ensures _ c.unwrap_or-n.ensures in
    subst (λ (x : List ℕ). request_for l (pairs_of p) ≡ gives x → Sendable t x c.args.buf.now → Arrives t x (pairs_of p) c.carried.result) f
    (c.carried.ensures (pairs_of p) (values-held p _ g))
    (request-held l p o (places p _ g) e)
    u
