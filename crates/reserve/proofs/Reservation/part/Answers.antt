-- `Reservation::part` meets its contract: bounds that are given lie in the buffer, and a refusal is the empty part.
use mathlib.Core.Path.{sym, ap, ◌∙◌}
use native.Mathlib.Omega.{arith}
use Rattle.space_packet.specs.Answer.{answer_of}
use Rattle.space_packet.proofs.Parts.{beyond-none}
use Rattle.reserve.proofs.Reserved.{bounds-are}
use Rattle.reserve.proofs.Reservation.part.Goals as goal

pub slice_bounds-result-count : goal.slice_bounds-result-count
slice_bounds-result-count c =
    let e = sym c.bounds.ensures ∙ ap answer_of c.in-Ok.is in let q = bounds-are _ _ _ _ e in omega arith

pub slice_bounds-result-start : goal.slice_bounds-result-start
slice_bounds-result-start c =
    let e = sym c.bounds.ensures ∙ ap answer_of c.in-Ok.is in let q = bounds-are _ _ _ _ e in omega arith

pub slice_bounds-result-end-in-Ok : goal.slice_bounds-result-end-in-Ok
slice_bounds-result-end-in-Ok c =
    let e = sym c.bounds.ensures ∙ ap answer_of c.in-Ok.is in let q = bounds-are _ _ _ _ e in omega arith

pub returns-in-Err : goal.returns-in-Err
returns-in-Err c =
    let e = sym c.bounds.ensures ∙ ap answer_of c.in-Err.is in record { result_value = simp e; ref_ptr_value = simp e (beyond-none _) }

pub returns-in-Ok : goal.returns-in-Ok
returns-in-Ok c =
    let e = sym c.bounds.ensures ∙ ap answer_of c.in-Ok.is in record { result_value = simp e; ref_ptr_value = simp e }
