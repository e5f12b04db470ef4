-- `Reservation::part_mut` meets its contract: bounds that are given lie in the buffer; a refusal is the empty part at its start.
use mathlib.Core.Path.{sym, ap, ◌∙◌}
use native.Mathlib.Omega.{arith}
use Rattle.space_packet.specs.Answer.{answer_of}
use Rattle.space_packet.proofs.Parts.{beyond-none}
use Rattle.reserve.proofs.Reserved.{bounds-are}
use Rattle.reserve.proofs.Reservation.part_mut.Goals as goal

pub slice_bounds-result-count : goal.slice_bounds-result-count
slice_bounds-result-count c =
    let e = sym c.bounds.ensures ∙ ap answer_of c.in-Ok.is in let q = bounds-are _ _ _ _ e in omega arith

pub slice_bounds-buf-start : goal.slice_bounds-buf-start
slice_bounds-buf-start c =
    let e = sym c.bounds.ensures ∙ ap answer_of c.in-Ok.is in let q = bounds-are _ _ _ _ e in omega arith

pub slice_bounds-buf-end : goal.slice_bounds-buf-end
slice_bounds-buf-end c =
    let e = sym c.bounds.ensures ∙ ap answer_of c.in-Ok.is in let q = bounds-are _ _ _ _ e in omega arith

pub returns-in-Err : goal.returns-in-Err
returns-in-Err c =
    let e = sym c.bounds.ensures ∙ ap answer_of c.in-Err.is in record { result_value = simp e; ref_ptr_value = simp e (beyond-none _) }

pub returns-in-Ok : goal.returns-in-Ok
returns-in-Ok c =
    let e = sym c.bounds.ensures ∙ ap answer_of c.in-Ok.is in record { result_value = simp e; ref_ptr_value = simp e }
