-- `frame::data_part` meets its contract: a total that the frame gives has room for start and checksum, within the octets.
use mathlib.Core.Path.{sym, ap, ◌∙◌}
use native.Mathlib.Omega.{arith}
use Rattle.space_packet.specs.Answer.{answer_of}
use Rattle.space_packet.proofs.Parts.{beyond-none}
use Rattle.ecss.proofs.After.{frame-given}
use Rattle.ecss.proofs.frame.data_part.Goals as goal

pub overflow_sub-end : goal.overflow_sub-end
overflow_sub-end c =
    let e = sym c.frame_after.ensures ∙ ap answer_of c.in-Ok.is in let q = frame-given _ _ _ _ _ e in omega arith

pub slice_bounds-result-count : goal.slice_bounds-result-count
slice_bounds-result-count c =
    let e = sym c.frame_after.ensures ∙ ap answer_of c.in-Ok.is in let q = frame-given _ _ _ _ _ e in omega arith

pub slice_bounds-result-start : goal.slice_bounds-result-start
slice_bounds-result-start c =
    let e = sym c.frame_after.ensures ∙ ap answer_of c.in-Ok.is in let q = frame-given _ _ _ _ _ e in omega arith

pub slice_bounds-result-end-in-Ok : goal.slice_bounds-result-end-in-Ok
slice_bounds-result-end-in-Ok c =
    let e = sym c.frame_after.ensures ∙ ap answer_of c.in-Ok.is in let q = frame-given _ _ _ _ _ e in omega arith

pub returns-in-Err : goal.returns-in-Err
returns-in-Err c =
    let e = sym c.frame_after.ensures ∙ ap answer_of c.in-Err.is in record { result_value = simp e; ref_ptr_value = simp e (beyond-none _) }

pub returns-in-Ok : goal.returns-in-Ok
returns-in-Ok c =
    let e = sym c.frame_after.ensures ∙ ap answer_of c.in-Ok.is in record { result_value = rw c.trailer_len.ensures (simp e); ref_ptr_value = simp e }
