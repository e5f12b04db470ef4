-- `frame::raw_part` meets its contract: the empty part where the frame is refused, else the octets of its total.
use mathlib.Core.Path.{refl, sym, ap, ◌∙◌}
use Rattle.space_packet.specs.Answer.{answer_of}
use Rattle.ecss.proofs.frame.raw_part.Goals as goal

pub returns-in-Err : goal.returns-in-Err
returns-in-Err c =
    let e = sym c.frame_after.ensures ∙ ap answer_of c.in-Err.is in record { result_value = simp e; ref_ptr_value = refl }

pub returns-in-Ok : goal.returns-in-Ok
returns-in-Ok c =
    let e = sym c.frame_after.ensures ∙ ap answer_of c.in-Ok.is in record { result_value = simp e c.front.ensures.result_value; ref_ptr_value = c.front.ensures.ref_ptr_value }
