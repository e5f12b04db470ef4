-- `ecss_write::data_len_field` meets its contract: the field of a total within the limit.
use mathlib.Core.Path.{sym, ap, ◌∙◌}
use Rattle.space_packet.specs.Answer.{gives}
use Rattle.space_packet.proofs.Answers.{gives_then}
use Rattle.ecss_write.specs.Write.{length_field}
use Rattle.ecss_write.proofs.Totals.{limit-first, limited-most}
use Rattle.ecss_write.proofs.data_len_field.Goals as goal

pub field_of-requires : goal.field_of-requires
field_of-requires c =
    limited-most _ _ _ (gives_then _ _ _ (sym c.in_ok-total_of.ensures) ∙ sym c.in_ok-total.ensures)

pub returns : goal.returns
unfolding length_field
returns c =
    let t = gives_then _ _ _ (sym c.in_ok-total_of.ensures) ∙ sym c.in_ok-total.ensures in
    ap gives c.field_of.ensures ∙ sym (limit-first _ _ _ ∙ gives_then _ _ _ t)
